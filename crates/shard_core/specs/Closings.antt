-- Subscriptions that close, and what each opening and closing leaves for the hub.
use Rattle.std.specs.Prelude.{ℕ, Bool, false, not, ◌&&◌, nat_eq, List, ◌++◌, map, filter}
use Rattle.std.specs.List.{flat_map, list_any}
use Rattle.subj.specs.declared.keys.Delta.{Delta}
use Rattle.sub_table.specs.Subscriptions.{is_of, has_serial, serial_of}
use Rattle.sub_table.specs.declared.Subscription.{Subscription}
use Rattle.subj.specs.declared.identities.SubId.{SubId}
use Rattle.shard_core.specs.Shards.{State}

abbrev pub id_of : ℕ → ℕ → SubId
id_of shard serial = record { shard = shard; serial = serial }

abbrev pub serials_of : List Subscription → List ℕ
serials_of subs = map serial_of subs

-- it is none of these
abbrev pub is_left : List ℕ → Subscription → Bool
is_left ended sub = not (list_any (nat_eq sub.serial) ended)

-- the subscriptions of a connection that are none of these, in order of their serials
abbrev pub left_of : ℕ → List ℕ → List Subscription → List ℕ
left_of conn ended subs = serials_of (filter (λ sub. is_of conn sub && is_left ended sub) subs)

-- each closing leaves a delta, as each opening does, in order (profile)
abbrev pub closing : Subscription → Delta
closing sub = record { key = sub.key; up = false }

abbrev pub closings_of : List ℕ → List Subscription → List Delta
closings_of ended subs = flat_map (λ serial. map closing (filter (has_serial serial) subs)) ended

-- these close, in this order
abbrev pub without_subs : List ℕ → State → State
without_subs ended s = record s {
  subs = filter (is_left ended) s.subs;
  deltas = s.deltas ++ closings_of ended s.subs;
}

abbrev pub ended_ids : ℕ → List ℕ → List SubId
ended_ids shard ended = map (id_of shard) ended
