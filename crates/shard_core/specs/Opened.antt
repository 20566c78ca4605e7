-- The open subscriptions of a shard, and the openings and closings that its hub was not told of
-- yet.
use Rattle.std.specs.Prelude.{◌≡◌, ◌≢◌, ℕ, ◌+◌, ◌<◌, ◌≤◌, ◌^◌, List, [], ◌∷◌, ◌++◌, length, map, filter, All}
use Rattle.subj.specs.declared.keys.Delta.{Delta}
use Rattle.list_laws.specs.Lists.{Each, Pairs}
use Rattle.sub_table.specs.declared.Subscription.{Subscription}
use Rattle.shard_core.specs.Shards.{State}
use Rattle.subj.specs.Keys.{opening}
use Rattle.shard_core.specs.Closings.{serials_of, is_left, closings_of}
use Rattle.shard_core.specs.Owed.{sub_with_count}
use Rattle.shard_core.specs.Notes.{HoldNotes}
use Rattle.shard_core.specs.declared.notes.Notes.{Notes}

-- the open subscriptions in order of opening, and the openings and closings not told yet, in order
pub record Opened : Type 0 where
  pub subs : List Subscription
  pub deltas : List Delta

-- the part of a shard's state that this is
abbrev pub part_of : State → Opened
part_of s = record { subs = s.subs; deltas = s.deltas }

abbrev pub none_opened : Opened
none_opened = record { subs = []; deltas = [] }

-- serials rise from one subscription to the next
abbrev pub AreRising : List Subscription → Type 0
AreRising subs = Pairs (λ j k. j < k) (serials_of subs)

-- no serial stands twice
abbrev pub AreApart : List ℕ → Type 0
AreApart serials = Pairs (λ j k. j ≢ k) serials

-- a serial above all others may be opened
abbrev pub IsNext : ℕ → List Subscription → Type 0
IsNext serial subs = All (λ sub. sub.serial < serial) subs

-- one more message can be counted for the subscription
abbrev pub CanCount : ℕ → List Subscription → Type 0
CanCount serial subs = All (λ sub. sub.serial ≡ serial → sub.delivered + 1 < 2 ^ 64) subs

-- and for each of these
abbrev pub CanCountEach : List ℕ → List Subscription → Type 0
CanCountEach given subs = Each (λ serial. CanCount serial subs) given

-- ---- what changes

-- one more opens, and leaves its delta
abbrev pub with_opening : Subscription → Opened → Opened
with_opening sub o = record { subs = o.subs ++ sub ∷ []; deltas = o.deltas ++ opening sub.key ∷ [] }

-- those of these serials got one more message each
abbrev pub with_counts : List ℕ → Opened → Opened
with_counts given o = record o { subs = map (sub_with_count given) o.subs }

-- these close in this order, and leave their deltas
abbrev pub with_closings : List ℕ → Opened → Opened
with_closings ended o = record {
  subs = filter (is_left ended) o.subs;
  deltas = o.deltas ++ closings_of ended o.subs;
}

-- the hub was told of all
abbrev pub all_told : Opened → Opened
all_told o = record o { deltas = [] }

-- ---- what the fields keep

pub record IsOpened (subs : List Subscription) (deltas : List Delta) (capacity : ℕ)
    (notes : Notes) : Type 0 where
  pub rising : AreRising subs
  pub noted : HoldNotes subs notes
  -- a place for the closing delta of each open subscription
  pub places : length deltas + length subs ≤ capacity
