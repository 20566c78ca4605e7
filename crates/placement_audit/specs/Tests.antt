-- The headline's clause as tests, which an audit computes.
use Rattle.std.specs.Prelude.{ℕ, Bool, true, false, not, ◌&&◌, nat_eq, nat_lt, nat_le, List, filter, Option, Some, None}
use Rattle.std.specs.List.{list_any}
use Rattle.std.specs.Str.{bytes_eq}
use Rattle.client_frames.specs.Messages.{due_bytes}
use Rattle.outbox.specs.declared.entries.Mode.{Mode}
use Rattle.outbox.specs.declared.entries.Mode.TheVariants.{Plain, Queue}
use Rattle.subj.specs.Matching.{subject_matches}
use Rattle.world_law.specs.State.{Publication, Life, Placement}
use Rattle.placement_audit.specs.Keys.{Once, is_life, is_once, is_publication, key_of, plain_key}

-- ---- whether it is what a subscription is due of a publication

abbrev pub is_mode : Option (List ℕ) → Mode → Bool
is_mode None Plain = true
is_mode None (Queue name) = false
is_mode (Some name) Plain = false
is_mode (Some name) (Queue other) = bytes_eq name other

abbrev pub is_not_before : ℕ → Option ℕ → Bool
is_not_before step None = true
is_not_before step (Some closed) = nat_le step closed

abbrev pub is_open : Life → ℕ → Bool
is_open life step = nat_lt life.opened step && is_not_before step life.closed

abbrev pub is_for : Publication → Life → Placement → Bool
is_for source life p =
    nat_lt source.step p.step
    && (is_open life p.step
    && (nat_eq life.conn p.conn
    && (is_mode life.key.queue p.mode && subject_matches life.key.pattern source.message.subject)))

abbrev pub is_due : Publication → Life → Placement → Bool
is_due source life p =
    is_for source life p && bytes_eq (due_bytes source.message life.sid p.headers) p.bytes

abbrev pub any_due : Publication → Placement → List Life → Bool
any_due source p lives = list_any (λ (life : Life). is_due source life p) lives

abbrev pub any_owed : Placement → List Life → List Publication → Bool
any_owed p lives sources = list_any (λ (source : Publication). any_due source p lives) sources

-- of those that have the names that the placement has
abbrev pub is_owed : List Publication → List Life → Placement → Bool
is_owed publications lives p =
    any_owed p (filter (λ (l : Life). is_life l.id p.life) lives)
    (filter (λ (s : Publication). is_publication s.id p.id) publications)

-- ---- whether none before it was of the same publication for the same plain subscription or queue
-- name

-- one of these is of this publication for this
abbrev pub is_placed_for : List Placement → Once → Bool
is_placed_for done key = list_any (λ (q : Placement). is_once (key_of q) key) done

-- its subscription may have had a queue name, and have been told as plain before
abbrev pub is_first : List Placement → Placement → Bool
is_first done p =
    not (is_placed_for done (plain_key p.id p.life)) && not (is_placed_for done (key_of p))

-- ---- whether it keeps the clause behind these

abbrev pub is_kept_behind : List Publication → List Life → List Placement → Placement → Bool
is_kept_behind publications lives done p = is_owed publications lives p && is_first done p
