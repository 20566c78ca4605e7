-- A delivery to a receiver that is noted.
use Rattle.std.specs.Prelude.{◌≡◌, ℕ, ◌+◌, Bool, false, ◌&&◌, List, [], ◌∷◌, ◌++◌, find, Option, Some, None, if◌then◌else◌}
use Rattle.client_frames.specs.Messages.{Tails, head_for, tail_for}
use Rattle.outbox.specs.Views.{Written, spelt_entry}
use Rattle.outbox.specs.declared.entries.Mode.TheVariants.{Plain}
use Rattle.sub_table.specs.Subscriptions.{has_serial}
use Rattle.sub_table.specs.declared.Subscription.{Subscription}
use Rattle.subj.specs.declared.identities.PubId.{PubId}
use Rattle.subj.specs.declared.jobs.Job.{Job}
use Rattle.shard_core.specs.Closings.{id_of}
use Rattle.shard_core.specs.Owed.{may_get_at, reaches}
use Rattle.shard_core.specs.Received.{Received, receiver_of}
use Rattle.shard_core.specs.Tallies.{Tallied}

-- of those that receive a subject, Begin places for the plain ones that may get the job
abbrev pub is_due_to : Job → Received → Bool
is_due_to job r = r.is_plain && may_get_at job r.conn

-- the entry of a message in two parts
abbrev pub entry_for : ℕ → PubId → Tails → Received → Bool → Written
entry_for shard id tails r option =
    spelt_entry id (id_of shard r.serial) Plain
    (head_for tails r.head option ++ tail_for tails option)

-- the next message is the last one
abbrev pub is_last_of : Option Subscription → Bool
is_last_of None = false
is_last_of (Some sub) = reaches sub.max (sub.delivered + 1)

abbrev pub ends_at : List Subscription → Received → Bool
ends_at subs r = r.is_limited && is_last_of (find (has_serial r.serial) subs)

-- the subscription of this serial was given a message, its last one or not; no copy is kept
abbrev pub with_noted : ℕ → Bool → Tallied → Tallied
with_noted serial ends t = record t {
  given = t.given ++ serial ∷ [];
  ended = t.ended ++ (if ends then serial ∷ [] else []);
}

-- the receiver is this open subscription
pub record IsFoundAs (subs : List Subscription) (subject : List ℕ) (r : Received)
    (sub : Subscription) : Type 0 where
  pub found : find (has_serial sub.serial) subs ≡ Some sub
  pub receiver : r ≡ receiver_of subject sub
