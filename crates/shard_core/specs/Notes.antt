-- What is noted of subjects, so that the jobs of them that come again need no look at the open
-- subscriptions.
use Rattle.std.specs.Prelude.{◌≡◌, true, List, All, filter}
use Rattle.sub_table.specs.Subscriptions.{gets}
use Rattle.sub_table.specs.declared.Subscription.{Subscription}
use Rattle.shard_core.specs.Members.{AreNoted}
use Rattle.shard_core.specs.Received.{receivers_of}
use Rattle.shard_core.specs.declared.notes.Notes.{Notes}
use Rattle.shard_core.specs.declared.receivers.Receivers.{Receivers}
use Rattle.shard_core.specs.declared.receivers.ManyReceivers.{ManyReceivers}

-- the receivers that are noted are all that receive the subject
abbrev pub AreNotedRightly : List Subscription → Receivers → Type 0
AreNotedRightly subs r =
    r.noted ≡ true
    → r.receivers.items ≡ receivers_of r.subject.items (filter (gets r.subject.items) subs)

-- those of each place
abbrev pub AreReceivers : List Subscription → ManyReceivers → Type 0
AreReceivers subs many = All (AreNotedRightly subs) many.places.items

-- all that is noted holds of these open subscriptions
pub record HoldNotes (subs : List Subscription) (notes : Notes) : Type 0 where
  pub members : AreNoted subs notes.members
  pub receivers : AreReceivers subs notes.receivers
