use Rattle.std.proofs.Common.{◌-◌, List, All, length}
use Rattle.sub_table.specs.declared.Subscription.{Subscription}
use Rattle.shard_core.specs.Notes.{AreNotedRightly}
use Rattle.shard_core.proofs.receivers.ManyReceivers.place.Given as goal

abbrev pub invariant-loop-self : goal.invariant-loop-self
invariant-loop-self l =
    (subs : List Subscription)
    → All (AreNotedRightly subs) l.initial.self.places.items
    → All (AreNotedRightly subs) l.self.places.items

abbrev pub decreases-loop-self : goal.decreases-loop-self
decreases-loop-self l = 64 - length l.self.places.items
