use Rattle.std.proofs.Common.{◌≡◌, List, All, length, take}
use Rattle.sub_table.specs.declared.Subscription.{Subscription}
use Rattle.shard_core.specs.Notes.{AreNotedRightly}
use Rattle.shard_core.proofs.receivers.ManyReceivers.forget.Given as goal

abbrev pub invariant-loop-place : goal.invariant-loop-place
invariant-loop-place l =
    (length l.self.places.items ≡ length l.initial.self.places.items)
    × ((subs : List Subscription) → All (AreNotedRightly subs) (take l.place l.self.places.items))
