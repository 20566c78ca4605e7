use Rattle.std.proofs.Common.{◌≡◌, [], take}
use Rattle.std.specs.Prelude.{filter}
use Rattle.shard_core.specs.ReceiverSteps.{is_due_to}
use Rattle.shard_core.proofs.run_delivery.first_due.Given as goal

abbrev pub invariant-loop-receiver : goal.invariant-loop-receiver
invariant-loop-receiver l = filter (is_due_to l.job) (take l.receiver-index l.receivers) ≡ []
