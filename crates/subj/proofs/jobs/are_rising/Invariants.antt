use Rattle.std.proofs.Common.{◌≡◌, length, All}
use Rattle.subj.specs.QueueNames.{IsQueueName, are_rising}
use Rattle.subj.proofs.jobs.are_rising.Given as goal

-- what is left decides as the whole does, and all are names where what is left are
abbrev pub invariant-loop-name : goal.invariant-loop-name
invariant-loop-name l = record {
  decides : are_rising l.names ≡ are_rising l.fn.names;
  names : All IsQueueName l.names → All IsQueueName l.fn.names;
}

abbrev pub decreases-loop-name : goal.decreases-loop-name
decreases-loop-name l = length l.names
