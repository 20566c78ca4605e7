use Rattle.std.proofs.Common.{◌≡◌, List, ◌++◌, drop, filter}
use Rattle.shard_core.specs.ReceiverSteps.{is_due_to}
use Rattle.shard_core.specs.RunSteps.{AreStaged, due_serials}
use Rattle.shard_core.specs.Shards.{Client}
use Rattle.shard_core.proofs.run_delivery.stage_each.Given as goal

-- what is left to be put comes to the whole
abbrev pub invariant-loop-receiver : goal.invariant-loop-receiver
invariant-loop-receiver l = record {
  shown : l.conns.shown ≡ l.fn.conns.shown;
  tails : l.buffer.tails ≡ l.fn.buffer.tails;
  clients : (to : List Client)
      → AreStaged l.shard l.fn.buffer.tails l.fn.conns.shown
      (filter (is_due_to l.first) (drop l.receiver-index l.receivers)) l.conns.next to
      → AreStaged l.shard l.fn.buffer.tails l.fn.conns.shown
      (filter (is_due_to l.first) l.receivers) l.fn.conns.next to;
  serials : l.buffer.given.items ++ due_serials l.first (drop l.receiver-index l.receivers)
      ≡ l.fn.buffer.given.items ++ due_serials l.first l.receivers;
}
