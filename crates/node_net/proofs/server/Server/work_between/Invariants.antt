-- Each shard behind the first place is worked, up to where the loop is.
use Rattle.node_net.specs.Turning.{WorksBetween}
use Rattle.node_net.proofs.server.Server.work_between.Given as goal

abbrev pub invariant-loop-place : goal.invariant-loop-place
invariant-loop-place g l =
    WorksBetween g.C.Shard.ShardCalls.worked g.C.Shard.ShardCalls.number (g.C.ServerCalls.lacks l.node) l.is_unfinished
    l.from l.place
