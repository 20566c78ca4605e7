use Rattle.node_threads.specs.Tapes.{Tells}
use Rattle.node_threads.specs.Turns.{HasWorked, IsTrying}
use Rattle.node_threads.proofs.shard_state.ShardState.claim_rest.Given as goal

abbrev pub invariant-loop-index : goal.invariant-loop-index
invariant-loop-index g l =
    HasWorked l.fn.self l.self × IsTrying l.index l.count l.self.state × Tells l.fn.self l.fn.tape l.self l.tape
