use Rattle.node_threads.proofs.Shards.Joining.{works_join, ended_join}
use Rattle.node_threads.proofs.Shards.Telling.{tells_join}
use Rattle.node_threads.proofs.shard_state.ShardState.work_one.Goals as goal

pub returns-then-is_err-2-clause-turns : goal.returns-then-is_err-2-clause-turns
returns-then-is_err-2-clause-turns g c =
    works_join c.args.self.now c.begin_next.new.self c.claim_rest.new.self c.begin_next.ensures.works
    c.claim_rest.ensures.works

pub returns-then-is_err-2-clause-tells : goal.returns-then-is_err-2-clause-tells
returns-then-is_err-2-clause-tells g c =
    tells_join c.args.self.now c.begin_next.new.self c.claim_rest.new.self c.args.tape.now c.begin_next.new.tape
    c.claim_rest.new.tape c.begin_next.ensures.tells c.claim_rest.ensures.tells

pub returns-clause-turns : goal.returns-clause-turns
returns-clause-turns g c =
    ended_join c.args.self.now c.claim_rest.new.self c.end.new.self c.end.result
    (works_join c.args.self.now c.begin_next.new.self c.claim_rest.new.self c.begin_next.ensures.works
    c.claim_rest.ensures.works)
    c.end.ensures.ends

pub returns-clause-tells : goal.returns-clause-tells
returns-clause-tells g c =
    let tape = c.args.tape.now in
    let tried = tells_join c.args.self.now c.begin_next.new.self c.claim_rest.new.self tape c.begin_next.new.tape
    c.claim_rest.new.tape c.begin_next.ensures.tells c.claim_rest.ensures.tells in
    tells_join c.args.self.now c.claim_rest.new.self c.end.new.self tape c.claim_rest.new.tape c.end.new.tape tried
    c.end.ensures.tells
