use Rattle.std.proofs.Common.{subst}
use Rattle.node_threads.specs.AtWork.{AtWork}
use Rattle.node_threads.specs.Tapes.{Tells}
use Rattle.node_threads.specs.Turns.{Turns}
use Rattle.node_threads.proofs.Shards.Runs.{turns_join}
use Rattle.node_threads.proofs.Shards.Telling.{tells_join, tells_quiet}
use Rattle.node_threads.proofs.shard_state.ShardState.turn.Goals as goal

pub returns-then-not-has_job-clause-tells : goal.returns-then-not-has_job-clause-tells
returns-then-not-has_job-clause-tells g c =
    tells_quiet c.args.self.now c.has_job.new.self c.args.tape.now c.has_job.ensures.makes

pub returns-in-Some-clause-turns : goal.returns-in-Some-clause-turns
returns-in-Some-clause-turns g c =
    turns_join c.args.self.now c.has_job.new.self c.work_run.new.self c.in-Some.turned c.has_job.ensures.makes
    c.in-Some.ensures.some

pub returns-in-Some-clause-tells : goal.returns-in-Some-clause-tells
returns-in-Some-clause-tells g c =
    let tape = c.args.tape.now in
    tells_join c.args.self.now c.has_job.new.self c.work_run.new.self tape tape tape
    (tells_quiet c.args.self.now c.has_job.new.self tape c.has_job.ensures.makes) c.work_run.ensures.tells

pub returns-clause-turns : goal.returns-clause-turns
returns-clause-turns g c =
    turns_join c.args.self.now c.has_job.new.self c.work_one.new.self c.work_one.result c.has_job.ensures.makes
    (subst (λ (old : AtWork). Turns old c.work_one.result c.work_one.new.self) c.in_default.ensures.none
    c.work_one.ensures.turns)

pub returns-clause-tells : goal.returns-clause-tells
returns-clause-tells g c =
    let tape = c.args.tape.now in
    tells_join c.args.self.now c.has_job.new.self c.work_one.new.self tape tape c.work_one.new.tape
    (tells_quiet c.args.self.now c.has_job.new.self tape c.has_job.ensures.makes)
    (subst (λ (old : AtWork). Tells old tape c.work_one.new.self c.work_one.new.tape) c.in_default.ensures.none
    c.work_one.ensures.tells)
