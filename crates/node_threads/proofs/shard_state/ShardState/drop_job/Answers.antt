use Rattle.node_threads.proofs.Shards.Drops.{dropped_join}
use Rattle.node_threads.proofs.Shards.Telling.{tells_join, tells_no_job, tells_quiet}
use Rattle.node_threads.proofs.shard_state.ShardState.drop_job.Goals as goal

pub returns-then-not-has_job-clause-tells : goal.returns-then-not-has_job-clause-tells
returns-then-not-has_job-clause-tells g c =
    let none = c.has_job.ensures.none c.if-not-has_job.true in
    tells_no_job c.args.self.now c.has_job.new.self c.args.tape.now c.note_no_job.new.tape c.has_job.ensures.makes
    none.hand c.note_no_job.ensures

pub returns-clause-drops : goal.returns-clause-drops
returns-clause-drops g c =
    dropped_join c.args.self.now c.has_job.new.self c.drop_now.new.self c.drop_now.result c.has_job.ensures.makes
    c.drop_now.ensures.dropped

pub returns-clause-tells : goal.returns-clause-tells
returns-clause-tells g c =
    let tape = c.args.tape.now in
    tells_join c.args.self.now c.has_job.new.self c.drop_now.new.self tape tape c.drop_now.new.tape
    (tells_quiet c.args.self.now c.has_job.new.self tape c.has_job.ensures.makes) c.drop_now.ensures.tells
