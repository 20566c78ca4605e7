use Rattle.std.proofs.Common.{[]}
use Rattle.node_threads.proofs.Shards.Joining.{makes_join, works_nothing}
use Rattle.node_threads.proofs.shard_state.ShardState.has_job.Goals as goal

pub returns-then-has_next-clause-works : goal.returns-then-has_next-clause-works
returns-then-has_next-clause-works g c =
    works_nothing c.args.self.now c.sees_next.new.self
    (makes_join c.args.self.now c.has_next.new.self c.sees_next.new.self [] [] c.has_next.ensures.makes
    c.sees_next.ensures.makes)
