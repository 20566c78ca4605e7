use Rattle.std.proofs.Common.{◌≡◌, true, length, sym, ap, ◌∙◌}
use Rattle.std.specs.Prelude.{◌==◌}
use Rattle.shard_core.specs.Shards.{waits_for}
use Rattle.node_law.specs.State.{ShardWithJobs}
use Rattle.mesh_pipe.specs.PipeServing.{shard_in}
use Rattle.mesh_pipe.proofs.Server.Unchanged.{takes_nothing}
use Rattle.mesh_pipe.proofs.pipe_server.take_any.Goals as goal

pub returns-then-has_nothing_for-clause-steps : goal.returns-then-has_nothing_for-clause-steps
returns-then-has_nothing_for-clause-steps g c =
    let none : (length (waits_for 1 (shard_in c.args.node.now).clients) == 0) ≡ true =
    sym (ap (λ n. length (waits_for n (shard_in c.args.node.now).clients) == 0) c.requires.conn)
    ∙ sym (ap (λ (l : ShardWithJobs). length (waits_for c.args.conn l.shard.clients) == 0) c.only_line.ensures)
    ∙ sym c.has_nothing_for.ensures ∙ c.if-has_nothing_for.true in
    takes_nothing c.args.node.now c.requires.serving none
