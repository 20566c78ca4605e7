use Rattle.std.proofs.Common.{sym, ◌∙◌}
use Rattle.std.proofs.lemmas.Option.{none-some}
use Rattle.mesh_pipe.proofs.Server.Collecting.{collects, collect_steps}
use Rattle.mesh_pipe.proofs.pipe_server.collect.Goals as goal

pub unreachable-requires : goal.unreachable-requires
unreachable-requires g c =
    let refused = rw c.in-Err-Refused.field-0-is at c.in-Err-Refused.ensures in
    none-some c.in-Err-Refused.field-0-0
    (sym (collects c.counts_are_open.ensures c.args.node.now c.requires) ∙ refused.0)

pub returns-in-Ok : goal.returns-in-Ok
returns-in-Ok g c = collect_steps c.args.node.now c.collect.new.self c.requires c.in-Ok.ensures.1.step
