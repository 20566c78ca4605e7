use Rattle.std.proofs.Common.{ap, ◌∙◌}
use Rattle.node_core.specs.Served.{new_server}
use Rattle.mesh_pipe.proofs.Server.Calls.{attaches}
use Rattle.mesh_pipe.proofs.pipe_server.new_node.Goals as goal

pub returns-in-Ok : goal.returns-in-Ok
returns-in-Ok g c =
    let first = attaches _ c.attach.new.self _ (c.in_ok-node.ensures ∙ ap new_server c.in_ok-only_server.ensures)
    c.in-Ok.ensures.1 in
    (first.serving, first.shard, first.waiting)
