use Rattle.std.proofs.Common.{not}
use Rattle.mesh_pipe.proofs.Server.Calls.{cannot_begin}
use Rattle.mesh_pipe.proofs.Server.Working.{has_begun, shut_told}
use Rattle.mesh_pipe.proofs.pipe_server.begin.Goals as goal

pub unreachable-requires : goal.unreachable-requires
unreachable-requires g c =
    let refused = rw c.in-Err-Refused.field-0-is at c.in-Err-Refused.ensures in
    cannot_begin c.args.node.now c.in-Err-Refused.field-0-0 c.requires.serving c.requires.none c.requires.one refused.0

pub returns-in-Ok : goal.returns-in-Ok
returns-in-Ok g c =
    has_begun c.args.node.now c.begin.new.self c.in-Ok.begun (not c.is_empty.result) c.requires.serving c.requires.one
    c.in-Ok.ensures.1
    (shut_told c.in-Ok.begun.closed.items c.in-Ok.begun.closed.len c.is_empty.result c.in-Ok.begun.closed.ok.0
    c.is_empty.ensures)
