use Rattle.node_law.specs.declared.events.ConnEvent.TheVariants.{Take}
use Rattle.mesh_pipe.specs.PipeServing.{all_entries}
use Rattle.mesh_pipe.proofs.Server.Calls.{by_conn, take_text}
use Rattle.mesh_pipe.proofs.pipe_server.take.Goals as goal

pub returns-in-Ok-clause-steps : goal.returns-in-Ok-clause-steps
returns-in-Ok-clause-steps g c =
    by_conn c.args.node.now c.take_bytes.new.self c.args.conn (Take all_entries) _ c.requires.serving c.requires.conn
    c.in-Ok.ensures.1.step

pub returns-in-Ok-clause-text : goal.returns-in-Ok-clause-text
returns-in-Ok-clause-text g c =
    take_text c.args.node.now c.take_bytes.new.self c.args.conn _ _ _ c.requires.serving c.requires.conn
    c.in-Ok.ensures.1
