use Rattle.std.proofs.Common.{sym, ap, refl, ◌∙◌}
use Rattle.std.specs.Option.{option_map}
use Rattle.hub_core.specs.Chosen.{publication_by}
use Rattle.mesh_pipe.specs.PipeServing.{refusal_of}
use Rattle.mesh_pipe.proofs.Server.Calls.{publishes}
use Rattle.mesh_pipe.proofs.Server.Publishing.{IsIdle, publish_told, has_issued}
use Rattle.mesh_pipe.proofs.pipe_server.publish.Goals as goal

pub returns-in-Ok : goal.returns-in-Ok
returns-in-Ok g c =
    let p = publication_by c.args.conn c.args.publication.now 0 in
    let at : IsIdle c.args.node.now = record {
      serving = c.requires.serving;
      idle = c.requires.idle;
      none = c.requires.none;
      told = c.requires.told;
    } in
    let names = c.queue_names_are_wanted.ensures in
    let counts = c.counts_are_open.ensures in (
      sym (publish_told names counts c.args.node.now p at) ∙ ap (option_map refusal_of) c.in-Ok.ensures.0,
      has_issued names counts c.args.node.now c.publish.new.self p at c.requires.conn refl c.in-Ok.ensures.1.step,
    )

pub returns-in-Err-Refused : goal.returns-in-Err-Refused
returns-in-Err-Refused g c =
    let p = publication_by c.args.conn c.args.publication.now 0 in
    let at : IsIdle c.args.node.now = record {
      serving = c.requires.serving;
      idle = c.requires.idle;
      none = c.requires.none;
      told = c.requires.told;
    } in
    let refused = rw c.in-Err-Refused.field-0-is at c.in-Err-Refused.ensures in
    publishes _ c.in-Err-Refused.fault c.refusal_of.result c.args.publication.now c.args.node.now c.publish.new.self
    (publish_told c.queue_names_are_wanted.ensures c.counts_are_open.ensures c.args.node.now p at) refused.0
    c.refusal_of.ensures refused.1
