use Rattle.std.proofs.Common.{ap, ◌∙◌}
use Rattle.std.specs.Option.{option_map}
use Rattle.hub_core.specs.Chosen.{publication_by}
use Rattle.hub_core.specs.Publishing.{publish_refusal}
use Rattle.node_law.specs.declared.faults.NodeFault.TheVariants as node_fault
use Rattle.node_law.specs.Events.{Own, Publish}
use Rattle.node_core.specs.Served.{Served, served_of_parts, refusal}
use Rattle.node_core.proofs.Calls.GivenJobs.{are_counted, publish_heard}
use Rattle.node_core.proofs.node.Node.publish_fault.Goals as goal

pub finished_by-finished-requires-clause-all : goal.finished_by-finished-requires-clause-all
finished_by-finished-requires-clause-all g c =
    let old = c.self.inside in
    (are_counted (served_of_parts old.side (g.R.Race.contents old.race) old.lines.items) c.len-count.result
    c.self.invariant (c.len-count.ensures ∙ old.lines.ok.0)).all

pub finished_by-finished-requires-clause-few : goal.finished_by-finished-requires-clause-few
finished_by-finished-requires-clause-few g c =
    let old = c.self.inside in
    (are_counted (served_of_parts old.side (g.R.Race.contents old.race) old.lines.items) c.len-count.result
    c.self.invariant (c.len-count.ensures ∙ old.lines.ok.0)).few

pub returns : goal.returns
returns g c =
    let old = c.self.inside in
    let before = served_of_parts old.side (g.R.Race.contents old.race) old.lines.items in
    let p = publication_by c.args.conn c.args.publication.now c.args.word in
    c.of_hub_fault.ensures
    ∙ ap (option_map node_fault.Hub)
    (c.publish_fault.ensures c.args.conn c.args.word
    ∙ (λ k. publish_refusal (c.hub.ensures.server k) (c.hub.ensures.state k) p c.finished_by-finished.result)
    ∙ publish_heard before p c.len-count.result c.finished_by-finished.result c.self.invariant
    (c.len-count.ensures ∙ old.lines.ok.0) c.finished_by-finished.ensures)
    ∙ ap (λ (s : Served). refusal s (Own (Publish p))) c.self.view_is
