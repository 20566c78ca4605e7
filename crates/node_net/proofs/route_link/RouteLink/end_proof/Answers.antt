use Rattle.std.proofs.Common.{◌∙◌}
use Rattle.node_net.proofs.ReadingLemmas.{begins_new}
use Rattle.node_net.proofs.route_link.RouteLink.end_proof.Goals as goal

pub returns : goal.returns
returns c = λ none unjoined.
    begins_new c.args.self.now.line c.args.self.now.unjoined c.put-2.new.place none unjoined
    (c.put-2.ensures ∙ c.cutter_of.ensures)
