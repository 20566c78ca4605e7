use Rattle.node_law.specs.Events.{Own, CutSession}
use Rattle.node_core.specs.Served.{CutStep, served_of_parts, of_session_decision}
use Rattle.node_core.proofs.Calls.Sides.{cut_call, decided_as}
use Rattle.node_core.proofs.node.Node.cut.Goals as goal

pub invariant_of-self : goal.invariant_of-self
invariant_of-self g c =
    let old = c.self.inside in
    (cut_call old.side c.cut.new.self (g.R.Race.contents old.race) old.lines.items c.args.session c.cut.result
    c.self.invariant c.cut.ensures).keeps

pub returns : goal.returns
returns g c =
    let old = c.self.inside in
    let race = g.R.Race.contents old.race in
    let after = served_of_parts c.cut.new.self race old.lines.items in
    let called =
    cut_call old.side c.cut.new.self race old.lines.items c.args.session c.cut.result c.self.invariant c.cut.ensures in
    decided_as (served_of_parts old.side race old.lines.items) c.args.self.now after (Own (CutSession c.args.session))
    (of_session_decision c.cut.result) c.of_decision.result (λ s peer. CutStep s c.args.session peer after)
    c.self.view_is c.of_decision.ensures called.answers
