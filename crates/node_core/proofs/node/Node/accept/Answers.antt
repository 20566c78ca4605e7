use Rattle.node_law.specs.Events.{Own, Accept}
use Rattle.node_core.specs.Served.{AcceptStep, served_of_parts, of_session_answer}
use Rattle.node_core.proofs.Calls.Sides.{accept_call, told_as}
use Rattle.node_core.proofs.node.Node.accept.Goals as goal

pub invariant_of-self : goal.invariant_of-self
invariant_of-self g c =
    let old = c.self.inside in
    (accept_call old.side c.accept.new.self (g.R.Race.contents old.race) old.lines.items c.accept.result
    c.self.invariant c.accept.ensures).keeps

pub returns : goal.returns
returns g c =
    let old = c.self.inside in
    let race = g.R.Race.contents old.race in
    let after = served_of_parts c.accept.new.self race old.lines.items in
    let called =
    accept_call old.side c.accept.new.self race old.lines.items c.accept.result c.self.invariant c.accept.ensures in
    told_as (served_of_parts old.side race old.lines.items) c.args.self.now after (Own Accept)
    (of_session_answer c.accept.result) c.of_sessions.result (λ s given. AcceptStep s given.0 given.1 after)
    c.self.view_is c.of_sessions.ensures called.answers
