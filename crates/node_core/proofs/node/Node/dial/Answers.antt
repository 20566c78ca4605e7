use Rattle.node_law.specs.Events.{Own, Dial}
use Rattle.node_core.specs.Served.{DialStep, served_of_parts, of_session_answer}
use Rattle.node_core.proofs.Calls.Sides.{dial_call, told_as}
use Rattle.node_core.proofs.node.Node.dial.Goals as goal

pub invariant_of-self : goal.invariant_of-self
invariant_of-self g c =
    let old = c.self.inside in
    (dial_call old.side c.dial.new.self (g.R.Race.contents old.race) old.lines.items c.args.peer c.dial.result
    c.self.invariant c.dial.ensures).keeps

pub returns : goal.returns
returns g c =
    let old = c.self.inside in
    let race = g.R.Race.contents old.race in
    let after = served_of_parts c.dial.new.self race old.lines.items in
    let called =
    dial_call old.side c.dial.new.self race old.lines.items c.args.peer c.dial.result c.self.invariant c.dial.ensures in
    told_as (served_of_parts old.side race old.lines.items) c.args.self.now after (Own (Dial c.args.peer))
    (of_session_answer c.dial.result) c.of_sessions.result (λ s session. DialStep s c.args.peer session after)
    c.self.view_is c.of_sessions.ensures called.answers
