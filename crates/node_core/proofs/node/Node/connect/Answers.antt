use Rattle.node_law.specs.Events.{OnConnect}
use Rattle.node_core.specs.Served.{ConnectStep, served_of_parts, of_session_answer}
use Rattle.node_core.proofs.Calls.Sides.{connect_call, told_as}
use Rattle.node_core.proofs.node.Node.connect.Goals as goal

pub invariant_of-self : goal.invariant_of-self
invariant_of-self g c =
    let old = c.self.inside in
    (connect_call old.side c.connect.new.self (g.R.Race.contents old.race) old.lines.items c.args.session
    c.args.connect.now (λ kept. kept.instead_of) c.connect.result c.self.invariant c.connect.ensures).keeps

pub returns : goal.returns
returns g c =
    let old = c.self.inside in
    let race = g.R.Race.contents old.race in
    let after = served_of_parts c.connect.new.self race old.lines.items in
    let called = connect_call old.side c.connect.new.self race old.lines.items c.args.session c.args.connect.now
    (λ kept. kept.instead_of) c.connect.result c.self.invariant c.connect.ensures in
    told_as (served_of_parts old.side race old.lines.items) c.args.self.now after
    (OnConnect c.args.session c.args.connect.now) (of_session_answer c.connect.result) c.of_sessions.result
    (λ s kept. ConnectStep s c.args.session c.args.connect.now kept.instead_of after) c.self.view_is
    c.of_sessions.ensures called.answers
