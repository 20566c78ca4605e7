use Rattle.node_law.specs.Events.{OnInfo}
use Rattle.node_core.specs.Served.{InfoStep, served_of_parts, of_session_answer}
use Rattle.node_core.proofs.Calls.Sides.{info_call, told_as}
use Rattle.node_core.proofs.node.Node.info.Goals as goal

pub invariant_of-self : goal.invariant_of-self
invariant_of-self g c =
    let old = c.self.inside in
    (info_call old.side c.info.new.self (g.R.Race.contents old.race) old.lines.items c.args.session c.args.info.now
    (λ done. done.0.instead_of) (λ done. done.1) c.info.result c.self.invariant c.info.ensures).keeps

pub returns : goal.returns
returns g c =
    let old = c.self.inside in
    let race = g.R.Race.contents old.race in
    let after = served_of_parts c.info.new.self race old.lines.items in
    let called = info_call old.side c.info.new.self race old.lines.items c.args.session c.args.info.now
    (λ done. done.0.instead_of) (λ done. done.1) c.info.result c.self.invariant c.info.ensures in
    told_as (served_of_parts old.side race old.lines.items) c.args.self.now after
    (OnInfo c.args.session c.args.info.now) (of_session_answer c.info.result) c.of_sessions.result
    (λ s done. InfoStep s c.args.session c.args.info.now done.0.instead_of done.1 after) c.self.view_is
    c.of_sessions.ensures called.answers
