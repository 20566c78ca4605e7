use Rattle.node_net.proofs.ReadingLemmas.{announces_size, announces_fault, announces_nothing}
use Rattle.node_net.proofs.route_link.RouteLink.expect.Goals as goal

pub returns-then-not-after_line-clause-size : goal.returns-then-not-after_line-clause-size
returns-then-not-after_line-clause-size c =
    announces_nothing c.args.self.now.cutter c.args.self.now.cutter c.args.size c.if-not-after_line.ensures

pub returns-in-Ok-clause-size : goal.returns-in-Ok-clause-size
returns-in-Ok-clause-size c =
    announces_size c.args.self.now.cutter c.expect.new.self c.args.size c.in-Ok.ensures.answer c.expect.ensures.state

pub returns-in-Err-clause-size : goal.returns-in-Err-clause-size
returns-in-Err-clause-size c =
    announces_fault c.args.self.now.cutter c.expect.new.self c.args.size _ c.in-Err.ensures.answer
