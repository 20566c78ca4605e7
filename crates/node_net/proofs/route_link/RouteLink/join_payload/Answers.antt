use Rattle.std.proofs.Common.{subst}
use Rattle.std.specs.Prelude.{None, IfSome}
use Rattle.node_net.specs.Reading.{JoinsFrame}
use Rattle.node_net.proofs.route_link.RouteLink.join_payload.Goals as goal

pub returns-in-Some-clause-reads : goal.returns-in-Some-clause-reads
returns-in-Some-clause-reads c =
    subst
    (λ o. IfSome o (λ line. JoinsFrame line c.args.payload (record c.args.self.now { line = None }) c.join.result
    c.join.new.self))
    c.in-Some.ensures.value
    (subst
    (λ l. JoinsFrame c.in-Some.line c.args.payload (record c.args.self.now { line = l }) c.join.result c.join.new.self)
    c.take.ensures.after c.join.ensures.reads)
