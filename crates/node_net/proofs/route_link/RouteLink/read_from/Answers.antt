use Rattle.std.proofs.Common.{refl}
use Rattle.std.proofs.lemmas.Result.{IfOk-weaker}
use Rattle.node_net.proofs.ReadingLemmas.{has_more}
use Rattle.node_net.proofs.route_link.RouteLink.read_from.Goals as goal

pub returns-clause-more : goal.returns-clause-more
returns-clause-more g c =
    IfOk-weaker c.read_from.result _ _
    (λ n h.
    has_more c.args.self.now (record c.args.self.now { cutter = c.read_from.new.self }) _ _ _ n refl
    c.read_from.ensures.state h)
    c.read_from.ensures.ok
