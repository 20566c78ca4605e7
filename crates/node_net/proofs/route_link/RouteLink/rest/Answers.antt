use Rattle.std.specs.Bool.{OnFalse}
use Rattle.std.proofs.Common.{◌≡◌, sym, subst}
use Rattle.wire_cut.specs.Cut.{new_cutter}
use Rattle.subj.specs.declared.limits.TheConstants.{ROUTE_LINE, MAX_SNAPSHOT}
use Rattle.node_net.proofs.ReadingLemmas.{rests}
use Rattle.node_net.proofs.route_link.RouteLink.rest.Goals as goal

pub returns-then-not-is_used_up : goal.returns-then-not-is_used_up
returns-then-not-is_used_up c = λ none reading has. has

pub returns : goal.returns
returns c = λ none reading has.
    rests c.args.self.now.proof c.is_proving.result c.args.self.now.line c.args.self.now.unjoined
    c.args.self.now.cutter c.put.new.place reading c.is_proving.ensures
    (subst (λ k. OnFalse c.is_proving.result (k ≡ new_cutter ROUTE_LINE MAX_SNAPSHOT)) (sym c.put.ensures)
    c.cutter_of-cutter.ensures)
    c.if-not-is_used_up.ensures.0 c.if-not-is_used_up.ensures.1 c.if-not-is_used_up.ensures.2 none has
