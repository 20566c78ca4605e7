use Rattle.std.proofs.Common.{set, ap, sym, ◌∙◌, arith}
use Rattle.std.proofs.lemmas.List.Edits.{map_over_more}
use Rattle.route_session.specs.Steps.{kept_at}
use Rattle.route_session.proofs.session.keep.Goals as goal

pub loop-session-preserved : goal.loop-session-preserved
loop-session-preserved c =
    let f = kept_at c.args.number c.args.offer in
    let xs = c.loop-session.session-items in
    let i = c.loop-session.session-index in
    let x = c.session-item.result in
    ap (set xs i) (c.kept_at.ensures ∙ ap f (sym c.session-item.is))
    ∙ map_over_more f c.args.standing.now xs i x (omega arith) c.loop-session.invariant c.session-item.is
