use Rattle.std.proofs.Common.{◌+◌, drop, ◌∙◌, subst}
use Rattle.std.proofs.lemmas.List.{drop_all, drop_more}
use Rattle.shard_core.specs.Boxes.{AreConns}
use Rattle.shard_core.proofs.Clients.Staging.{all_settled}
use Rattle.shard_core.proofs.connections.rollback_all.Goals as goal

pub loop-place-preserved : goal.loop-place-preserved
loop-place-preserved c =
    let k = c.loop-place.place-index in
    let next = drop_more c.args.places.now k 0 c.loop-place-test.true in
    record {
      kept = c.rollback_at.ensures.shown ∙ c.loop-place.invariant.kept;
      within =
          c.rollback_at.ensures.settled (drop (k + 1) c.args.places.now)
          (subst (λ places. AreConns places c.loop-place.conns) next c.loop-place.invariant.within);
    }

pub returns-clause-settled : goal.returns-clause-settled
returns-clause-settled c =
    subst (λ places. AreConns places c.loop-place.conns)
    (drop_all c.loop-place.place-index c.args.places.now c.loop-place-test.false) c.loop-place.invariant.within

pub returns-clause-next : goal.returns-clause-next
returns-clause-next c =
    let none = drop_all c.loop-place.place-index c.args.places.now c.loop-place-test.false in
    let settled = all_settled c.loop-place.conns
    (subst (λ places. AreConns places c.loop-place.conns) none c.loop-place.invariant.within).staged in
    settled ∙ c.loop-place.invariant.kept
