use Rattle.std.proofs.Common.{◌≡◌, length, arith, subst}
use Rattle.peer_proof.proofs.Masks.{IsMasked, masked_more, all_masked}
use Rattle.peer_proof.proofs.secret.masked.Goals as goal

pub loop-place-preserved : goal.loop-place-preserved
loop-place-preserved c = masked_more _ _ _ _ c.loop-place-test.true c.loop-place.invariant

pub returns : goal.returns
returns c =
    let end : c.loop-place.place ≡ 64 = omega arith in
    let size : length c.args.block.now ≡ 64 = omega arith in
    all_masked _ _ _ size
    (subst (λ n. IsMasked c.loop-place.bytes c.args.block.now c.args.mask n) end c.loop-place.invariant)
