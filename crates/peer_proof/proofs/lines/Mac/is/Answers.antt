use Rattle.std.proofs.Common.{◌≡◌, length, arith}
use Rattle.peer_proof.proofs.Bits.{differs_more, decides}
use Rattle.peer_proof.proofs.lines.Mac.is.Goals as goal

pub loop-place-preserved : goal.loop-place-preserved
loop-place-preserved c = differs_more _ _ _ _ c.loop-place.invariant

pub returns : goal.returns
returns c =
    let size : length c.args.self.now.0 ≡ c.loop-place.place = omega arith in
    let others : length c.args.other.now.0 ≡ c.loop-place.place = omega arith in
    decides _ _ _ _ size others c.loop-place.invariant
