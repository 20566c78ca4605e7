use Rattle.peer_proof.proofs.Masks.{IsMasked}
use Rattle.peer_proof.proofs.secret.masked.Given as goal

abbrev pub invariant-loop-place : goal.invariant-loop-place
invariant-loop-place l = IsMasked l.bytes l.block l.mask l.place
