use Rattle.peer_proof.proofs.Bits.{Differs}
use Rattle.peer_proof.proofs.lines.Mac.is.Given as goal

abbrev pub invariant-loop-place : goal.invariant-loop-place
invariant-loop-place l = Differs l.differing l.self.0 l.other.0 l.place
