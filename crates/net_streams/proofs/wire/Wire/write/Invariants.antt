-- What was written so far stood in front of what is left, and the stream has not failed.
use Rattle.std.proofs.Common.{◌≡◌, false, length}
use Rattle.net_streams.proofs.RunLemmas.{TookSoFar}
use Rattle.net_streams.proofs.wire.Wire.write.Given as goal

abbrev pub invariant-loop-self : goal.invariant-loop-self
invariant-loop-self g l = record {
  so_far : TookSoFar g.S.Stream.wrote l.bytes l.fn.self.stream l.rest l.self.stream;
  fine : l.self.has_failed ≡ false;
  others : l.self ≡ record l.fn.self { stream = l.self.stream; has_failed = l.self.has_failed };
}

abbrev pub decreases-loop-self : goal.decreases-loop-self
decreases-loop-self g l = length l.rest
