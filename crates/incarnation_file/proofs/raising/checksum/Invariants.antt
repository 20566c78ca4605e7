use Rattle.std.proofs.Common.{◌≡◌, ◌<◌, drop}
use Rattle.incarnation_file.specs.Line.{checksum_from}
use Rattle.incarnation_file.specs.declared.raising.TheConstants.{PRIME}
use Rattle.incarnation_file.proofs.raising.checksum.Given as goal

abbrev pub invariant-loop-byte : goal.invariant-loop-byte
invariant-loop-byte l = (l.sum < PRIME) × (checksum_from l.sum (drop l.byte-index l.bytes) ≡ checksum_from 0 l.bytes)
