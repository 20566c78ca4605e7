use Rattle.std.proofs.Common.{◌≡◌, drop}
use Rattle.incarnation_file.specs.Line.{value_from}
use Rattle.incarnation_file.proofs.raising.number_of.Given as goal

abbrev pub invariant-loop-byte : goal.invariant-loop-byte
invariant-loop-byte l = value_from l.number (drop l.byte-index l.bytes) ≡ value_from 0 l.bytes
