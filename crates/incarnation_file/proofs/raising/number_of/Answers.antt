use Rattle.std.proofs.Common.{◌+◌, drop, get_or, arith, ap}
use Rattle.std.proofs.lemmas.List.{drop_more}
use Rattle.incarnation_file.specs.Line.{value_from}
use Rattle.incarnation_file.proofs.Digits.{value_from-past}
use Rattle.incarnation_file.proofs.raising.number_of.Goals as goal

pub returns-then-number : goal.returns-then-number
returns-then-number c = λ most.
    let xs = c.args.bytes.now in let i = c.loop-byte.byte-index in
    let past = value_from-past c.loop-byte.number (get_or xs i 0) (drop (i + 1) xs) (omega (arith, c.if-number.true)) in
    let next = ap (value_from c.loop-byte.number) (drop_more xs i 0 (omega arith)) in
    absurd (omega (arith, most, past, next, c.loop-byte.invariant))
