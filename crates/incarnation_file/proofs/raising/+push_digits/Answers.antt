use Rattle.std.proofs.Common.{rules, arith, append_assoc, append-nil, sym}
use Rattle.incarnation_file.proofs.Digits.{digits-zero, digits-more}
use Rattle.incarnation_file.proofs.raising.+push_digits.Goals as goal

pub returns-then-count-eq0 : goal.returns-then-count-eq0
returns-then-count-eq0 t c =
    rw (digits-zero c.args.count c.args.number (omega (arith, c.if-count-eq0.true))) (sym (append-nil _))

pub returns : goal.returns
returns t c =
    let more = digits-more c.args.count c.args.number (omega (arith, c.if-count-eq0.false)) in
    rw more (search (rules, append_assoc))
