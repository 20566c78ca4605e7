use Rattle.std.specs.Char.{is_ascii_digit}
use Rattle.std.proofs.lemmas.Grind.{common_steps}
use Rattle.std.proofs.Common.{◌≡◌, true, sym, ap, ◌∙◌, ◌+◌, ◌*◌, ◌-◌, get_or, arith}
use Rattle.line_fields.proofs.DigitLemmas.{more_value, more_small, more_digits, below_last}
use Rattle.line_fields.proofs.digits.read_digits.Goals as goal

pub loop-digit-preserved : goal.loop-digit-preserved
loop-digit-preserved c =
    let field = c.args.field.now in
    let i = c.loop-digit.digit-index in
    let digit : is_ascii_digit (get_or field i 0) ≡ true = grind (arith, common_steps) in
    record {
      value =
          ap (λ n. n * 10 + (get_or field i 0 - 48)) c.loop-digit.invariant.value
          ∙ sym (more_value field i (omega arith) digit);
      small = more_small field c.loop-digit.number i c.loop-digit.invariant.small digit;
      left = more_digits field i (omega arith) c.loop-digit.invariant.left digit;
    }

pub overflow_mul-number : goal.overflow_mul-number
overflow_mul-number c =
    let below = below_last c.loop-digit.number c.loop-digit.digit-index c.args.most c.loop-digit.invariant.small
    (omega arith) c.requires in
    omega arith

pub overflow_add-number : goal.overflow_add-number
overflow_add-number c =
    let below = below_last c.loop-digit.number c.loop-digit.digit-index c.args.most c.loop-digit.invariant.small
    (omega arith) c.requires in
    grind arith
