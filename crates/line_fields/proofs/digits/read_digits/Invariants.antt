use Rattle.std.proofs.Common.{◌≡◌, ◌^◌, ◌<◌, take}
use Rattle.std.specs.Str.Parse.{digits_value}
use Rattle.line_fields.proofs.DigitLemmas.{Decides_digits}
use Rattle.line_fields.proofs.digits.read_digits.Given as goal

-- the number of the digits so far, and what is left decides
abbrev pub invariant-loop-digit : goal.invariant-loop-digit
invariant-loop-digit l = record {
  value : l.number ≡ digits_value 10 (take l.digit-index l.field);
  small : l.number < 10 ^ l.digit-index;
  left : Decides_digits l.field l.digit-index;
}
