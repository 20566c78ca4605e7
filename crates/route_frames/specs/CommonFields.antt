-- The five fields behind the operation of a numbered frame (profile).
use Rattle.std.specs.Prelude.{ℕ, ◌&&◌, nat_le, List, [], ◌∷◌, Option, Some, None, Ok, Err, is_some, if◌then◌else◌}
use Rattle.std.specs.Option.{ok_or}
use Rattle.subj.specs.declared.limits.TheConstants.{MAX_COUNTER}
use Rattle.subj.specs.declared.faults.NameFault.{NameFault}
use Rattle.subj.specs.Numbers.{incarnation_of}
use Rattle.line_fields.specs.Fields.{number_of}
use Rattle.route_frames.specs.declared.faults.RouteFault.TheVariants.{BadArgs, BadNumber}
use Rattle.route_frames.specs.declared.line_reading.TheConstants.{INCARNATION_DIGITS, NUMBER_DIGITS}
use Rattle.route_frames.specs.declared.line_reading.Numbers.{Numbers}
use Rattle.route_frames.specs.declared.line_reading.Digits.{Digits}
use Rattle.route_frames.specs.Meaning.{Meaning, ◌>>=◌}

pub record CommonFields : Type 0 where
  pub from : List ℕ
  pub inc : List ℕ
  pub to : List ℕ
  pub to_inc : List ℕ
  pub number : List ℕ

-- these, and the fields behind them
abbrev pub common_fields : List (List ℕ) → Option (CommonFields × List (List ℕ))
common_fields [] = None
common_fields (from ∷ []) = None
common_fields (from ∷ inc ∷ []) = None
common_fields (from ∷ inc ∷ to ∷ []) = None
common_fields (from ∷ inc ∷ to ∷ to_inc ∷ []) = None
common_fields (from ∷ inc ∷ to ∷ to_inc ∷ number ∷ others) =
    Some (record { from = from; inc = inc; to = to; to_inc = to_inc; number = number }, others)

-- ---- their numbers: first whether they are digits, then whether they are in their ranges

abbrev pub digits_of : ℕ → List ℕ → Meaning ℕ
digits_of most field = ok_or (number_of most field) BadArgs

abbrev pub within : ℕ → ℕ → ℕ → Meaning ℕ
within least most number =
    if nat_le least number && nat_le number most then Ok number else Err BadNumber

unfoldable pub numbers_of : CommonFields → Meaning Digits
numbers_of common = do
  inc ← digits_of INCARNATION_DIGITS common.inc
  to_inc ← digits_of INCARNATION_DIGITS common.to_inc
  number ← digits_of NUMBER_DIGITS common.number
  Ok (record { inc = inc; to_inc = to_inc; number = number })

unfoldable pub numbers_in_range : ℕ → Digits → Meaning Numbers
numbers_in_range least numbers = do
  inc ← ok_or (incarnation_of numbers.inc) BadNumber
  to_inc ← ok_or (incarnation_of numbers.to_inc) BadNumber
  number ← within least MAX_COUNTER numbers.number
  Ok (record { inc = inc; to_inc = to_inc; number = number })

-- ---- names: fields that have no fault

abbrev pub name_of : (List ℕ → Option NameFault) → List ℕ → Meaning (List ℕ)
name_of fault field = if is_some (fault field) then Err BadArgs else Ok field
