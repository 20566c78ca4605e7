-- The fields behind an operation.
use Rattle.std.specs.Prelude.{ℕ, List, [], ◌∷◌, Option, Some, None}
use Rattle.line_fields.specs.Fields.{number_of}
use Rattle.client_frames.specs.declared.decoding.TheConstants.{COUNT_DIGITS}

-- what stands behind an operation that takes two fields, and perhaps one between them
pub record Arguments : Type 0 where
  pub first : List ℕ
  pub between : Option (List ℕ)
  pub last : List ℕ

abbrev pub two_or_three : List (List ℕ) → Option Arguments
two_or_three [] = None
two_or_three (a ∷ []) = None
two_or_three (a ∷ b ∷ []) = Some (record { first = a; between = None; last = b })
two_or_three (a ∷ b ∷ c ∷ []) = Some (record { first = a; between = Some b; last = c })
two_or_three (a ∷ b ∷ c ∷ d ∷ more) = None

-- what stands behind an operation that takes three fields, and perhaps one behind the first
pub record HeadedArguments : Type 0 where
  pub first : List ℕ
  pub between : Option (List ℕ)
  pub block : List ℕ
  pub whole : List ℕ

abbrev pub three_or_four : List (List ℕ) → Option HeadedArguments
three_or_four [] = None
three_or_four (a ∷ []) = None
three_or_four (a ∷ b ∷ []) = None
three_or_four (a ∷ b ∷ c ∷ []) = Some (record { first = a; between = None; block = b; whole = c })
three_or_four (a ∷ b ∷ c ∷ d ∷ []) =
    Some (record { first = a; between = Some b; block = c; whole = d })
three_or_four (a ∷ b ∷ c ∷ d ∷ e ∷ more) = None

-- a size, or a maximum of messages; profile: one to ten digits
abbrev pub count_of : List ℕ → Option ℕ
count_of field = number_of COUNT_DIGITS field
