-- How the numbers of options are read.
use Rattle.std.proofs.Common.{◌≡◌, ◌∙◌, ℕ, ap, refl, sym, Option, Some, None, Result}
use Rattle.std.specs.Prelude.{IfSome, IsSome, IsSomeAnd, is_some, option_map}
use Rattle.std.specs.Str.Parse.{ExplainsUnsignedError, HasUnsignedDigitsIfOk, ParsesUnsigned}
use Rattle.std.specs.declared.num.ParseIntError.{ParseIntError}
use Rattle.clap.specs.Words.{ReadsOne, Text, one_of, one_text, rows_of}
use Rattle.clap.specs.declared.parser.matches.Found.{Found}
use Rattle.clap.proofs.WalkLemmas.{one_text-rows}
use Rattle.router_command.specs.Command.{HasNumber, IsNumber, number_in, number_of}

-- what is read of a text
abbrev pub Gives : Text → Result ℕ ParseIntError → Type 0
Gives text read = ParsesUnsigned 64 10 text read × ExplainsUnsignedError 10 text read × HasUnsignedDigitsIfOk text read

text_read : (text : Text) (r : Option ℕ) → IsNumber text → ReadsOne Gives text r → Some (number_of text) ≡ r
text_read text (Some v) is read = ap (λ n. Some n) (sym read.0.1)
text_read text None is read = absurd (read.1.0 (is.0, is.1))

option_read : (o : Option Text) (r : Option ℕ)
    → (o ≡ None → r ≡ None)
    → ((t : Text) → o ≡ Some t → ReadsOne Gives t r)
    → IfSome o IsNumber
    → option_map number_of o ≡ r
option_read None r none some is = sym (none refl)
option_read (Some t) r none some is = text_read t r is (some t refl)

-- an option that has a number where it has a text
pub number_if_read : (f : Found) (name : Text) (r : Option ℕ)
    → (one_text f name ≡ None → r ≡ None)
    → ((t : Text) → one_text f name ≡ Some t → ReadsOne Gives t r)
    → IfSome (one_of name (rows_of f)) IsNumber
    → number_in name (rows_of f) ≡ r
number_if_read f name r none some is =
    option_read (one_of name (rows_of f)) r (λ e. none (one_text-rows f name ∙ e))
    (λ t e. some t (one_text-rows f name ∙ e)) is

if_there : (o : Option Text) → IsSomeAnd o IsNumber → IfSome o IsNumber
if_there None is = absurd is
if_there (Some t) is = is

-- an option that has a number
pub number_read : (f : Found) (name : Text) (r : Option ℕ)
    → (one_text f name ≡ None → r ≡ None)
    → ((t : Text) → one_text f name ≡ Some t → ReadsOne Gives t r)
    → HasNumber name (rows_of f)
    → number_in name (rows_of f) ≡ r
number_read f name r none some has = number_if_read f name r none some (if_there (one_of name (rows_of f)) has)

there : (o : Option Text) (r : Option ℕ) → IsSomeAnd o IsNumber → option_map number_of o ≡ r → IsSome r
there None r is e = absurd is
there (Some t) r is e = sym (ap (λ (x : Option ℕ). is_some x) e)

-- and so there is a value
pub number_there : (f : Found) (name : Text) (r : Option ℕ) → (one_text f name ≡ None → r ≡ None)
    → ((t : Text) → one_text f name ≡ Some t → ReadsOne Gives t r) → HasNumber name (rows_of f) → IsSome r
number_there f name r none some has = there (one_of name (rows_of f)) r has (number_read f name r none some has)
