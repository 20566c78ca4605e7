-- How the texts of words and options are read.
use Rattle.std.proofs.Common.{◌≡◌, ◌∙◌, ap, sym, refl, ℕ, List, Option, Some, None}
use Rattle.std.specs.Prelude.{IsSome, is_some, option_map}
use Rattle.std.specs.Borrow.{Bor}
use Rattle.clap.specs.Words.{Text, first_of, first_value, rows_of}
use Rattle.clap.specs.declared.parser.matches.Found.{Found}
use Rattle.clap.proofs.WalkLemmas.{first_value-rows}

-- an option or a word that has a text gives it
pub text_there : (f : Found) (name : Text) (r : Option (Bor (List ℕ)))
    → option_map (λ s. s.now) r ≡ first_value f name
    → IsSome (first_of name (rows_of f))
    → IsSome r
text_there f name (Some v) e some = refl
text_there f name None e some = ap (λ (o : Option Text). is_some o) (e ∙ first_value-rows f name) ∙ some

-- and just that one
pub text_is : (f : Found) (name : Text) (r : Option (Bor (List ℕ))) (v : Bor (List ℕ))
    → option_map (λ s. s.now) r ≡ first_value f name
    → r ≡ Some v
    → first_of name (rows_of f) ≡ Some v.now
text_is f name r v e is =
    sym (first_value-rows f name) ∙ (sym e ∙ ap (λ (o : Option (Bor (List ℕ))). option_map (λ s. s.now) o) is)

-- and one that need not have a text gives what it has
pub text_if_there : (f : Found) (name : Text) (r : Option (Bor (List ℕ)))
    → option_map (λ s. s.now) r ≡ first_value f name
    → first_of name (rows_of f) ≡ option_map (λ s. s.now) r
text_if_there f name r e = sym (first_value-rows f name) ∙ sym e
