-- Where one of a pattern and a subject has tokens left and the other has none.
use Rattle.std.proofs.Common.{◌≡◌, ℕ, false, List, [], ◌∷◌, refl}
use Rattle.list_laws.specs.Lists.{is_empty}
use Rattle.subj.specs.Names.{tokens}
use Rattle.subj.specs.Matching.{tokens_match}
use Rattle.subj.proofs.Tokens.{tokens_are_some}

pattern_left : (pattern : List (List ℕ)) → is_empty pattern ≡ false → tokens_match pattern [] ≡ false
pattern_left [] some = cc
pattern_left (wanted ∷ pattern) some = refl

subject_left : (subject : List (List ℕ)) → is_empty subject ≡ false → tokens_match [] subject ≡ false
subject_left [] some = cc
subject_left (token ∷ subject) some = refl

pub more_pattern : (pattern : List ℕ) → tokens_match (tokens pattern) [] ≡ false
more_pattern pattern = pattern_left (tokens pattern) (tokens_are_some pattern)

pub more_subject : (subject : List ℕ) → tokens_match [] (tokens subject) ≡ false
more_subject subject = subject_left (tokens subject) (tokens_are_some subject)
