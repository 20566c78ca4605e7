-- Subject matching.
use Rattle.std.specs.Prelude.{ℕ, Bool, true, false, ◌&&◌, ◌||◌, List, [], ◌∷◌}
use Rattle.std.specs.Str.{bytes_eq}
use Rattle.list_laws.specs.Lists.{is_empty}
use Rattle.subj.specs.Names.{tokens, is_one_wildcard, is_rest_wildcard}

-- NATS documentation, "Wildcards", on the lists of tokens of a pattern and of a subject
abbrev pub takes_token : List ℕ → List ℕ → Bool
takes_token wanted token = is_one_wildcard wanted || bytes_eq wanted token

abbrev pub tokens_match : List (List ℕ) → List (List ℕ) → Bool
tokens_match [] [] = true
tokens_match [] (token ∷ subject) = false
tokens_match (wanted ∷ pattern) [] = false
tokens_match (wanted ∷ pattern) (token ∷ subject) =
    (is_rest_wildcard wanted && is_empty pattern)
    || (takes_token wanted token && tokens_match pattern subject)

abbrev pub subject_matches : List ℕ → List ℕ → Bool
subject_matches pattern subject = tokens_match (tokens pattern) (tokens subject)
