-- Patterns in the order of bytes: which beginning the next one has that may match a subject.
use Rattle.std.specs.Prelude.{◌≡◌, ℕ, ◌<◌, ◌≤◌, Bool, true, false, ◌&&◌, List, [], ◌∷◌, ◌++◌, ◌⊎◌, length, take, codes, Option, Some, None, if◌then◌else◌}
use Rattle.subj.specs.Matching.{subject_matches}
use Rattle.subj.specs.Names.{tokens}
use Rattle.subj.specs.QueueNames.{is_before}
use Rattle.interest.specs.declared.sights.Beginning.{Beginning}
use Rattle.interest.specs.declared.sights.Level.{Level}
use Rattle.interest.specs.declared.sights.Level.TheVariants.{Match as Ends, Further, Apart}
use Rattle.interest.specs.declared.sights.Sight.{Sight}
use Rattle.interest.specs.declared.sights.Sight.TheVariants.{Match, Before, Nothing}

-- ---- the next token that takes the first token of a subject

abbrev pub is_nearer : List ℕ → Option (List ℕ) → Bool
is_nearer text None = true
is_nearer text (Some other) = is_before text other

-- the nearer of two texts that stand behind the rest of a pattern
abbrev pub nearer : List ℕ → List ℕ → Option (List ℕ) → Option (List ℕ)
nearer rest text other = if is_before rest text && is_nearer text other then Some text else other

abbrev pub nearest : List ℕ → List ℕ → List ℕ → Option (List ℕ)
nearest rest star token = nearer rest token (nearer rest star (nearer rest (codes ">") None))

-- a token that others follow has a dot behind it
abbrev pub next_token : List ℕ → List (List ℕ) → Option (List ℕ)
next_token rest [] = None
next_token rest (token ∷ []) = nearest rest (codes "*") token
next_token rest (token ∷ other ∷ others) = nearest rest (codes "*.") (token ++ 46 ∷ [])

abbrev pub next_of : List ℕ → List ℕ → Option (List ℕ)
next_of rest subject = next_token rest (tokens subject)

-- ---- texts that match and do not stand before a pattern

-- there is such a beginning, and the text does not stand before it
abbrev pub IsFrom : Option (List ℕ) → List ℕ → Type 0
IsFrom None text = ⊥
IsFrom (Some beginning) text = is_before text beginning ≡ false

-- the text has this beginning
abbrev pub Begins : List ℕ → List ℕ → Type 0
Begins beginning text = (rest : List ℕ) × (text ≡ beginning ++ rest)

abbrev pub MatchesFrom : List ℕ → List ℕ → List ℕ → Type 0
MatchesFrom pattern subject text =
    (is_before text pattern ≡ false) × (subject_matches text subject ≡ true)

-- what the first tokens of a pattern and of a subject tell
abbrev pub IsLevelOf : List ℕ → List ℕ → Level → Type 0
IsLevelOf rest subject Ends = subject_matches rest subject ≡ true
IsLevelOf rest subject (Further width left) =
    (width ≤ length rest)
    × (length left.now < length subject)
    × ((text : List ℕ)
    → subject_matches (take width rest ++ text) subject ≡ subject_matches text left.now)
    × ((text : List ℕ) → MatchesFrom rest subject text
    → Begins (take width rest) text ⊎ IsFrom (next_of rest subject) text)
IsLevelOf rest subject Apart =
    (subject_matches rest subject ≡ false)
    × ((text : List ℕ) → MatchesFrom rest subject text → IsFrom (next_of rest subject) text)

-- ---- what a pattern tells

abbrev pub text_of : Beginning → List ℕ
text_of beginning = beginning.before.now ++ beginning.last.now

abbrev pub text_if : Option Beginning → Option (List ℕ)
text_if None = None
text_if (Some beginning) = Some (text_of beginning)

-- a beginning farther on takes the place of the one that was known
abbrev pub later : List ℕ → Option (List ℕ) → Option (List ℕ) → Option (List ℕ)
later before None known = known
later before (Some last) known = Some (before ++ last)

abbrev pub IsSightOf : List ℕ → List ℕ → Sight → Type 0
IsSightOf pattern subject Match = subject_matches pattern subject ≡ true
IsSightOf pattern subject (Before beginning) =
    (subject_matches pattern subject ≡ false)
    × ((text : List ℕ) → MatchesFrom pattern subject text
    → is_before text (text_of beginning) ≡ false)
IsSightOf pattern subject Nothing = (text : List ℕ) → MatchesFrom pattern subject text → ⊥

abbrev pub sight_of : Option Beginning → Sight
sight_of None = Nothing
sight_of (Some beginning) = Before beginning
