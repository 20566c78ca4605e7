-- The beginnings of a pattern: what stands before each of its dots, and the pattern itself.
use Rattle.std.specs.Prelude.{ℕ, ◌+◌, Bool, false, ◌&&◌, ◌||◌, nat_lt, List, [], ◌∷◌, ◌++◌, length, drop}
use Rattle.std.specs.Bool.{nat_eq}
use Rattle.std.specs.Str.{bytes_eq}
use Rattle.subj.specs.Names.{is_dot}

-- whether q stands before a dot of the text
abbrev pub is_before_dot : List ℕ → List ℕ → Bool
is_before_dot [] [] = false
is_before_dot [] (byte ∷ text) = is_dot byte
is_before_dot (a ∷ q) [] = false
is_before_dot (a ∷ q) (byte ∷ text) = nat_eq a byte && is_before_dot q text

-- the same, before a dot among the first so many bytes
abbrev pub is_before_dot_of : ℕ → List ℕ → List ℕ → Bool
is_before_dot_of n q text = nat_lt (length q) n && is_before_dot q text

-- whether q begins the text: the tokens of q are the first of the text's
abbrev pub is_beginning : List ℕ → List ℕ → Bool
is_beginning q text = bytes_eq q text || is_before_dot q text

-- a beginning, and this text behind a dot
abbrev pub beginning_with_rest : List ℕ → List ℕ → List ℕ
beginning_with_rest more q = q ++ 46 ∷ more

-- whether q stands before a dot among the first so many bytes, and this begins what is behind it
abbrev pub goes_on : List ℕ → ℕ → List ℕ → List ℕ → Bool
goes_on more n q text = is_before_dot_of n q text && is_beginning more (drop (length q + 1) text)
