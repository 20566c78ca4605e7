-- Classes of tokens.
use Rattle.std.specs.Prelude.{ℕ, ◌%◌, Bool, List, [], ◌∷◌, if◌then◌else◌}
use Rattle.std.specs.Bool.{nat_eq}
use Rattle.std.specs.Int.{bit_at}
use Rattle.std.specs.Hash.FoldHasher as folding
use Rattle.subj.specs.Names.{is_dot, is_one_wildcard, is_rest_wildcard}
use Rattle.pattern_trie.specs.declared.marks.Marks.{Marks}

-- what stands before the first dot
abbrev pub first_token : List ℕ → List ℕ
first_token [] = []
first_token (byte ∷ text) = if is_dot byte then [] else byte ∷ first_token text

abbrev pub plain_class_of : List ℕ → ℕ
plain_class_of token = folding.finish (folding.write folding.initial token) % 62

-- one of 64 classes, of which each wildcard has one of its own
abbrev pub class_of_token : List ℕ → ℕ
class_of_token token =
    if is_one_wildcard token then 62
    else (if is_rest_wildcard token then 63 else plain_class_of token)

-- the class of a text is that of its first token
abbrev pub class_of : List ℕ → ℕ
class_of text = class_of_token (first_token text)

abbrev pub is_in : List ℕ → Marks → Bool
is_in text marks = nat_eq (bit_at marks.bits (class_of text)) 1
