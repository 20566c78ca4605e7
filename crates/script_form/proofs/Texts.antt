-- JSON has bytes.
use Rattle.std.proofs.Common.{◌≡◌, ℕ, ◌<◌, Bool, true, false, cond, List, [], ◌∷◌, length, sym, ◌∙◌, refl, Option, Some, None, arith, rules}
use Rattle.std.specs.Str.{is_utf8}
use Rattle.serde_json.proofs.OnLiterals.{serde_json_on_literals}
use Rattle.serde_json.specs.Data.{Data}
use Rattle.serde_json.specs.Read.{read}
use Rattle.client_frames.specs.Choices.{json_of}

nothing_read : read [] ≡ None
unfolding serde_json_on_literals
nothing_read = refl

none_either : (test : Bool) (found : Option Data) → found ≡ None → cond test found None ≡ None
none_either true found none = none
none_either false found none = refl

nothing_is_none : json_of [] ≡ None
nothing_is_none = none_either (is_utf8 []) (read []) nothing_read

some_by : (bytes : List ℕ) (found : Option Data) (json : Data)
    → json_of bytes ≡ found
    → found ≡ Some json
    → 0 < length bytes
some_by [] found json is some =
    let none : ◌≡◌ {A = Option Data} None (Some json) = sym nothing_is_none ∙ is ∙ some in search rules
some_by (byte ∷ bytes) found json is some = grind arith

pub some_bytes : (bytes : List ℕ) (json : Data) → json_of bytes ≡ Some json → 0 < length bytes
some_bytes bytes json is = some_by bytes (Some json) json is refl
