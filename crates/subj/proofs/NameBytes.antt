-- A server's name is text.
use Rattle.std.proofs.Common.{◌≡◌, ℕ, ◌<◌, Bool, true, false, not, ◌||◌, List, [], ◌∷◌, Some, None, refl, arith, cond}
use Rattle.std.specs.Prelude.{nat_lt, length}
use Rattle.std.specs.Str.{IsAscii, IsUtf8}
use Rattle.std.proofs.lemmas.Str.{IsUtf8-from_ascii}
use Rattle.std.proofs.lemmas.Str.Ascii.{IsAscii-nil, IsAscii-cons}
use Rattle.std.proofs.lemmas.Bool.Decides.{nat_tests}
use Rattle.subj.specs.declared.limits.TheConstants.{MAX_NODE_NAME}
use Rattle.subj.specs.declared.faults.NameFault.TheVariants.{BadByte, TooLong}
use Rattle.subj.specs.Names.{is_node_name_byte, has_no_name_byte, node_name_fault}

byte : (b : ℕ) (rest : Bool) → (not (is_node_name_byte b) || rest) ≡ false → (b < 128) × (rest ≡ false)
byte b rest valid = grind (arith, nat_tests)

ascii : (text : List ℕ) → has_no_name_byte text ≡ false → IsAscii text
ascii [] valid = IsAscii-nil
ascii (b ∷ bs) valid = let head = byte b (has_no_name_byte bs) valid in IsAscii-cons b bs head.0 (ascii bs head.1)

no_bad_byte : (long bad : Bool) → cond long (Some TooLong) (cond bad (Some BadByte) None) ≡ None → bad ≡ false
no_bad_byte true bad valid = cc
no_bad_byte false true valid = cc
no_bad_byte false false valid = refl

pub name_is_text : (name : List ℕ) → node_name_fault name ≡ None → IsUtf8 name
name_is_text [] valid = IsUtf8-from_ascii [] IsAscii-nil
name_is_text (b ∷ bs) valid =
    IsUtf8-from_ascii (b ∷ bs)
    (ascii (b ∷ bs) (no_bad_byte (nat_lt MAX_NODE_NAME (length (b ∷ bs))) (has_no_name_byte (b ∷ bs)) valid))
