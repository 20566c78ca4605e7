-- Whether bytes are JSON, and what stands behind the operation of a line.
use Rattle.std.proofs.Common.{◌≡◌, ℕ, Bool, true, false, cond, List, ◌++◌, length, drop, ap, sym, ◌∙◌, refl, Some, None}
use Rattle.std.proofs.Math.Seq.{drop-append_seam}
use Rattle.std.specs.Str.{IsUtf8, is_utf8}
use Rattle.std.proofs.lemmas.Str.{IsUtf8-from_is_utf8, is_utf8-from_IsUtf8}
use Rattle.serde_json.specs.Data.{Data}
use Rattle.serde_json.specs.Read.{read}
use Rattle.client_frames.specs.Choices.{json_of}

pub is_json : (text : List ℕ) (json : Data) → IsUtf8 text → read text ≡ Some json → Some json ≡ json_of text
is_json text json utf8 is = sym (ap (λ b. cond b (read text) None) (is_utf8-from_IsUtf8 text utf8) ∙ is)

no_json_by : (text : List ℕ) (utf8 : Bool)
    → is_utf8 text ≡ utf8
    → (IsUtf8 text → read text ≡ None)
    → json_of text ≡ None
no_json_by text true is none = ap (λ b. cond b (read text) None) is ∙ none (IsUtf8-from_is_utf8 text is)
no_json_by text false is none = ap (λ b. cond b (read text) None) is

pub no_json : (text : List ℕ) → (IsUtf8 text → read text ≡ None) → None ≡ json_of text
no_json text none = sym (no_json_by text (is_utf8 text) refl none)

pub text_behind : (field text line : List ℕ) → line ≡ field ++ text → drop (length field) line ≡ text
text_behind field text line whole = ap (drop (length field)) whole ∙ drop-append_seam field text
