-- Whether bytes are JSON.
use Rattle.std.proofs.Common.{◌≡◌, ℕ, Bool, true, false, cond, List, ap, ◌∙◌, refl, Some, None, Ok, Err}
use Rattle.std.specs.Option.{ok_or}
use Rattle.std.specs.Str.{IsUtf8, is_utf8}
use Rattle.std.proofs.lemmas.Str.{IsUtf8-from_is_utf8, is_utf8-from_IsUtf8}
use Rattle.serde_json.specs.Data.{Data}
use Rattle.serde_json.specs.Read.{read}
use Rattle.route_frames.specs.declared.faults.RouteFault.TheVariants.{BadArgs}
use Rattle.route_frames.specs.Greetings.{json_of}

pub json_of_utf8 : (text : List ℕ) (json : Data) → IsUtf8 text → read text ≡ Some json → json_of text ≡ Some json
json_of_utf8 text json utf8 is = ap (λ b. cond b (read text) None) (is_utf8-from_IsUtf8 text utf8) ∙ is

pub is_json : (text : List ℕ) (json : Data)
    → IsUtf8 text
    → read text ≡ Some json
    → ok_or (json_of text) BadArgs ≡ Ok json
is_json text json utf8 is = ap (λ o. ok_or o BadArgs) (json_of_utf8 text json utf8 is)

no_json_by : (text : List ℕ) (utf8 : Bool)
    → is_utf8 text ≡ utf8
    → (IsUtf8 text → read text ≡ None)
    → ok_or (json_of text) BadArgs ≡ Err BadArgs
no_json_by text true is none =
    ap (λ b. ok_or (cond b (read text) None) BadArgs) is
    ∙ ap (λ o. ok_or o BadArgs) (none (IsUtf8-from_is_utf8 text is))
no_json_by text false is none = ap (λ b. ok_or (cond b (read text) None) BadArgs) is

pub no_json : (text : List ℕ) → (IsUtf8 text → read text ≡ None) → ok_or (json_of text) BadArgs ≡ Err BadArgs
no_json text none = no_json_by text (is_utf8 text) refl none
