-- The canonical texts of INFO and CONNECT are the JSON that they were written from.
use Rattle.std.proofs.Common.{◌≡◌, ℕ, ◌≤◌, List, [], ◌∷◌, refl, ap, sym, ◌∙◌, arith, append-nil, Some}
use Rattle.std.specs.Prelude.{option_and_then}
use Rattle.json.specs.Lex.{lex, tokens}
use Rattle.json.specs.Json as json
use Rattle.json.specs.Tree as tree
use Rattle.json.proofs.Printed.Tokens.{tokens-print}
use Rattle.json.proofs.Printed.Trees.{value-json_tokens, ArePrintable-json_tokens}
use Rattle.json.proofs.Printed.Decimals.{IsNumber-decimal}
use Rattle.serde_json.specs.Data.{Data}
use Rattle.serde_json.specs.Read.{max_depth, of_json, read}
use Rattle.serde_json.specs.Written.{outline, compact_text}
use Rattle.serde_json.proofs.Texts.{print-outline}
use Rattle.serde_json.proofs.Numbers.{number_of-decimal}
use Rattle.subj.specs.declared.limits.TheConstants.{MAX_COUNTER}
use Rattle.route_values.specs.Records.{Info, Connect}
use Rattle.route_values.specs.Valid.{IsInfo, IsConnect}
use Rattle.route_frames.specs.Greetings.{json_of}
use Rattle.route_frames.specs.Canonical.{info_json, connect_json}
use Rattle.route_frames.proofs.Again.Json.{json_of_utf8}
use Rattle.route_frames.proofs.Canonical.Greetings.{plain_is_utf8, info_text, connect_text, serial_range}

-- ---- compact JSON is read again, also behind the blank

read_by : (j : json.Json) (text : List ℕ) (d : Data)
    → tokens text ≡ tree.json_tokens j
    → tree.depth j ≤ max_depth
    → of_json j ≡ Some d
    → read text ≡ Some d
read_by j text d says shallow is =
    ap (λ o. option_and_then of_json (option_and_then (λ p. json.if_last p.0 p.1) o))
    (ap (json.value max_depth) (says ∙ sym (append-nil (tree.json_tokens j)))
    ∙ value-json_tokens j max_depth [] shallow)
    ∙ is

behind_blank : (text : List ℕ) → tokens (32 ∷ text) ≡ tokens text
unfolding lex
behind_blank text = refl

compact_again : (d : Data)
    → tree.HasNumbers (outline d)
    → tree.depth (outline d) ≤ max_depth
    → of_json (outline d) ≡ Some d
    → read (32 ∷ compact_text d) ≡ Some d
compact_again d numbers shallow is =
    let written : tokens (compact_text d) ≡ tree.json_tokens (outline d) = ap tokens (sym (print-outline d))
    ∙ tokens-print (tree.json_tokens (outline d)) (ArePrintable-json_tokens (outline d) numbers) in
    read_by (outline d) (32 ∷ compact_text d) d (behind_blank (compact_text d) ∙ written) shallow is

-- ---- INFO

info_read : (info : Info) → IsInfo info → of_json (outline (info_json info)) ≡ Some (info_json info)
info_read info is = let most = (is.inc).most in rw (number_of-decimal info.inc (omega arith)) refl

pub info_is_json : (info : Info) → IsInfo info → json_of (32 ∷ compact_text (info_json info)) ≡ Some (info_json info)
info_is_json info is =
    let most = (is.inc).most in
    let text = info_text info is in
    let says = compact_again (info_json info) (IsNumber-decimal info.inc (omega arith), (tt, tt)) (omega arith)
    (info_read info is) in
    json_of_utf8 (32 ∷ compact_text (info_json info)) (info_json info)
    (plain_is_utf8 (32 ∷ compact_text (info_json info)) text.plain) says

-- ---- CONNECT

connect_read : (connect : Connect)
    → IsConnect connect
    → connect.serial ≤ MAX_COUNTER
    → of_json (outline (connect_json connect)) ≡ Some (connect_json connect)
connect_read connect is serial_most =
    let most = (is.inc).most in
    let to_most = (is.to_inc).most in
    rw (
      number_of-decimal connect.inc (omega arith),
      number_of-decimal connect.serial (omega arith),
      number_of-decimal connect.to_inc (omega arith),
    )
    refl

pub connect_is_json : (connect : Connect)
    → IsConnect connect
    → json_of (32 ∷ compact_text (connect_json connect)) ≡ Some (connect_json connect)
connect_is_json connect is =
    let most = (is.inc).most in
    let to_most = (is.to_inc).most in
    let serial_most = (serial_range connect.serial is.serial).1 in
    let text = connect_text connect is in
    let numbers : tree.HasNumbers (outline (connect_json connect)) = (
      IsNumber-decimal connect.inc (omega arith),
      (IsNumber-decimal connect.serial (omega arith), (tt, (tt, (IsNumber-decimal connect.to_inc (omega arith), tt)))),
    ) in
    let says = compact_again (connect_json connect) numbers (omega arith) (connect_read connect is serial_most) in
    json_of_utf8 (32 ∷ compact_text (connect_json connect)) (connect_json connect)
    (plain_is_utf8 (32 ∷ compact_text (connect_json connect)) text.plain) says
