-- The canonical spelling of a frame spells it.
use Rattle.std.proofs.lemmas.Bool.Decides.{nat_tests}
use Rattle.serde_json.specs.Written.{compact_text}
use Rattle.std.proofs.Common.{◌≡◌, ℕ, ◌≤◌, List, [], ◌∷◌, ◌++◌, length, refl, ap, sym, ◌∙◌, subst, arith, append_assoc, Option, Some, None, append-nil, Bool, true, ◌&&◌, nat_le}
use Rattle.std.specs.Prelude.{decimal, codes, unwrap_or}
use Rattle.line_fields.specs.Fields.{fields, is_word}
use Rattle.line_fields.proofs.SpellingFields.{fields_follow}
use Rattle.subj.specs.declared.limits.TheConstants.{MAX_COUNTER, MAX_PAYLOAD}
use Rattle.subj.specs.Messages.{body_bytes}
use Rattle.route_values.specs.declared.bodies.Body.{Body}
use Rattle.route_values.specs.declared.bodies.Body.TheVariants.{Plus, Minus, Snapshot, Msg}
use Rattle.route_values.specs.declared.frames.RouteFrame.TheVariants as route
use Rattle.route_values.specs.Frames.{Frame}
use Rattle.route_values.specs.Snapshots.{Weighted, queue_fields, key_line, snapshot_text, are_rising, line_end}
use Rattle.route_values.specs.Valid.{IsWeighted, AreWeighted, IsBody, IsFrame}
use Rattle.route_frames.specs.declared.line_reading.TheConstants.{INCARNATION_DIGITS, NUMBER_DIGITS}
use Rattle.route_frames.specs.declared.line_reading.TheConstants.{WEIGHT_DIGITS, SIZE_DIGITS}
use Rattle.route_frames.specs.Operations.{word_of}
use Rattle.route_frames.specs.Canonical.{fields_with_spaces, message_operation, operation_word, common_of, member_fields, form_fields, size_fields, body_fields, numbered_line, body_payload, info_json, connect_json}
use Rattle.route_frames.specs.Spelling.{HasCommon, SpellsWeight, SpellsMessage, SpellsBody, SpellsKey, SpellsKeys, SpellsBehind, body_announces, Spells, SpellsNumbered}
use Rattle.route_frames.specs.Laws.{CanonicalIsSpelt}
use Rattle.route_frames.proofs.Canonical.Fields.{follow_spaced, append_fields, number_again}
use Rattle.route_frames.proofs.Meaning.Lines.{queue_weight}
use Rattle.route_frames.proofs.Canonical.Numbered.{spaced-append, common_are, snapshot_fits, block_short, body_are}
use Rattle.route_frames.proofs.Again.Greetings.{info_is_json, connect_is_json}

-- ---- a body

weight_spelt : (pattern : List ℕ) (queue : Option (List ℕ)) (weight : ℕ)
    → IsWeighted (record { pattern = pattern; queue = queue }, weight)
    → SpellsWeight queue weight (member_fields queue weight)
weight_spelt pattern None weight is = refl
weight_spelt pattern (Some queue) weight is =
    let fits = queue_weight weight is.weight in
    (decimal weight, refl, number_again WEIGHT_DIGITS weight (omega arith) (omega arith) (omega arith))

message_spelt : (subject : List ℕ) (reply headers : Option (List ℕ)) (payload : List ℕ) (queues : List (List ℕ))
    → length (body_bytes headers payload) ≤ MAX_PAYLOAD
    → SpellsMessage (record { subject = subject; reply = reply; headers = headers; payload = payload }) queues
    (codes "$G" ∷ subject ∷ (form_fields reply queues ++ size_fields headers (length (body_bytes headers payload))))
message_spelt subject reply None payload queues short =
    let size = length payload in
    (decimal size, refl, number_again SIZE_DIGITS size (omega arith) (omega arith) (omega arith))
message_spelt subject reply (Some block) payload queues short =
    let size = length (block ++ payload) in
    let within = block_short block payload in (
      decimal (length block),
      decimal size,
      refl,
      number_again SIZE_DIGITS (length block) (omega arith) (omega arith) (omega arith),
      number_again SIZE_DIGITS size (omega arith) (omega arith) (omega arith),
    )

body_spelt : (body : Body)
    → IsBody body
    → SpellsBody body (body_announces body (unwrap_or (body_payload body) [])) (body_fields body)
body_spelt (Plus weighted) is = (
  refl,
  (member_fields weighted.0.queue weighted.1, refl, weight_spelt weighted.0.pattern weighted.0.queue weighted.1 is),
)
body_spelt (Minus key) is = (refl, refl)
body_spelt (Snapshot keys) is =
    let size = length (snapshot_text keys) in
    let short = snapshot_fits size (are_rising keys) is.ordered in
    (size, refl, short, (decimal size, refl, number_again SIZE_DIGITS size (omega arith) (omega arith) (omega arith)))
body_spelt (Msg message queues) is = (
  refl,
  message_spelt message.subject message.reply message.headers message.payload queues is.body,
)

-- ---- the text of a snapshot

key_spelt : (pattern : List ℕ) (queue : Option (List ℕ)) (weight : ℕ)
    → IsWeighted (record { pattern = pattern; queue = queue }, weight)
    → SpellsKey pattern queue weight (pattern ++ queue_fields queue weight)
key_spelt pattern None weight is = append-nil pattern
key_spelt pattern (Some queue) weight is =
    let fits = queue_weight weight is.weight in
    (decimal weight, refl, number_again WEIGHT_DIGITS weight (omega arith) (omega arith) (omega arith))

first_line : (weighted : Weighted) (rest : List ℕ)
    → key_line weighted ++ rest ≡ (weighted.0.pattern ++ queue_fields weighted.0.queue weighted.1) ++ (line_end ++ rest)
unfolding key_line
first_line weighted rest = simp append_assoc refl

keys_spelt : (keys : List Weighted) → AreWeighted keys → SpellsKeys keys (snapshot_text keys)
keys_spelt [] are = refl
keys_spelt (weighted ∷ keys) are = (
  weighted.0.pattern ++ queue_fields weighted.0.queue weighted.1,
  snapshot_text keys,
  first_line weighted (snapshot_text keys),
  key_spelt weighted.0.pattern weighted.0.queue weighted.1 are.0,
  keys_spelt keys are.1,
)

payload_spelt : (body : Body) → IsBody body → SpellsBehind body (unwrap_or (body_payload body) [])
payload_spelt (Plus weighted) is = refl
payload_spelt (Minus key) is = refl
payload_spelt (Snapshot keys) is = keys_spelt keys is.each
payload_spelt (Msg message queues) is = refl

-- ---- a numbered frame

number_most : (n : ℕ) (rest : Bool) → (nat_le n MAX_COUNTER && rest) ≡ true → n ≤ MAX_COUNTER
number_most n rest is = grind (arith, nat_tests)

common_spelt : (frame : Frame) (behind : List (List ℕ))
    → IsFrame frame
    → frame.number ≤ MAX_COUNTER
    → HasCommon frame (common_of frame ++ behind) behind
common_spelt frame behind is most =
    let first = (is.inc).most in
    let second = (is.to_inc).most in record {
      inc = decimal frame.inc;
      to_inc = decimal frame.to_inc;
      number = decimal frame.number;
      whole = refl;
      is_inc = number_again INCARNATION_DIGITS frame.inc (omega arith) (omega arith) (omega arith);
      is_to_inc = number_again INCARNATION_DIGITS frame.to_inc (omega arith) (omega arith) (omega arith);
      is_number = number_again NUMBER_DIGITS frame.number (omega arith) (omega arith) (omega arith);
    }

fields_of_text : (frame : Frame)
    → IsFrame frame
    → frame.number ≤ MAX_COUNTER
    → fields (fields_with_spaces (common_of frame) ++ fields_with_spaces (body_fields frame.body))
    ≡ common_of frame ++ body_fields frame.body
fields_of_text frame is most =
    ap fields (sym (spaced-append (common_of frame) (body_fields frame.body)))
    ∙ (fields_follow (common_of frame ++ body_fields frame.body) _
    (follow_spaced (common_of frame ++ body_fields frame.body)
    (append_fields (common_of frame) (body_fields frame.body) (common_are frame is most)
    (body_are frame.body is.body)))).0

message_named : (headers : Option (List ℕ))
    → is_word (word_of (message_operation headers)) (word_of (message_operation headers)) ≡ true
message_named None = refl
message_named (Some block) = refl

named : (body : Body) → is_word (operation_word body) (operation_word body) ≡ true
named (Plus weighted) = refl
named (Minus key) = refl
named (Snapshot keys) = refl
named (Msg message queues) = message_named message.headers

numbered_spelt : (frame : Frame)
    → IsFrame frame
    → Spells (route.Numbered frame) (numbered_line frame) (unwrap_or (body_payload frame.body) [])
unfolding numbered_line
numbered_spelt frame is =
    let most = number_most frame.number _ is.number in
    let Says : List (List ℕ) → Type 0 =
    λ all. SpellsNumbered frame (body_announces frame.body (unwrap_or (body_payload frame.body) [])) all in
    record {
      in_line = record {
        word = operation_word frame.body;
        text = fields_with_spaces (common_of frame) ++ fields_with_spaces (body_fields frame.body);
        whole = refl;
        names = named frame.body;
        is_behind = refl;
        says =
            subst Says (sym (fields_of_text frame is most)) (
              body_fields frame.body,
              common_spelt frame (body_fields frame.body) is most,
              body_spelt frame.body is.body,
            );
        valid = is;
      };
      behind = payload_spelt frame.body is.body;
    }

-- ---- any frame

pub canonical_is_spelt : CanonicalIsSpelt
canonical_is_spelt (route.Info info) is = record {
  in_line = record {
    word = codes "INFO";
    text = 32 ∷ compact_text (info_json info);
    whole = refl;
    names = refl;
    is_behind = refl;
    says = (refl, info_json info, info_is_json info is, record { server_name = refl; inc = refl });
    valid = is;
  };
  behind = refl;
}
canonical_is_spelt (route.Connect connect) is = record {
  in_line = record {
    word = codes "CONNECT";
    text = 32 ∷ compact_text (connect_json connect);
    whole = refl;
    names = refl;
    is_behind = refl;
    says = (
      refl,
      connect_json connect,
      connect_is_json connect is,
      record { server_name = refl; inc = refl; to = refl; to_inc = refl; serial = refl },
    );
    valid = is;
  };
  behind = refl;
}
canonical_is_spelt (route.Numbered frame) is = numbered_spelt frame is
