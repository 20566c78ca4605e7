-- The fields of the canonical spelling of a numbered frame.
use Rattle.std.proofs.Common.{◌≡◌, ℕ, ◌≤◌, Bool, true, ◌&&◌, List, [], ◌∷◌, ◌++◌, length, length-append, refl, ap, sym, ◌∙◌, arith, append_assoc, Option, Some, None}
use Rattle.std.specs.Prelude.{nat_le, codes}
use Rattle.std.specs.Option.{option_to_list}
use Rattle.std.proofs.lemmas.Bool.Decides.{nat_tests}
use Rattle.subj.specs.declared.limits.TheConstants.{MAX_COUNTER, MAX_WEIGHT, MAX_SNAPSHOT, MAX_PAYLOAD}
use Rattle.subj.specs.Messages.{Content, body_bytes, body_of}
use Rattle.route_values.specs.declared.bodies.Body.{Body}
use Rattle.route_values.specs.declared.bodies.Body.TheVariants.{Plus, Minus, Snapshot, Msg}
use Rattle.route_values.specs.Frames.{Frame}
use Rattle.route_values.specs.Snapshots.{are_rising, snapshot_text}
use Rattle.route_values.specs.Valid.{IsKey, IsWeighted, AreNames, IsReply, IsMessage, IsFrame, IsBody}
use Rattle.route_frames.specs.Canonical.{fields_with_spaces, common_of, member_fields, form_fields, size_fields, body_fields}
use Rattle.route_frames.proofs.Canonical.Fields.{AreFields, append_fields, queue_is_field, subject_is_field, pattern_is_field, node_is_field, number_is_field}

-- ---- the fields of a line

pub spaced-append : (front behind : List (List ℕ))
    → fields_with_spaces (front ++ behind) ≡ fields_with_spaces front ++ fields_with_spaces behind
spaced-append [] behind = refl
spaced-append (field ∷ front) behind =
    ap (λ rest. (32 ∷ field) ++ rest) (spaced-append front behind)
    ∙ sym (append_assoc (32 ∷ field) (fields_with_spaces front) (fields_with_spaces behind))

pub common_are : (frame : Frame) → IsFrame frame → frame.number ≤ MAX_COUNTER → AreFields (common_of frame)
common_are frame is most =
    let first = (is.inc).most in
    let second = (is.to_inc).most in (
      node_is_field frame.from is.from,
      (
        number_is_field frame.inc (omega arith),
        (
          node_is_field frame.to is.to,
          (number_is_field frame.to_inc (omega arith), (number_is_field frame.number (omega arith), tt)),
        ),
      ),
    )

-- ---- the fields of a body

pub weight_fits : (weight : ℕ) → (nat_le 1 weight && nat_le weight MAX_WEIGHT) ≡ true → weight ≤ MAX_WEIGHT
weight_fits weight is = grind (arith, nat_tests)

plus_are : (pattern : List ℕ) (queue : Option (List ℕ)) (weight : ℕ)
    → IsWeighted (record { pattern = pattern; queue = queue }, weight)
    → AreFields (codes "$G" ∷ pattern ∷ member_fields queue weight)
plus_are pattern None weight is = ((refl, refl), (pattern_is_field pattern (is.key).pattern, tt))
plus_are pattern (Some queue) weight is =
    let fits = weight_fits weight is.weight in (
      (refl, refl),
      (
        pattern_is_field pattern (is.key).pattern,
        (queue_is_field queue (is.key).queue, (number_is_field weight (omega arith), tt)),
      ),
    )

minus_are : (pattern : List ℕ) (queue : Option (List ℕ))
    → IsKey (record { pattern = pattern; queue = queue })
    → AreFields (codes "$G" ∷ pattern ∷ option_to_list queue)
minus_are pattern None is = ((refl, refl), (pattern_is_field pattern is.pattern, tt))
minus_are pattern (Some queue) is = (
  (refl, refl),
  (pattern_is_field pattern is.pattern, (queue_is_field queue is.queue, tt)),
)

names_are : (names : List (List ℕ)) → AreNames names → AreFields names
names_are [] is = tt
names_are (name ∷ names) is = (queue_is_field name is.0, names_are names is.1)

form_are : (reply : Option (List ℕ)) (names : List (List ℕ))
    → IsReply reply
    → AreNames names
    → AreFields (form_fields reply names)
form_are None [] is are = tt
form_are (Some reply) [] is are = (subject_is_field reply is, tt)
form_are None (name ∷ names) is are = ((refl, refl), names_are (name ∷ names) are)
form_are (Some reply) (name ∷ names) is are = ((refl, refl), (subject_is_field reply is, names_are (name ∷ names) are))

-- a header block is no longer than it is with the payload behind it
pub block_short : (block payload : List ℕ) → length block ≤ length (block ++ payload)
block_short block payload = let len = length-append block payload in omega (arith, len)

sizes_are : (headers : Option (List ℕ)) (payload : List ℕ)
    → length (body_bytes headers payload) ≤ MAX_PAYLOAD
    → AreFields (size_fields headers (length (body_bytes headers payload)))
sizes_are None payload short = (number_is_field (length payload) (omega arith), tt)
sizes_are (Some block) payload short =
    let within = block_short block payload in
    (number_is_field (length block) (omega arith), (number_is_field (length (block ++ payload)) (omega arith), tt))

message_are : (message : Content) (queues : List (List ℕ))
    → IsMessage message queues
    → AreFields (body_fields (Msg message queues))
message_are message queues is = (
  (refl, refl),
  (
    subject_is_field message.subject is.subject,
    append_fields (form_fields message.reply queues) (size_fields message.headers (length (body_of message)))
        (form_are message.reply queues is.reply is.names) (sizes_are message.headers message.payload is.body),
  ),
)

pub snapshot_fits : (len : ℕ) (rising : Bool) → (nat_le len MAX_SNAPSHOT && rising) ≡ true → len ≤ MAX_SNAPSHOT
snapshot_fits len rising is = grind (arith, nat_tests)

pub body_are : (body : Body) → IsBody body → AreFields (body_fields body)
body_are (Plus weighted) is = plus_are weighted.0.pattern weighted.0.queue weighted.1 is
body_are (Minus key) is = minus_are key.pattern key.queue is
body_are (Snapshot keys) is =
    let short = snapshot_fits (length (snapshot_text keys)) (are_rising keys) is.ordered in
    (number_is_field (length (snapshot_text keys)) (omega arith), tt)
body_are (Msg message queues) is = message_are message queues is
