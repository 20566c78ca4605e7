-- What a line and its payload mean agrees with the causes of the line: the first of them is told, and where there is
-- none a refusal is `BadArgs`.
use Rattle.std.proofs.Common.{ℕ, ◌&&◌, List, [], ◌∷◌, length, take, drop, refl, Option, Some, None}
use Rattle.std.specs.Prelude.{nat_eq, nat_le}
use Rattle.std.specs.Option.{ok_or}
use Rattle.list_laws.specs.Lists.{is_empty}
use Rattle.line_fields.specs.Fields.{line_fields, number_of}
use Rattle.subj.specs.Messages.{is_block}
use Rattle.route_values.specs.Frames.{frame_of}
use Rattle.route_values.specs.Snapshots.{weighted_key, snapshot_of}
use Rattle.route_frames.specs.declared.faults.RouteFault.{RouteFault}
use Rattle.route_frames.specs.declared.faults.RouteFault.TheVariants.{BadArgs}
use Rattle.route_frames.specs.declared.line_reading.TheConstants.{WEIGHT_DIGITS}
use Rattle.route_frames.specs.declared.line_reading.Operation.{Operation}
use Rattle.route_frames.specs.declared.line_reading.Operation.TheVariants as operation
use Rattle.route_frames.specs.declared.line_reading.NumberedOperation.TheVariants as kind
use Rattle.route_frames.specs.declared.reading.LineBody.{LineBody}
use Rattle.route_frames.specs.declared.reading.LineBody.TheVariants as body
use Rattle.route_frames.specs.declared.reading.NumberedLine.{NumberedLine}
use Rattle.route_frames.specs.declared.reading.RouteLine.{RouteLine}
use Rattle.route_frames.specs.declared.reading.RouteLine.TheVariants as line
use Rattle.route_frames.specs.Meaning.{Meaning}
use Rattle.route_frames.specs.Operations.{operation_of}
use Rattle.route_frames.specs.CommonFields.{CommonFields, common_fields}
use Rattle.route_frames.specs.Arguments.{plus_fields, minus_fields, snapshot_field, message_fields, header_fields}
use Rattle.route_frames.specs.NumberedLines.{key_of, plus_line, minus_line, snapshot_line, message_line, header_line}
use Rattle.route_frames.specs.Greetings.{json_of, info_of, connect_text_of}
use Rattle.route_frames.specs.Lines.{line_of_fields, operation_meaning, fields_meaning, line_meaning, announced_size, announced_headers}
use Rattle.route_frames.specs.SnapshotTexts.{pieces, plain_key, queue_key, weighted_of, before_cr, key_line_of, keys_in, snapshot_in}
use Rattle.route_frames.specs.Decoding.{size_meaning, payload_meaning, block_meaning, fits_meaning, line_fits, body_in, message_meaning, body_meaning, numbered_meaning, frame_behind, frame_meaning}
use Rattle.route_frames.specs.Causes.{plus_cause, minus_cause, snapshot_cause, message_cause, common_cause, members_cause, info_members, connect_members, operation_cause, fields_cause, line_cause}
use Rattle.route_frames.proofs.Refused.Agreement.{Agrees, agrees_then, ok_or_agrees, refused_unless, fields_agree}
use Rattle.route_frames.proofs.Refused.Numbered.{key_agrees, plus_agrees, minus_agrees, snapshot_agrees, message_agrees}
use Rattle.route_frames.proofs.Refused.Greetings.{info_agrees, connect_agrees}

-- ---- lines

numbered_agrees : (behind : CommonFields → List (List ℕ) → Meaning NumberedLine)
    (cause : CommonFields → List (List ℕ) → Option RouteFault) (fields : List (List ℕ))
    → ((common : CommonFields) (fields : List (List ℕ)) → Agrees (cause common fields) (behind common fields))
    → Agrees (common_cause cause (common_fields fields)) (line_of_fields behind fields)
numbered_agrees behind cause fields each = fields_agree (common_cause cause) (common_fields fields) _ refl (λ split.
    agrees_then (cause split.0 split.1) (behind split.0 split.1) _ (each split.0 split.1) (λ line. tt))

operation_agrees : (named : Option Operation) (text : List ℕ) (fields : List (List ℕ))
    → Agrees (operation_cause named text fields) (operation_meaning named text fields)
operation_agrees None text fields = refl
operation_agrees (Some operation.Info) text fields =
    agrees_then (members_cause info_members (json_of text)) (info_of text) _ (info_agrees text) (λ info. tt)
operation_agrees (Some operation.Connect) text fields =
    agrees_then (members_cause connect_members (json_of text)) (connect_text_of text) _ (connect_agrees text)
    (λ connect. tt)
operation_agrees (Some (operation.Numbered kind.Plus)) text fields =
    numbered_agrees plus_line (λ common behind. plus_cause common (plus_fields behind)) fields plus_agrees
operation_agrees (Some (operation.Numbered kind.Minus)) text fields =
    numbered_agrees minus_line (λ common behind. minus_cause common (minus_fields behind)) fields minus_agrees
operation_agrees (Some (operation.Numbered kind.Snapshot)) text fields =
    numbered_agrees snapshot_line (λ common behind. snapshot_cause common (snapshot_field behind)) fields
    snapshot_agrees
operation_agrees (Some (operation.Numbered kind.Msg)) text fields =
    numbered_agrees message_line (λ common behind. message_cause common (message_fields behind)) fields
    (λ common behind. message_agrees common (message_fields behind))
operation_agrees (Some (operation.Numbered kind.HeaderMsg)) text fields =
    numbered_agrees header_line (λ common behind. message_cause common (header_fields behind)) fields
    (λ common behind. message_agrees common (header_fields behind))

fields_of_line_agree : (line : List ℕ) (fields : List (List ℕ))
    → Agrees (fields_cause line fields) (fields_meaning line fields)
fields_of_line_agree line [] = refl
fields_of_line_agree line (field ∷ fields) = operation_agrees (operation_of field) (drop (length field) line) fields

pub line_agrees : (line : List ℕ) → Agrees (line_cause line) (line_meaning line)
line_agrees line = fields_of_line_agree line (line_fields line)

pub size_agrees : (line : List ℕ) → Agrees (line_cause line) (size_meaning line)
size_agrees line = agrees_then (line_cause line) (line_meaning line) _ (line_agrees line) (λ read. tt)

-- ---- payloads: whatever is wrong with one is `BadArgs`

plain_key_agrees : (pattern : List ℕ) → Agrees None (plain_key pattern)
unfolding plain_key
plain_key_agrees pattern =
    agrees_then None (key_of pattern None) _ (key_agrees pattern None) (λ key. ok_or_agrees (weighted_key key 1))

queue_key_agrees : (pattern queue weight : List ℕ) → Agrees None (queue_key pattern queue weight)
unfolding queue_key
queue_key_agrees pattern queue weight =
    agrees_then None (ok_or (number_of WEIGHT_DIGITS weight) BadArgs) _ (ok_or_agrees (number_of WEIGHT_DIGITS weight))
    (λ weight.
    agrees_then None (key_of pattern (Some queue)) _ (key_agrees pattern (Some queue))
    (λ key. ok_or_agrees (weighted_key key weight)))

weighted_agrees : (fields : List (List ℕ)) → Agrees None (weighted_of fields)
weighted_agrees [] = refl
weighted_agrees (pattern ∷ []) = plain_key_agrees pattern
weighted_agrees (pattern ∷ queue ∷ []) = refl
weighted_agrees (pattern ∷ queue ∷ weight ∷ []) = queue_key_agrees pattern queue weight
weighted_agrees (pattern ∷ queue ∷ weight ∷ other ∷ others) = refl

key_line_agrees : (text : List ℕ) → Agrees None (key_line_of text)
unfolding key_line_of
key_line_agrees text =
    agrees_then None (ok_or (before_cr text) BadArgs) _ (ok_or_agrees (before_cr text))
    (λ line. weighted_agrees (pieces 32 line))

keys_agree : (texts : List (List ℕ)) → Agrees None (keys_in texts)
keys_agree [] = tt
keys_agree (last ∷ []) = refused_unless (is_empty last) []
keys_agree (text ∷ next ∷ texts) =
    agrees_then None (key_line_of text) _ (key_line_agrees text) (λ key.
    agrees_then None (keys_in (next ∷ texts)) _ (keys_agree (next ∷ texts)) (λ others. tt))

snapshot_in_agrees : (text : List ℕ) → Agrees None (snapshot_in text)
unfolding snapshot_in
snapshot_in_agrees text =
    agrees_then None (keys_in (pieces 10 text)) _ (keys_agree (pieces 10 text))
    (λ keys. ok_or_agrees (snapshot_of keys))

sized_agrees : (size : Option ℕ) (payload : List ℕ) → Agrees None (payload_meaning size payload)
sized_agrees None payload = refused_unless (is_empty payload) tt
sized_agrees (Some size) payload = refused_unless (nat_eq (length payload) size) tt

block_agrees : (headers : Option ℕ) (payload : List ℕ) → Agrees None (block_meaning headers payload)
block_agrees None payload = tt
block_agrees (Some headers) payload =
    refused_unless (nat_le headers (length payload) && is_block (take headers payload)) tt

fits_agree : (size headers : Option ℕ) (payload : List ℕ) → Agrees None (fits_meaning size headers payload)
fits_agree size headers payload =
    agrees_then None (payload_meaning size payload) _ (sized_agrees size payload)
    (λ sized. block_agrees headers payload)

message_meaning_agrees : (subject : List ℕ) (reply : Option (List ℕ)) (headers : Option ℕ) (payload : List ℕ)
    → Agrees None (message_meaning subject reply headers payload)
message_meaning_agrees subject reply headers payload =
    agrees_then None (ok_or (body_in headers payload) BadArgs) _ (ok_or_agrees (body_in headers payload)) (λ body. tt)

body_agrees : (said : LineBody) (payload : List ℕ) → Agrees None (body_meaning said payload)
body_agrees (body.Plus key) payload = tt
body_agrees (body.Minus key) payload = tt
body_agrees (body.Snapshot size) payload =
    agrees_then None (snapshot_in payload) _ (snapshot_in_agrees payload) (λ keys. tt)
body_agrees (body.Msg subject reply queues headers size) payload =
    agrees_then None (message_meaning subject reply headers payload) _
    (message_meaning_agrees subject reply headers payload) (λ message. tt)

numbered_frame_agrees : (line_of_fields : NumberedLine) (payload : List ℕ)
    → Agrees None (numbered_meaning line_of_fields payload)
unfolding numbered_meaning
numbered_frame_agrees line_of_fields payload =
    agrees_then None (body_meaning line_of_fields.body payload) _ (body_agrees line_of_fields.body payload) (λ body.
    ok_or_agrees (frame_of line_of_fields.from line_of_fields.numbers.inc line_of_fields.to
    line_of_fields.numbers.to_inc line_of_fields.numbers.number body))

behind_agrees : (read : RouteLine) (payload : List ℕ) → Agrees None (frame_behind read payload)
behind_agrees (line.Info info) payload = tt
behind_agrees (line.Connect connect) payload = tt
behind_agrees (line.Numbered line_of_fields) payload =
    agrees_then None (numbered_meaning line_of_fields payload) _ (numbered_frame_agrees line_of_fields payload)
    (λ frame. tt)

-- ---- frames

pub frame_agrees : (line payload : List ℕ) → Agrees (line_cause line) (frame_meaning line payload)
unfolding frame_meaning
frame_agrees line payload =
    agrees_then (line_cause line) (line_meaning line) _ (line_agrees line) (λ read.
    agrees_then None (line_fits read payload) _ (fits_agree (announced_size read) (announced_headers read) payload)
    (λ fits. behind_agrees read payload))
