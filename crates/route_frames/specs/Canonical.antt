-- The canonical spelling of a frame: upper case, one space, no leading zeros, compact JSON with its
-- keys in the order of their bytes (profile).
use Rattle.std.specs.Prelude.{ℕ, List, [], ◌∷◌, ◌++◌, length, codes, decimal, Option, Some, None}
use Rattle.std.specs.List.{flat_map}
use Rattle.std.specs.Option.{option_to_list}
use Rattle.line_fields.specs.LineEnd.{payload_bytes}
use Rattle.subj.specs.Messages.{body_of}
use Rattle.serde_json.specs.Data.{Data, number, unsigned, string, object, member, no_members}
use Rattle.serde_json.specs.Written.{compact_text}
use Rattle.route_values.specs.declared.bodies.Body.{Body}
use Rattle.route_values.specs.declared.bodies.Body.TheVariants.{Plus, Minus, Snapshot, Msg}
use Rattle.route_values.specs.declared.frames.RouteFrame.{RouteFrame}
use Rattle.route_values.specs.declared.frames.RouteFrame.TheVariants as frame
use Rattle.route_values.specs.Records.{Info, Connect}
use Rattle.route_values.specs.Frames.{Frame}
use Rattle.route_values.specs.Snapshots.{line_end, snapshot_text}
use Rattle.route_frames.specs.declared.line_reading.Operation.{Operation}
use Rattle.route_frames.specs.declared.line_reading.Operation.TheVariants as operation
use Rattle.route_frames.specs.declared.line_reading.NumberedOperation.TheVariants as kind
use Rattle.route_frames.specs.Operations.{word_of}

-- ---- INFO and CONNECT

abbrev pub number_data : ℕ → Data
number_data n = number (unsigned n)

abbrev pub info_json : Info → Data
info_json info = object (
    member (codes "inc") (number_data info.inc) (
    member (codes "server_name") (string info.server_name) no_members))

abbrev pub connect_json : Connect → Data
connect_json connect = object (
    member (codes "inc") (number_data connect.inc) (
    member (codes "serial") (number_data connect.serial) (
    member (codes "server_name") (string connect.server_name) (
    member (codes "to") (string connect.to) (
    member (codes "to_inc") (number_data connect.to_inc) no_members)))))

-- ---- numbered frames, as fields with one space between them

abbrev pub fields_with_spaces : List (List ℕ) → List ℕ
fields_with_spaces fields = flat_map (λ field. 32 ∷ field) fields

-- a publication with headers has an operation of its own
abbrev pub message_operation : Option (List ℕ) → Operation
message_operation None = operation.Numbered kind.Msg
message_operation (Some block) = operation.Numbered kind.HeaderMsg

abbrev pub operation_for : Body → Operation
operation_for (Plus key) = operation.Numbered kind.Plus
operation_for (Minus key) = operation.Numbered kind.Minus
operation_for (Snapshot keys) = operation.Numbered kind.Snapshot
operation_for (Msg message queues) = message_operation message.headers

abbrev pub operation_word : Body → List ℕ
operation_word body = word_of (operation_for body)

abbrev pub common_of : Frame → List (List ℕ)
common_of frame =
    frame.from ∷ decimal frame.inc ∷ frame.to ∷ decimal frame.to_inc ∷ decimal frame.number ∷ []

-- a key without a queue name is told without its weight, which is 1
abbrev pub member_fields : Option (List ℕ) → ℕ → List (List ℕ)
member_fields None weight = []
member_fields (Some queue) weight = queue ∷ decimal weight ∷ []

-- the form without reply and names, with a reply, with names, and with both
abbrev pub form_fields : Option (List ℕ) → List (List ℕ) → List (List ℕ)
form_fields None [] = []
form_fields (Some reply) [] = reply ∷ []
form_fields None (name ∷ names) = codes "|" ∷ name ∷ names
form_fields (Some reply) (name ∷ names) = codes "+" ∷ reply ∷ name ∷ names

-- the size of the header block, where there is one, and that of all that follows the line
abbrev pub size_fields : Option (List ℕ) → ℕ → List (List ℕ)
size_fields None size = decimal size ∷ []
size_fields (Some block) size = decimal (length block) ∷ decimal size ∷ []

abbrev pub body_fields : Body → List (List ℕ)
body_fields (Plus weighted) =
    codes "$G" ∷ weighted.0.pattern ∷ member_fields weighted.0.queue weighted.1
body_fields (Minus key) = codes "$G" ∷ key.pattern ∷ option_to_list key.queue
body_fields (Snapshot keys) = decimal (length (snapshot_text keys)) ∷ []
body_fields (Msg message queues) =
    codes "$G"
    ∷ message.subject
    ∷ (form_fields message.reply queues ++ size_fields message.headers (length (body_of message)))

unfoldable pub numbered_line : Frame → List ℕ
numbered_line frame =
    operation_word frame.body
    ++ (fields_with_spaces (common_of frame) ++ fields_with_spaces (body_fields frame.body))

-- ---- all frames

abbrev pub canonical_line : RouteFrame → List ℕ
canonical_line (frame.Info info) = codes "INFO " ++ compact_text (info_json info)
canonical_line (frame.Connect connect) = codes "CONNECT " ++ compact_text (connect_json connect)
canonical_line (frame.Numbered numbered) = numbered_line numbered

-- what follows the line, where anything does
abbrev pub body_payload : Body → Option (List ℕ)
body_payload (Plus key) = None
body_payload (Minus key) = None
body_payload (Snapshot keys) = Some (snapshot_text keys)
body_payload (Msg message queues) = Some (body_of message)

abbrev pub canonical_payload : RouteFrame → Option (List ℕ)
canonical_payload (frame.Info info) = None
canonical_payload (frame.Connect connect) = None
canonical_payload (frame.Numbered numbered) = body_payload numbered.body

abbrev pub frame_bytes : RouteFrame → List ℕ
frame_bytes frame = canonical_line frame ++ (line_end ++ payload_bytes (canonical_payload frame))
