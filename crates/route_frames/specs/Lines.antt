-- What the line of a route means: what its frame says so far, or why it is refused; and the payload
-- that it announces. NATS documentation, "Cluster Protocol": the operations. The common fields and
-- the refusals are this project's profile.
use Rattle.std.specs.Prelude.{ℕ, List, [], ◌∷◌, length, drop, Option, Some, None, Ok, Err}
use Rattle.std.specs.Option.{ok_or}
use Rattle.line_fields.specs.Fields.{line_fields}
use Rattle.route_frames.specs.declared.faults.RouteFault.TheVariants.{UnknownOp, BadArgs}
use Rattle.route_frames.specs.declared.line_reading.Operation.{Operation}
use Rattle.route_frames.specs.declared.line_reading.Operation.TheVariants as operation
use Rattle.route_frames.specs.declared.line_reading.NumberedOperation.{NumberedOperation}
use Rattle.route_frames.specs.declared.line_reading.NumberedOperation.TheVariants as kind
use Rattle.route_frames.specs.declared.reading.NumberedLine.{NumberedLine}
use Rattle.route_frames.specs.declared.reading.RouteLine.{RouteLine}
use Rattle.route_frames.specs.declared.reading.RouteLine.TheVariants.{Info, Connect, Numbered}
use Rattle.route_frames.specs.Meaning.{Meaning, ◌>>=◌}
use Rattle.route_frames.specs.Operations.{operation_of}
use Rattle.route_frames.specs.CommonFields.{CommonFields, common_fields}
use Rattle.route_frames.specs.NumberedLines.{plus_line, minus_line, snapshot_line, message_line, header_line}
use Rattle.route_frames.specs.Greetings.{info_of, connect_text_of}
use Rattle.route_frames.specs.declared.reading.LineBody.{LineBody}
use Rattle.route_frames.specs.declared.reading.LineBody.TheVariants.{Plus, Minus, Snapshot, Msg}

-- the line of a numbered frame, by what stands behind its common fields
abbrev pub line_of_fields : (CommonFields → List (List ℕ) → Meaning NumberedLine)
    → List (List ℕ)
    → Meaning RouteLine
line_of_fields behind fields = do
  split ← ok_or (common_fields fields) BadArgs
  line ← behind split.0 split.1
  Ok (Numbered line)

-- by the operation
abbrev pub line_by : NumberedOperation → CommonFields → List (List ℕ) → Meaning NumberedLine
line_by kind.Plus = plus_line
line_by kind.Minus = minus_line
line_by kind.Snapshot = snapshot_line
line_by kind.Msg = message_line
line_by kind.HeaderMsg = header_line

-- by the operation, the text behind it, and the fields of that
abbrev pub operation_meaning : Option Operation → List ℕ → List (List ℕ) → Meaning RouteLine
operation_meaning None text fields = Err UnknownOp
operation_meaning (Some operation.Info) text fields = info_of text >>= λ info. Ok (Info info)
operation_meaning (Some operation.Connect) text fields =
    connect_text_of text >>= λ connect. Ok (Connect connect)
operation_meaning (Some (operation.Numbered named)) text fields =
    line_of_fields (line_by named) fields

abbrev pub fields_meaning : List ℕ → List (List ℕ) → Meaning RouteLine
fields_meaning line [] = Err UnknownOp
fields_meaning line (field ∷ fields) =
    operation_meaning (operation_of field) (drop (length field) line) fields

-- what a line means, which has no CR LF
abbrev pub line_meaning : List ℕ → Meaning RouteLine
line_meaning line = fields_meaning line (line_fields line)

-- ---- how many bytes of payload a line announces, where any follow

abbrev pub body_size : LineBody → Option ℕ
body_size (Plus key) = None
body_size (Minus key) = None
body_size (Snapshot size) = Some size
body_size (Msg subject reply queues headers size) = Some size

abbrev pub announced_size : RouteLine → Option ℕ
announced_size (Info info) = None
announced_size (Connect connect) = None
announced_size (Numbered line) = body_size line.body

-- how many of these are a header block, where there is one
abbrev pub body_headers : LineBody → Option ℕ
body_headers (Plus key) = None
body_headers (Minus key) = None
body_headers (Snapshot size) = None
body_headers (Msg subject reply queues headers size) = headers

abbrev pub announced_headers : RouteLine → Option ℕ
announced_headers (Info info) = None
announced_headers (Connect connect) = None
announced_headers (Numbered line) = body_headers line.body
