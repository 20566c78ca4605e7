-- Stream commands: what a stream of a client's bytes asks for and what of it is refused, in order.
use Rattle.std.specs.Prelude.{ℕ, List, [], ◌∷◌, take, drop, Option, Some, None, Ok, Err, if◌then◌else◌}
use Rattle.subj.specs.declared.limits.TheConstants.{CLIENT_LINE, MAX_PAYLOAD}
use Rattle.subj.specs.Messages.{are_headers}
use Rattle.wire_cut.specs.declared.faults.CutFault.{CutFault}
use Rattle.wire_cut.specs.Reading.{Told, going_on, ending, Grammar, Reading, reading_of}
use Rattle.client_frames.specs.declared.client_line.Awaited.{Awaited}
use Rattle.client_frames.specs.declared.client_line.Awaited.TheVariants.{Line, Payload, LostPayload}
use Rattle.client_frames.specs.declared.client_line.PubHead.{PubHead}
use Rattle.client_frames.specs.declared.client_line.ClientLine.{ClientLine}
use Rattle.client_frames.specs.declared.client_line.ClientLine.TheVariants.{Connect, Pub, PubBad, Sub, Unsub, Ping, Pong}
use Rattle.client_frames.specs.declared.faults.LineFault.{LineFault}
use Rattle.client_frames.specs.declared.faults.LineFault.TheVariants.{BadSubject, BadHeader}
use Rattle.client_frames.specs.Lines.{Meaning, line_meaning}
use Rattle.client_frames.specs.ErrTexts.{text_closes, line_fault_text}

-- what a stream tells, one after the other
pub data StreamItem : Type 0 where
  -- a command without a payload
  asked : ClientLine → StreamItem
  -- a publication, once all is there that its line announces
  published : PubHead → List ℕ → StreamItem
  -- a line that is refused, or a publication with a bad subject, a bad reply or bad headers, once
  -- all is there
  refused : LineFault → StreamItem
  -- what is no line and no payload
  unreadable : CutFault → StreamItem

-- how many bytes have to come next that are no line, or nothing where a line has to
abbrev pub size_awaited : Awaited → Option ℕ
size_awaited Line = None
size_awaited (Payload head) = Some head.size
size_awaited (LostPayload size) = Some size

-- how many of these are the header block of a publication, where it has one
abbrev pub headers_awaited : Awaited → Option ℕ
headers_awaited Line = None
headers_awaited (Payload head) = head.headers
headers_awaited (LostPayload size) = None

-- ---- NATS documentation, "Client Protocol", "HPUB": the bytes that a line announces are the
-- header block, and behind it the payload

abbrev pub block_in : Option ℕ → List ℕ → Option (List ℕ)
block_in None bytes = None
block_in (Some size) bytes = Some (take size bytes)

abbrev pub payload_in : Option ℕ → List ℕ → List ℕ
payload_in None bytes = bytes
payload_in (Some size) bytes = drop size bytes

-- profile: a header block that is none is told, and nothing is published
abbrev pub item_of : PubHead → List ℕ → StreamItem
item_of head bytes =
    if are_headers (block_in head.headers bytes) then published head bytes else refused BadHeader

-- ---- what a piece tells: NATS documentation, "Client Protocol"; when a refusal closes is this
-- project's profile

abbrev pub told_at_once : ClientLine → Told Awaited StreamItem
told_at_once command = going_on (asked command ∷ []) Line

-- a publication is told once all is there that it announces
abbrev pub command_told : ClientLine → Told Awaited StreamItem
command_told (Pub head) = going_on [] (Payload head)
command_told (PubBad size) = going_on [] (LostPayload size)
command_told (Connect options) = told_at_once (Connect options)
command_told (Sub pattern queue sid) = told_at_once (Sub pattern queue sid)
command_told (Unsub sid max) = told_at_once (Unsub sid max)
command_told Ping = told_at_once Ping
command_told Pong = told_at_once Pong

abbrev pub refusal_told : LineFault → Told Awaited StreamItem
refusal_told fault =
    if text_closes (line_fault_text fault) then ending (refused fault ∷ [])
    else going_on (refused fault ∷ []) Line

abbrev pub line_told : Meaning → Told Awaited StreamItem
line_told (Ok command) = command_told command
line_told (Err fault) = refusal_told fault

abbrev pub piece_told : Awaited → List ℕ → Told Awaited StreamItem
piece_told Line line = line_told (line_meaning line)
piece_told (Payload head) bytes = going_on (item_of head bytes ∷ []) Line
piece_told (LostPayload size) bytes = going_on (refused BadSubject ∷ []) Line

-- ---- the stream

abbrev pub client_grammar : Grammar Awaited StreamItem
client_grammar = record {
  line_max = CLIENT_LINE;
  payload_max = MAX_PAYLOAD;
  size = size_awaited;
  told = piece_told;
  unreadable = λ fault. unreadable fault;
}

-- a stream begins with a line
abbrev pub stream_reading : List ℕ → Reading Awaited StreamItem
stream_reading bytes = reading_of client_grammar Line bytes

-- the commands and refusals of the whole frames of a stream, up to the first refusal that closes
abbrev pub stream_commands : List ℕ → List StreamItem
stream_commands bytes = (stream_reading bytes).items
