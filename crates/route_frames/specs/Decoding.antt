-- Route spelling as a computed meaning: what a line and the payload behind it say, or why they are
-- refused (profile).
use Rattle.std.specs.Prelude.{◌≡◌, ℕ, Bool, true, false, ◌&&◌, ◌||◌, is_ok, List, length, take, drop, nat_eq, nat_le, Option, Some, None, Result, Ok, Err, if◌then◌else◌}
use Rattle.std.specs.Option.{ok_or}
use Rattle.list_laws.specs.Lists.{is_empty}
use Rattle.subj.specs.Messages as messages
use Rattle.route_values.specs.declared.bodies.Body.{Body}
use Rattle.route_values.specs.declared.bodies.Body.TheVariants.{Plus, Minus, Snapshot, Msg}
use Rattle.route_values.specs.declared.frames.RouteFrame.{RouteFrame}
use Rattle.route_values.specs.declared.frames.RouteFrame.TheVariants.{Info, Connect, Numbered}
use Rattle.route_values.specs.Frames.{Frame, frame_of}
use Rattle.route_frames.specs.declared.faults.RouteFault.TheVariants.{BadArgs}
use Rattle.subj.specs.declared.failures.Failure.{Failure}
use Rattle.subj.specs.declared.failures.Failure.TheVariants as failure
use Rattle.route_frames.specs.declared.faults.RouteFault.{RouteFault}
use Rattle.route_frames.specs.declared.line_reading.Numbers.{Numbers}
use Rattle.route_frames.specs.declared.reading.LineBody.{LineBody}
use Rattle.route_frames.specs.declared.reading.LineBody.TheVariants as body
use Rattle.route_frames.specs.declared.reading.NumberedLine.{NumberedLine}
use Rattle.route_frames.specs.declared.reading.RouteLine.{RouteLine}
use Rattle.route_frames.specs.declared.reading.RouteLine.TheVariants as line
use Rattle.route_frames.specs.declared.reading.Unjoined.{Unjoined}
use Rattle.route_frames.specs.declared.reading.Unjoined.TheVariants.{Refused, OutOfMemory}
use Rattle.route_frames.specs.declared.reading.Unread.{Unread}
use Rattle.route_frames.specs.declared.reading.Unread.TheVariants as unread
use Rattle.route_frames.specs.Meaning.{Meaning, ◌>>=◌}
use Rattle.route_frames.specs.Lines.{body_size, body_headers, announced_size, announced_headers, line_meaning}
use Rattle.route_frames.specs.Operations.{is_json_line}
use Rattle.route_frames.specs.SnapshotTexts.{snapshot_in}

-- how many bytes of payload follow a line, where any do
abbrev pub size_meaning : List ℕ → Meaning (Option ℕ)
size_meaning line = line_meaning line >>= λ read. Ok (announced_size read)

-- the payload has the size that was announced; none was where there is none
abbrev pub payload_meaning : Option ℕ → List ℕ → Meaning (Unit {0})
payload_meaning None payload = if is_empty payload then Ok tt else Err BadArgs
payload_meaning (Some size) payload = if nat_eq (length payload) size then Ok tt else Err BadArgs

-- the bytes begin with a header block of the size that was announced, where one was
abbrev pub block_meaning : Option ℕ → List ℕ → Meaning (Unit {0})
block_meaning None payload = Ok tt
block_meaning (Some headers) payload =
    if nat_le headers (length payload) && messages.is_block (take headers payload) then Ok tt
    else Err BadArgs

-- both
abbrev pub fits_meaning : Option ℕ → Option ℕ → List ℕ → Meaning (Unit {0})
fits_meaning size headers payload =
    payload_meaning size payload >>= λ sized. block_meaning headers payload

abbrev pub body_fits : LineBody → List ℕ → Meaning (Unit {0})
body_fits body payload = fits_meaning (body_size body) (body_headers body) payload

abbrev pub line_fits : RouteLine → List ℕ → Meaning (Unit {0})
line_fits read payload = fits_meaning (announced_size read) (announced_headers read) payload

-- what follows the line of a publication: the header block of this size, where there is one, and
-- the payload behind it
abbrev pub body_in : Option ℕ → List ℕ → Option messages.Body
body_in None bytes = messages.new_body None bytes
body_in (Some headers) bytes =
    if nat_le headers (length bytes)
    then messages.new_body (Some (take headers bytes)) (drop headers bytes)
    else None

abbrev pub content_in : List ℕ → Option (List ℕ) → messages.Body → messages.Content
content_in subject reply body = record {
  subject = subject;
  reply = reply;
  headers = body.headers;
  payload = body.payload;
}

abbrev pub message_meaning : List ℕ → Option (List ℕ) → Option ℕ → List ℕ → Meaning messages.Content
message_meaning subject reply headers bytes =
    ok_or (body_in headers bytes) BadArgs >>= λ body. Ok (content_in subject reply body)

abbrev pub body_meaning : LineBody → List ℕ → Meaning Body
body_meaning (body.Plus key) payload = Ok (Plus key)
body_meaning (body.Minus key) payload = Ok (Minus key)
body_meaning (body.Snapshot size) payload = snapshot_in payload >>= λ keys. Ok (Snapshot keys)
body_meaning (body.Msg subject reply queues headers size) payload =
    message_meaning subject reply headers payload >>= λ message. Ok (Msg message queues)

abbrev pub frame_of_body : List ℕ → List ℕ → Numbers → Body → Meaning RouteFrame
frame_of_body from to numbers body =
    ok_or (frame_of from numbers.inc to numbers.to_inc numbers.number body) BadArgs
    >>= λ frame. Ok (Numbered frame)

unfoldable pub numbered_meaning : NumberedLine → List ℕ → Meaning Frame
numbered_meaning numbered payload = do
  body ← body_meaning numbered.body payload
  ok_or
      (frame_of numbered.from numbered.numbers.inc numbered.to numbered.numbers.to_inc
      numbered.numbers.number body)
      BadArgs

abbrev pub frame_behind : RouteLine → List ℕ → Meaning RouteFrame
frame_behind (line.Info info) payload = Ok (Info info)
frame_behind (line.Connect connect) payload = Ok (Connect connect)
frame_behind (line.Numbered numbered) payload =
    numbered_meaning numbered payload >>= λ frame. Ok (Numbered frame)

-- a line that was read, with the payload behind it: its size and how it begins are judged first,
-- and then all of it
abbrev pub frame_of_line : RouteLine → List ℕ → Meaning RouteFrame
frame_of_line read payload = do
  fits ← line_fits read payload
  frame_behind read payload

-- the line is judged before its payload
unfoldable pub frame_meaning : List ℕ → List ℕ → Meaning RouteFrame
frame_meaning text payload = do
  read ← line_meaning text
  frame_of_line read payload

-- ---- what can't be judged without memory: a JSON text, and the text of a snapshot that has the
-- announced size

abbrev pub is_snapshot_body : LineBody → Bool
is_snapshot_body (body.Plus key) = false
is_snapshot_body (body.Minus key) = false
is_snapshot_body (body.Snapshot size) = true
is_snapshot_body (body.Msg subject reply queues headers size) = false

abbrev pub is_snapshot_line : RouteLine → Bool
is_snapshot_line (line.Info info) = false
is_snapshot_line (line.Connect connect) = false
is_snapshot_line (line.Numbered numbered) = is_snapshot_body numbered.body

abbrev pub is_snapshot_text : RouteLine → List ℕ → Bool
is_snapshot_text read payload = is_snapshot_line read && is_ok (line_fits read payload)

abbrev pub is_snapshot_behind : Meaning RouteLine → List ℕ → Bool
is_snapshot_behind (Ok read) payload = is_snapshot_text read payload
is_snapshot_behind (Err fault) payload = false

abbrev pub takes_memory : List ℕ → List ℕ → Bool
takes_memory text payload = is_json_line text || is_snapshot_behind (line_meaning text) payload

-- a payload follows, for which memory is taken: for the keys of a snapshot, or for the message that
-- its copies share
abbrev pub body_has_payload : LineBody → Bool
body_has_payload (body.Plus key) = false
body_has_payload (body.Minus key) = false
body_has_payload (body.Snapshot size) = true
body_has_payload (body.Msg subject reply queues headers size) = true

abbrev pub line_has_payload : RouteLine → Bool
line_has_payload (line.Info info) = false
line_has_payload (line.Connect connect) = false
line_has_payload (line.Numbered numbered) = body_has_payload numbered.body

-- What a line says is read with the payload behind it. Want of memory comes only where a payload
-- follows, and gives back what the line says.
abbrev pub ReadsBy : LineBody → List ℕ → Result Body Unread → Type 0
ReadsBy said payload (Ok read) = body_meaning said payload ≡ Ok read
ReadsBy said payload (Err (unread.Refused fault)) = body_meaning said payload ≡ Err fault
ReadsBy said payload (Err (unread.OutOfMemory given)) =
    (given ≡ said) × (body_has_payload said ≡ true)

-- What a line that was read is joined to with the payload behind it. Want of memory comes only
-- where that takes memory, and gives both back.
abbrev pub JoinsBy : Bool → Meaning RouteFrame → RouteLine → List ℕ → Result RouteFrame Unjoined
    → Type 0
JoinsBy memory meaning read payload (Ok frame) = meaning ≡ Ok frame
JoinsBy memory meaning read payload (Err (Refused fault)) = meaning ≡ Err fault
JoinsBy memory meaning read payload (Err (OutOfMemory line bytes)) =
    (line ≡ read) × (bytes ≡ payload) × (memory ≡ true)

abbrev pub Joins : RouteLine → List ℕ → Result RouteFrame Unjoined → Type 0
Joins read payload result =
    JoinsBy (line_has_payload read && is_ok (line_fits read payload)) (frame_of_line read payload)
    read payload result

-- the same answer, without what was given back
abbrev pub failure_of : Result RouteFrame Unjoined → Result RouteFrame (Failure RouteFault)
failure_of (Ok frame) = Ok frame
failure_of (Err (Refused fault)) = Err (failure.Refused fault)
failure_of (Err (OutOfMemory line bytes)) = Err failure.OutOfMemory
