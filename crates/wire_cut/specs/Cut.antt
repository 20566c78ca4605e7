-- Cutting a stream of bytes into lines and payloads. NATS documentation, "Client Protocol": a
-- control line ends with CR LF, and so does a payload, whose size its line announces. Profile: a
-- lone CR or LF is a byte like any other, the limits, and when each fault comes.
use Rattle.std.specs.Prelude.{◌≡◌, ℕ, suc, ◌+◌, ◌<◌, ◌≤◌, List, [], ◌∷◌, ◌++◌, length, take, drop, nat_lt, nat_le, nat_eq, if◌then◌else◌, Bool, true, false, Option, None, Some, IsSome, Result, Ok, Err}
use Rattle.std.specs.Option.{option_map}
use Rattle.std.specs.List.{starts_with}
use Rattle.line_fields.specs.LineEnd.{line_end}
use Rattle.wire_cut.specs.declared.faults.CutFault.{CutFault}
use Rattle.wire_cut.specs.declared.faults.CutFault.TheVariants.{LineTooLong, PayloadTooLong, NoCrLfAfterPayload}

-- the bytes begin with CR LF
abbrev pub begins_with_cr_lf : List ℕ → Bool
begins_with_cr_lf bytes = starts_with nat_eq bytes line_end

-- where the first CR LF of the bytes begins
unfoldable pub first_cr_lf : List ℕ → Option ℕ
first_cr_lf [] = None
first_cr_lf (x ∷ xs) =
    if begins_with_cr_lf (x ∷ xs) then Some 0 else option_map (λ i. suc i) (first_cr_lf xs)

-- a piece of a stream, without the CR LF behind it
pub data StreamPiece : Type 0 where
  line : List ℕ → StreamPiece
  payload : List ℕ → StreamPiece

abbrev pub bytes_of : StreamPiece → List ℕ
bytes_of (line bytes) = bytes
bytes_of (payload bytes) = bytes

abbrev pub is_line : StreamPiece → Bool
is_line (line bytes) = true
is_line (payload bytes) = false

-- what a caller sees of a cutter
pub record CutterState : Type 0 where
  -- the bytes that were fed and not given yet
  pub unread : List ℕ
  -- the size of the payload that has to come next, or nothing where a line has to
  pub expected : Option ℕ
  -- the piece given last was a line
  pub after_line : Bool
  -- the fault that every call answers from now on
  pub fault : Option CutFault
  pub line_max : ℕ
  pub payload_max : ℕ

-- What a look at the unread bytes answers: a piece, `Ok None` where more bytes are needed, or a
-- fault.
abbrev pub Answer : Type 0
Answer = Result (Option StreamPiece) CutFault

-- no CR LF begins at or before `line_max`: that is a fault once as many bytes are there as the
-- longest line and its CR LF take
abbrev pub cut_long_line : ℕ → List ℕ → Answer
cut_long_line line_max unread =
    if nat_le (line_max + 2) (length unread) then Err LineTooLong else Ok None

abbrev pub cut_line_at : ℕ → List ℕ → Option ℕ → Answer
cut_line_at line_max unread None = cut_long_line line_max unread
cut_line_at line_max unread (Some i) =
    if nat_le i line_max then Ok (Some (line (take i unread))) else cut_long_line line_max unread

-- a line is what stands before the first CR LF, and has at most `line_max` bytes
abbrev pub cut_line : ℕ → List ℕ → Answer
cut_line line_max unread = cut_line_at line_max unread (first_cr_lf unread)

-- whether CR LF stands at a place, once both bytes are there
abbrev pub cr_lf_at : List ℕ → ℕ → Option Bool
cr_lf_at bytes at =
    if nat_lt (length bytes) (at + 2) then None else Some (begins_with_cr_lf (drop at bytes))

abbrev pub cut_payload_at : ℕ → List ℕ → Option Bool → Answer
cut_payload_at size unread None = Ok None
cut_payload_at size unread (Some true) = Ok (Some (payload (take size unread)))
cut_payload_at size unread (Some false) = Err NoCrLfAfterPayload

-- a payload has the announced size, and CR LF behind it; whether it has is told once both bytes are
-- there
abbrev pub cut_payload : ℕ → List ℕ → Answer
cut_payload size unread = cut_payload_at size unread (cr_lf_at unread size)

-- the payload of the expected size, or a line
abbrev pub cut_next : ℕ → Option ℕ → List ℕ → Answer
cut_next line_max None unread = cut_line line_max unread
cut_next line_max (Some size) unread = cut_payload size unread

abbrev pub cut_unless : Option CutFault → CutterState → Answer
cut_unless (Some fault) s = Err fault
cut_unless None s = cut_next s.line_max s.expected s.unread

-- the cut of the unread bytes
abbrev pub cut_of : CutterState → Answer
cut_of s = cut_unless s.fault s

-- the state after an answer: a piece is used up with its CR LF, and a fault stays
abbrev pub after_answer : CutterState → Answer → CutterState
after_answer s (Ok None) = s
after_answer s (Ok (Some piece)) = record s {
  unread = drop (length (bytes_of piece) + 2) s.unread;
  expected = None;
  after_line = is_line piece;
}
after_answer s (Err fault) = record s { fault = Some fault }

abbrev pub after_next : CutterState → CutterState
after_next s = after_answer s (cut_of s)

-- how many bytes the piece has that comes next, where there is one
abbrev pub piece_length : Answer → Option ℕ
piece_length (Ok None) = None
piece_length (Ok (Some piece)) = Some (length (bytes_of piece))
piece_length (Err fault) = None

-- the state after more bytes came
abbrev pub after_feed : CutterState → List ℕ → CutterState
after_feed s bytes = record s { unread = s.unread ++ bytes }

-- why a size cannot be expected
abbrev pub expect_fault : Option CutFault → ℕ → ℕ → Option CutFault
expect_fault (Some fault) payload_max size = Some fault
expect_fault None payload_max size = if nat_lt payload_max size then Some PayloadTooLong else None

abbrev pub after_refusal : CutterState → ℕ → Option CutFault → CutterState
after_refusal s size (Some fault) = record s { fault = Some fault }
after_refusal s size None = record s { expected = Some size }

-- the state after a payload of this size was announced
abbrev pub after_expect : CutterState → ℕ → CutterState
after_expect s size = after_refusal s size (expect_fault s.fault s.payload_max size)

-- a cutter to which nothing was fed
abbrev pub new_cutter : ℕ → ℕ → CutterState
new_cutter line_max payload_max = record {
  unread = [];
  expected = None;
  after_line = false;
  fault = None;
  line_max = line_max;
  payload_max = payload_max;
}

-- too few bytes are there for the longest line, or for the expected payload, and its CR LF
abbrev pub IsUnfinished : Option ℕ → CutterState → Type 0
IsUnfinished None s = length s.unread < s.line_max + 2
IsUnfinished (Some size) s = length s.unread < size + 2

-- the piece and the CR LF behind it are within the unread bytes
abbrev pub IsWithinUnread : StreamPiece → CutterState → Type 0
IsWithinUnread piece s = length (bytes_of piece) + 2 ≤ length s.unread

-- a piece of the kind that has to come next, within its limit
abbrev pub IsDue : StreamPiece → CutterState → Type 0
IsDue (line bytes) s = (s.expected ≡ None) × (length bytes ≤ s.line_max)
IsDue (payload bytes) s = IsSome s.expected × (length bytes ≤ s.payload_max)
