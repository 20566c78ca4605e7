-- Frames in a stream: what is written one behind the other is read again, however the bytes come.
use Rattle.std.specs.Prelude.{◌≡◌, ℕ, List, [], ◌∷◌, ◌++◌, map, Option, Some, None, Ok, Err}
use Rattle.std.specs.List.{concat, flat_map}
use Rattle.subj.specs.declared.limits.TheConstants.{ROUTE_LINE, MAX_SNAPSHOT}
use Rattle.wire_cut.specs.declared.faults.CutFault.{CutFault}
use Rattle.wire_cut.specs.Reading.{Told, going_on, ending, Grammar, with_items, reading_of, read_parts}
use Rattle.route_values.specs.declared.frames.RouteFrame.{RouteFrame}
use Rattle.route_values.specs.Valid.{AreRouteFrames}
use Rattle.route_frames.specs.declared.faults.RouteFault.{RouteFault}
use Rattle.route_frames.specs.Meaning.{Meaning}
use Rattle.route_frames.specs.Decoding.{size_meaning, frame_meaning}
use Rattle.route_frames.specs.Canonical.{frame_bytes}

-- what a route's stream tells, one after the other
pub data RouteItem : Type 0 where
  -- a whole frame
  came : RouteFrame → RouteItem
  -- a line, with its payload where it announces one, that is refused
  refused : RouteFault → RouteItem
  -- what is no line and no payload
  unreadable : CutFault → RouteItem

-- what has to come next
pub data Awaited : Type 0 where
  a_line : Awaited
  -- the payload that this line announces, of this size
  payload_of : List ℕ → ℕ → Awaited

abbrev pub size_awaited : Awaited → Option ℕ
size_awaited a_line = None
size_awaited (payload_of text size) = Some size

-- ---- what a piece tells; behind a refusal nothing is read

abbrev pub frame_told : Meaning RouteFrame → Told Awaited RouteItem
frame_told (Ok frame) = going_on (came frame ∷ []) a_line
frame_told (Err fault) = ending (refused fault ∷ [])

-- a line alone tells a frame where it announces no payload
abbrev pub line_told : List ℕ → Meaning (Option ℕ) → Told Awaited RouteItem
line_told text (Ok None) = frame_told (frame_meaning text [])
line_told text (Ok (Some size)) = going_on [] (payload_of text size)
line_told text (Err fault) = ending (refused fault ∷ [])

abbrev pub piece_told : Awaited → List ℕ → Told Awaited RouteItem
piece_told a_line text = line_told text (size_meaning text)
piece_told (payload_of text size) payload = frame_told (frame_meaning text payload)

abbrev pub route_grammar : Grammar Awaited RouteItem
route_grammar = record {
  line_max = ROUTE_LINE;
  payload_max = MAX_SNAPSHOT;
  size = size_awaited;
  told = piece_told;
  unreadable = λ fault. unreadable fault;
}

-- ---- the law

-- However the bytes of frames, and whatever follows them, come in parts: these frames are read, and
-- then what follows.
abbrev pub AreReadInAnyParts : Type 0
AreReadInAnyParts =
    (frames : List RouteFrame) (rest : List ℕ) (parts : List (List ℕ))
    → AreRouteFrames frames
    → concat parts ≡ flat_map frame_bytes frames ++ rest
    → read_parts route_grammar (reading_of route_grammar a_line []) parts
    ≡ with_items (map came frames) (reading_of route_grammar a_line rest)
