-- What a route reads of the bytes that come: a function of them, by the routes' grammar.
use Rattle.std.specs.Prelude.{◌≡◌, ◌⊎◌, ℕ, true, List, [], ◌∷◌, ◌++◌, map, length, option_to_list, Option, Some, None, IsSome, Result, Ok, Err}
use Rattle.std.specs.Io.KnownBytes.{Consumes}
use Rattle.wire_cut.specs.declared.faults.CutFault.{CutFault}
use Rattle.wire_cut.specs.Cut.{CutterState}
use Rattle.wire_cut.specs.Reading.{Told, Reading, finding_before, size_fault, reading_after, reading_of, read_on, with_items, last_reading, StandsAt}
use Rattle.subj.specs.declared.limits.TheConstants.{MAX_SNAPSHOT}
use Rattle.route_values.specs.declared.frames.RouteFrame.{RouteFrame}
use Rattle.route_frames.specs.declared.faults.RouteFault.{RouteFault}
use Rattle.route_frames.specs.declared.reading.RouteLine.{RouteLine}
use Rattle.route_frames.specs.InStream.{RouteItem, came, refused, unreadable, Awaited, a_line, payload_of, frame_told, piece_told, route_grammar}
use Rattle.route_frames.specs.Lines.{line_meaning}
use Rattle.route_frames.specs.Decoding.{frame_meaning, frame_of_line}
use Rattle.node_net.specs.declared.route_link.RouteLink.{RouteLink}
use Rattle.node_net.specs.declared.runs.Ran.{Ran}
use Rattle.node_net.specs.declared.runs.Ran.TheVariants as ran

-- ---- bytes

-- what these bytes tell, where this has to come first
abbrev pub reading_from : Awaited → List ℕ → Reading Awaited RouteItem
reading_from awaited bytes = reading_of route_grammar awaited bytes

-- what a piece tells, and then what the bytes behind it do
abbrev pub reading_behind : Told Awaited RouteItem → List ℕ → Reading Awaited RouteItem
reading_behind told bytes =
    reading_after (reading_of route_grammar) a_line bytes
    (finding_before route_grammar bytes told)

-- Nothing is told but one refusal.
abbrev pub IsRefusal : Reading Awaited RouteItem → Type 0
IsRefusal reading =
    ((fault : RouteFault) × (reading ≡ last_reading (refused fault ∷ [])))
    ⊎ ((fault : CutFault) × (reading ≡ last_reading (unreadable fault ∷ [])))

-- ---- a link

-- A link has this to read. Its cutter stands at a line; or at the payload of a line that was read;
-- or behind both, which are not joined yet.
abbrev pub HasToReadBy : Option RouteLine → Option (RouteLine × List ℕ) → CutterState
    → Reading Awaited RouteItem → Type 0
HasToReadBy None None cutter reading =
    StandsAt route_grammar a_line cutter × (reading ≡ reading_from a_line cutter.unread)
HasToReadBy (Some line) None cutter reading =
    (text : List ℕ)
    × (size : ℕ)
    × (line_meaning text ≡ Ok line)
    × StandsAt route_grammar (payload_of text size) cutter
    × (reading ≡ reading_from (payload_of text size) cutter.unread)
HasToReadBy None (Some both) cutter reading =
    StandsAt route_grammar a_line cutter
    × (reading ≡ reading_behind (frame_told (frame_of_line both.0 both.1)) cutter.unread)
HasToReadBy (Some line) (Some both) cutter reading = ⊥

abbrev pub HasToRead : RouteLink → Reading Awaited RouteItem → Type 0
HasToRead link reading = HasToReadBy link.line link.unjoined link.cutter reading

-- What a link had to read it has to read still.
abbrev pub HasStillToRead : RouteLink → RouteLink → Type 0
HasStillToRead old new =
    (reading : Reading Awaited RouteItem) → HasToRead old reading → HasToRead new reading

-- These bytes have come: they are read behind what there was to read.
abbrev pub HasMoreToRead : List ℕ → RouteLink → RouteLink → Type 0
HasMoreToRead bytes old new =
    (reading : Reading Awaited RouteItem)
    → HasToRead old reading
    → HasToRead new (read_on route_grammar reading bytes)

-- So many came of a source.
pub record HasMore (old new : RouteLink) (before after : Option (List ℕ)) (count : ℕ) : Type 0 where
  pub bytes : List ℕ
  pub many : length bytes ≡ count
  pub consumed : Consumes before after bytes
  pub more : HasMoreToRead bytes old new

-- Behind what was read a link has this to read: nothing before more bytes come, where it waits; and
-- nothing but a refusal, where that is what came.
abbrev pub StandsBehind : Option Ran → Reading Awaited RouteItem → RouteLink → Type 0
StandsBehind None rest new = HasToRead new rest
StandsBehind (Some ran.Waits) rest new = HasToRead new rest × (rest.items ≡ [])
StandsBehind (Some ran.Refused) rest new = IsRefusal rest
StandsBehind (Some ran.Short) rest new = HasToRead new rest
StandsBehind (Some end) rest new = ⊥

-- Of what a link has to read, these frames come first and are read. Behind them it stands so.
abbrev pub ReadsFrames : Option Ran → List RouteFrame → RouteLink → RouteLink → Type 0
ReadsFrames end frames old new =
    (reading : Reading Awaited RouteItem)
    → HasToRead old reading
    → (rest : Reading Awaited RouteItem)
    × (reading ≡ with_items (map came frames) rest)
    × StandsBehind end rest new

-- ---- the life of a route

-- what becomes of its link
pub data LinkStep : Type 0 where
  -- these bytes come
  fed_bytes : List ℕ → LinkStep
  -- these frames are read, and no refusal comes behind them
  read_frames : List RouteFrame → LinkStep
  -- neither
  stayed : LinkStep

abbrev pub Lives : List LinkStep → RouteLink → RouteLink → Type 0
Lives [] old new = new ≡ old
Lives (fed_bytes bytes ∷ steps) old new =
    (mid : RouteLink) × HasMoreToRead bytes old mid × Lives steps mid new
Lives (read_frames frames ∷ steps) old new =
    (mid : RouteLink)
    × (end : Option Ran)
    × (¬ (end ≡ Some ran.Refused))
    × ReadsFrames end frames old mid
    × Lives steps mid new
Lives (stayed ∷ steps) old new = (mid : RouteLink) × HasStillToRead old mid × Lives steps mid new

-- all bytes that came
abbrev pub bytes_fed : List LinkStep → List ℕ
bytes_fed [] = []
bytes_fed (fed_bytes bytes ∷ steps) = bytes ++ bytes_fed steps
bytes_fed (read_frames frames ∷ steps) = bytes_fed steps
bytes_fed (stayed ∷ steps) = bytes_fed steps

-- all frames that were read
abbrev pub frames_read : List LinkStep → List RouteFrame
frames_read [] = []
frames_read (fed_bytes bytes ∷ steps) = frames_read steps
frames_read (read_frames frames ∷ steps) = frames ++ frames_read steps
frames_read (stayed ∷ steps) = frames_read steps

-- The frames that are read over the life of a route are those that all its bytes tell, from the
-- first on and in order. What the bytes tell behind them is to be read next; or it is a refusal,
-- where the last reading came to that.
abbrev pub FramesAreThoseThatCame : Type 0
FramesAreThoseThatCame =
    (first old new : RouteLink) (steps : List LinkStep) (end : Option Ran)
    (frames : List RouteFrame)
    → HasToRead first (reading_from a_line [])
    → Lives steps first old
    → ReadsFrames end frames old new
    → (rest : Reading Awaited RouteItem)
    × (reading_from a_line (bytes_fed steps)
    ≡ with_items (map came (frames_read steps ++ frames)) rest)
    × StandsBehind end rest new

-- ---- piece by piece

-- The cutter goes on, and nothing else changes.
abbrev pub Cuts : RouteLink → RouteLink → Type 0
Cuts old new = new ≡ record old { cutter = new.cutter }

-- the cutter stands behind a line, which it gave last
abbrev pub IsBehindLine : CutterState → Type 0
IsBehindLine cutter = StandsAt route_grammar a_line cutter × (cutter.after_line ≡ true)

-- Of a cutter that stands at a line, this line is read, or it comes to this.
abbrev pub ReadsLine : CutterState → Result RouteLine Ran → CutterState → Type 0
ReadsLine old (Ok line) new =
    (text : List ℕ)
    × (line_meaning text ≡ Ok line)
    × (reading_from a_line old.unread ≡ reading_behind (piece_told a_line text) new.unread)
    × IsBehindLine new
ReadsLine old (Err ran.Waits) new =
    (new ≡ old) × ((reading_from a_line old.unread).items ≡ [])
ReadsLine old (Err ran.Refused) new = IsRefusal (reading_from a_line old.unread)
ReadsLine old (Err ran.Short) new = new ≡ old
ReadsLine old (Err end) new = ⊥

-- The same of one that stands at the payload of a line, of this text and this size.
abbrev pub ReadsPayload : List ℕ → ℕ → CutterState → Result (List ℕ) Ran → CutterState → Type 0
ReadsPayload text size old (Ok payload) new =
    (reading_from (payload_of text size) old.unread
    ≡ reading_behind (frame_told (frame_meaning text payload)) new.unread)
    × StandsAt route_grammar a_line new
ReadsPayload text size old (Err ran.Waits) new =
    (new ≡ old) × ((reading_from (payload_of text size) old.unread).items ≡ [])
ReadsPayload text size old (Err ran.Refused) new =
    IsRefusal (reading_from (payload_of text size) old.unread)
ReadsPayload text size old (Err ran.Short) new = new ≡ old
ReadsPayload text size old (Err end) new = ⊥

-- A payload of this size is announced behind a line, or is too long.
abbrev pub Announces : ℕ → CutterState → Result (Unit {0}) Ran → CutterState → Type 0
Announces size old (Ok done) new =
    (new ≡ record old { expected = Some size })
    × (size_fault MAX_SNAPSHOT (Some size) ≡ None)
Announces size old (Err ran.Refused) new =
    (fault : CutFault) × (size_fault MAX_SNAPSHOT (Some size) ≡ Some fault)
Announces size old (Err end) new = ⊥

-- how it ends, where it does
abbrev pub end_of : Result (Unit {0}) Ran → Option Ran
end_of (Ok done) = None
end_of (Err end) = Some end

-- A frame is begun: a line was read whose payload is to come, or a line and its payload were read
-- and are not joined.
abbrev pub IsBegun : RouteLink → Type 0
IsBegun link = IsSome link.line ⊎ IsSome link.unjoined

-- A line and its payload are joined, and stand as a frame to be taken; or it comes to this.
abbrev pub JoinsFrame : RouteLine → List ℕ → RouteLink → Result (Unit {0}) Ran → RouteLink → Type 0
JoinsFrame line payload old result new =
    (old.line ≡ None)
    → (old.unjoined ≡ None)
    → (old.ahead ≡ None)
    → StandsAt route_grammar a_line old.cutter
    → (rest : Reading Awaited RouteItem)
    × (reading_behind (frame_told (frame_of_line line payload)) old.cutter.unread
    ≡ with_items (map came (option_to_list new.ahead)) rest)
    × StandsBehind (end_of result) rest new

-- Where nothing stands to be taken, what came is read up to a frame, which stands there then; or it
-- comes to this. Whatever stands there was read.
abbrev pub ReadsAhead : RouteLink → Result (Unit {0}) Ran → RouteLink → Type 0
ReadsAhead old result new =
    (old.ahead ≡ None) → ReadsFrames (end_of result) (option_to_list new.ahead) old new
