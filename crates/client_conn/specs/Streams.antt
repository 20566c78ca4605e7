-- A client's stream, read item by item.
use Rattle.std.specs.Prelude.{◌≡◌, ℕ, suc, ◌<◌, ◌≤◌, true, false, List, [], ◌∷◌, ◌++◌, length, Option, if◌then◌else◌}
use Rattle.std.specs.Io.KnownBytes.{Consumes, IsAtEnd}
use Rattle.subj.specs.Messages.{Content, Body}
use Rattle.wire_cut.specs.Reading.{End, waits, closed, Reading, reading_of, with_items, last_reading, StandsAt, Found, nothing, something, the_end, finding}
use Rattle.client_frames.specs.declared.client_line.Awaited.{Awaited}
use Rattle.client_frames.specs.declared.client_line.Awaited.TheVariants as awaits
use Rattle.client_frames.specs.declared.client_line.PubHead.{PubHead}
use Rattle.client_frames.specs.Streams.{StreamItem, client_grammar}
use Rattle.client_conn.specs.declared.conn.ItemReader.{ItemReader}
use Rattle.client_conn.specs.declared.conn.Looked.{Looked}
use Rattle.client_conn.specs.declared.conn.Looked.TheVariants.{Waits, Announced, Told}
use Rattle.client_conn.specs.Items.{OpenState, asked_by}
use Rattle.client_conn.specs.Asks.{Asking, asked_before, asking_of}

-- how far a reader has read
abbrev pub end_of : ItemReader → End Awaited
end_of r = if r.ended then closed else waits r.awaited r.cutter.unread

-- what is told from there
abbrev pub reading_at : End Awaited → Reading Awaited StreamItem
reading_at (waits awaited unread) = reading_of client_grammar awaited unread
reading_at closed = last_reading []

-- more bytes are there
abbrev pub longer : List ℕ → End Awaited → End Awaited
longer bytes (waits awaited unread) = waits awaited (unread ++ bytes)
longer bytes closed = closed

-- while it reads, its cutter stands where it does
pub record IsInStep (r : ItemReader) : Type 0 where
  pub stands : r.ended ≡ false → StandsAt client_grammar r.awaited r.cutter

-- its cutter stands behind a line
pub record IsBehindLine (r : ItemReader) : Type 0 where
  pub reads : r.ended ≡ false
  pub awaits_line : r.awaited ≡ awaits.Line
  pub stands : StandsAt client_grammar r.awaited r.cutter
  pub after_line : r.cutter.after_line ≡ true

abbrev pub AwaitsPayload : Awaited → Type 0
AwaitsPayload awaited = (head : PubHead) × (awaited ≡ awaits.Payload head)

abbrev pub message_with : PubHead → Body → Content
message_with head body = record {
  subject = head.subject;
  reply = head.reply;
  headers = body.headers;
  payload = body.payload;
}

-- the message of the head that is awaited, with this body
abbrev pub IsMessageOf : Awaited → Body → Content → Type 0
IsMessageOf awaited body message =
    (head : PubHead) × (awaited ≡ awaits.Payload head) × (message ≡ message_with head body)

abbrev pub AwaitsLostPayload : Awaited → Type 0
AwaitsLostPayload awaited = (size : ℕ) × (awaited ≡ awaits.LostPayload size)

-- what stands to be asked: these, and then what the rest of the stream asks for
abbrev pub asking_at : OpenState → End Awaited → Asking
asking_at stand end = asked_before stand.asks (asking_of stand.options (reading_at end))

-- the reader has n bytes more
pub record HasFilled (old new : End Awaited) (before after : Option (List ℕ)) (asked n : ℕ) :
    Type 0 where
  pub bytes : List ℕ
  pub came : new ≡ longer bytes old
  pub count : length bytes ≡ n
  pub bound : n ≤ asked
  pub consumed : Consumes before after bytes
  pub end : n ≡ 0 → 0 < asked → IsAtEnd after

-- ---- looks

-- this alone was found, and the reader stands behind it
abbrev pub FoundAlone : StreamItem → Found Awaited StreamItem → End Awaited → Type 0
FoundAlone told nothing new = ⊥
FoundAlone told (something items next asked_before) new =
    (items ≡ told ∷ []) × (new ≡ waits next asked_before)
FoundAlone told (the_end items) new = (items ≡ told ∷ []) × (new ≡ closed)

-- what a look has found, what stands to be asked then, and where the reader stands
abbrev pub TellsFound : Looked → OpenState → OpenState → Found Awaited StreamItem → End Awaited
    → Type 0
TellsFound Waits before stand f new = (f ≡ nothing) × (stand ≡ before)
TellsFound Announced before stand f new =
    (next : Awaited)
    × (rest : List ℕ)
    × (f ≡ something [] next rest)
    × (new ≡ waits next rest)
    × (stand ≡ before)
TellsFound Told before stand f new =
    (told : StreamItem) × (stand ≡ asked_by told before.options) × FoundAlone told f new

-- how much is left to be read
abbrev pub left_of : End Awaited → ℕ
left_of (waits awaited unread) = suc (length unread)
left_of closed = 0

-- a look that finds anything leaves less
abbrev pub Moves : Looked → End Awaited → End Awaited → Type 0
Moves Waits old new = new ≡ old
Moves Announced old new = left_of new < left_of old
Moves Told old new = left_of new < left_of old

-- an item was taken off what is told, and what it asks for stands
pub record HasTaken (before stand : OpenState) (old new : End Awaited) : Type 0 where
  pub told : StreamItem
  pub stands : stand ≡ asked_by told before.options
  pub front : reading_at old ≡ with_items (told ∷ []) (reading_at new)

-- nothing is told before more bytes come
pub record HasNone (old new : End Awaited) : Type 0 where
  pub same : reading_at new ≡ reading_at old
  pub none : (reading_at new).items ≡ []

-- a look from one end to another
pub record HasMoved (looked : Looked) (before stand : OpenState) (f : Found Awaited StreamItem)
    (old new : End Awaited) : Type 0 where
  pub tells : TellsFound looked before stand f new
  pub moves : Moves looked old new

abbrev pub HasLooked : Looked → OpenState → OpenState → End Awaited → End Awaited → Type 0
HasLooked looked before stand (waits awaited unread) new =
    HasMoved looked before stand (finding client_grammar awaited unread) (waits awaited unread) new
HasLooked Waits before stand closed new = (new ≡ closed) × (stand ≡ before)
HasLooked Announced before stand closed new = ⊥
HasLooked Told before stand closed new = ⊥

-- the same of a reader that reads
abbrev pub HasLookedAt : Looked → OpenState → OpenState → ItemReader → ItemReader → Type 0
HasLookedAt looked before stand old new =
    HasMoved looked before stand (finding client_grammar old.awaited old.cutter.unread) (end_of old)
    (end_of new)
