-- Reading a stream: a grammar says what each piece tells, and what has to come behind it.
-- What is read is a function of the bytes, so it does not matter in what parts these come.
use Rattle.std.specs.Prelude.{◌≡◌, ℕ, zero, suc, ◌+◌, List, [], ◌∷◌, ◌++◌, length, drop, Option, None, Some, Ok, Err}
use Rattle.std.specs.List.{concat}
use Rattle.wire_cut.specs.declared.faults.CutFault.{CutFault}
use Rattle.wire_cut.specs.Cut.{Answer, CutterState, bytes_of, cut_next, cut_of, after_next, after_expect, expect_fault, after_feed}

-- ---- grammars

-- what a whole piece tells
pub data Told (Awaited Item : Type 0) : Type 0 where
  -- these, and what has to come next
  going_on : List Item → Awaited → Told Awaited Item
  -- these, and nothing is read behind them
  ending : List Item → Told Awaited Item

pub record Grammar (Awaited Item : Type 0) : Type 0 where
  pub line_max : ℕ
  pub payload_max : ℕ
  -- the size of the payload that has to come, or nothing where a line has to
  pub size : Awaited → Option ℕ
  -- what a piece tells, by its bytes
  pub told : Awaited → List ℕ → Told Awaited Item
  -- what bytes tell that are no piece
  pub unreadable : CutFault → Item

-- ---- a look at the bytes

pub data Found (Awaited Item : Type 0) : Type 0 where
  -- more bytes are needed
  nothing : Found Awaited Item
  -- a piece: what it tells, what has to come next, and the bytes behind
  something : List Item → Awaited → List ℕ → Found Awaited Item
  -- what it tells, and nothing is read behind it
  the_end : List Item → Found Awaited Item

-- a payload above the limit is told where it is announced
abbrev pub size_fault : ℕ → Option ℕ → Option CutFault
size_fault payload_max None = None
size_fault payload_max (Some size) = expect_fault None payload_max size

abbrev pub finding_next : {Awaited Item : Type 0} → Grammar Awaited Item → List Item → Awaited
    → List ℕ → Option CutFault → Found Awaited Item
finding_next grammar items next behind None = something items next behind
finding_next grammar items next behind (Some fault) =
    the_end (items ++ grammar.unreadable fault ∷ [])

abbrev pub finding_before : {Awaited Item : Type 0} → Grammar Awaited Item → List ℕ
    → Told Awaited Item → Found Awaited Item
finding_before grammar behind (going_on items next) =
    finding_next grammar items next behind (size_fault grammar.payload_max (grammar.size next))
finding_before grammar behind (ending items) = the_end items

-- CR LF stands behind a piece
abbrev pub finding_by : {Awaited Item : Type 0} → Grammar Awaited Item → Awaited → List ℕ → Answer
    → Found Awaited Item
finding_by grammar awaited bytes (Ok None) = nothing
finding_by grammar awaited bytes (Ok (Some piece)) =
    finding_before grammar (drop (length (bytes_of piece) + 2) bytes)
    (grammar.told awaited (bytes_of piece))
finding_by grammar awaited bytes (Err fault) = the_end (grammar.unreadable fault ∷ [])

abbrev pub cut_awaited : {Awaited Item : Type 0} → Grammar Awaited Item → Awaited → List ℕ → Answer
cut_awaited grammar awaited bytes = cut_next grammar.line_max (grammar.size awaited) bytes

abbrev pub finding : {Awaited Item : Type 0} → Grammar Awaited Item → Awaited → List ℕ
    → Found Awaited Item
finding grammar awaited bytes = finding_by grammar awaited bytes (cut_awaited grammar awaited bytes)

-- ---- a stream

-- how far a stream was read
pub data End (Awaited : Type 0) : Type 0 where
  -- this has to come next, and these bytes hold no whole piece
  waits : Awaited → List ℕ → End Awaited
  -- nothing is read any more
  closed : End Awaited

-- what was told of a stream, and how far it was read
pub record Reading (Awaited Item : Type 0) : Type 0 where
  pub items : List Item
  pub end : End Awaited

-- nothing was told yet
abbrev pub empty_reading : {Awaited Item : Type 0} → Awaited → List ℕ → Reading Awaited Item
empty_reading awaited bytes = record { items = []; end = waits awaited bytes }

-- these were told before
abbrev pub with_items : {Awaited Item : Type 0}
    → List Item
    → Reading Awaited Item
    → Reading Awaited Item
with_items items reading = record reading { items = items ++ reading.items }

abbrev pub last_reading : {Awaited Item : Type 0} → List Item → Reading Awaited Item
last_reading items = record { items = items; end = closed }

-- what follows from what was found
abbrev pub reading_after : {Awaited Item : Type 0} → (Awaited → List ℕ → Reading Awaited Item)
    → Awaited → List ℕ → Found Awaited Item → Reading Awaited Item
reading_after read awaited bytes nothing = empty_reading awaited bytes
reading_after read awaited bytes (something items next behind) = with_items items (read next behind)
reading_after read awaited bytes (the_end items) = last_reading items

-- by at most so many looks
unfoldable pub reading_within : {Awaited Item : Type 0} → Grammar Awaited Item → ℕ → Awaited
    → List ℕ → Reading Awaited Item
reading_within grammar zero awaited bytes = empty_reading awaited bytes
reading_within grammar (suc n) awaited bytes =
    reading_after (reading_within grammar n) awaited bytes (finding grammar awaited bytes)

-- what bytes tell where this has to come first: each look but the last finds a CR LF at least
abbrev pub reading_of : {Awaited Item : Type 0} → Grammar Awaited Item → Awaited → List ℕ
    → Reading Awaited Item
reading_of grammar awaited bytes = reading_within grammar (suc (length bytes)) awaited bytes

-- ---- a stream in parts

abbrev pub continuation : {Awaited Item : Type 0} → Grammar Awaited Item → End Awaited → List ℕ
    → Reading Awaited Item
continuation grammar (waits awaited rest) more = reading_of grammar awaited (rest ++ more)
continuation grammar closed more = last_reading []

-- reading on, where more bytes come
abbrev pub read_on : {Awaited Item : Type 0} → Grammar Awaited Item → Reading Awaited Item → List ℕ
    → Reading Awaited Item
read_on grammar reading more = with_items reading.items (continuation grammar reading.end more)

-- reading part by part
abbrev pub read_parts : {Awaited Item : Type 0} → Grammar Awaited Item → Reading Awaited Item
    → List (List ℕ) → Reading Awaited Item
read_parts grammar reading [] = reading
read_parts grammar reading (part ∷ parts) = read_parts grammar (read_on grammar reading part) parts

-- ---- laws

-- a stream is read alike in one part and in any others
abbrev pub ReadsInParts : {Awaited Item : Type 0} → Grammar Awaited Item → Type 0
ReadsInParts {Awaited} grammar =
    (awaited : Awaited) (parts : List (List ℕ))
    → read_parts grammar (reading_of grammar awaited []) parts
    ≡ reading_of grammar awaited (concat parts)

-- what a look finds stands, whatever comes behind
abbrev pub reading_by_look : {Awaited Item : Type 0} → Grammar Awaited Item → Awaited → List ℕ
    → List ℕ → Found Awaited Item → Reading Awaited Item
reading_by_look grammar awaited bytes more nothing = reading_of grammar awaited (bytes ++ more)
reading_by_look grammar awaited bytes more (something items next behind) =
    with_items items (reading_of grammar next (behind ++ more))
reading_by_look grammar awaited bytes more (the_end items) = last_reading items

abbrev pub ReadsByLooks : {Awaited Item : Type 0} → Grammar Awaited Item → Type 0
ReadsByLooks {Awaited} grammar =
    (awaited : Awaited) (bytes more : List ℕ)
    → reading_of grammar awaited (bytes ++ more)
    ≡ reading_by_look grammar awaited bytes more (finding grammar awaited bytes)

-- where a look finds nothing, nothing is told
abbrev pub WaitsForMore : {Awaited Item : Type 0} → Grammar Awaited Item → Type 0
WaitsForMore {Awaited} grammar =
    (awaited : Awaited) (bytes : List ℕ)
    → finding grammar awaited bytes ≡ nothing
    → reading_of grammar awaited bytes ≡ empty_reading awaited bytes

-- ---- a cutter that reads by a grammar

-- the cutter stands where this has to come next
pub record StandsAt {Awaited Item : Type 0} (grammar : Grammar Awaited Item) (awaited : Awaited)
    (s : CutterState) : Type 0 where
  pub expected : s.expected ≡ grammar.size awaited
  pub fault : s.fault ≡ None
  pub line_max : s.line_max ≡ grammar.line_max
  pub payload_max : s.payload_max ≡ grammar.payload_max

-- the cutter behind a piece, to which the payload is announced that has to come
abbrev pub told_of : CutterState → Option ℕ → CutterState
told_of s None = s
told_of s (Some size) = after_expect s size

-- A cutter gives the pieces that are found, also where more bytes are fed, as long as the caller
-- announces what has to come.
pub record FollowsGrammar {Awaited Item : Type 0} (grammar : Grammar Awaited Item) : Type 0 where
  pub cuts : (awaited : Awaited) (s : CutterState)
      → StandsAt grammar awaited s
      → cut_of s ≡ cut_awaited grammar awaited s.unread
  pub goes_on : (awaited next : Awaited) (s : CutterState) (items : List Item) (behind : List ℕ)
      → StandsAt grammar awaited s
      → finding grammar awaited s.unread ≡ something items next behind
      → StandsAt grammar next (told_of (after_next s) (grammar.size next))
  pub behind : (awaited next : Awaited) (s : CutterState) (items : List Item) (behind : List ℕ)
      → StandsAt grammar awaited s
      → finding grammar awaited s.unread ≡ something items next behind
      → (told_of (after_next s) (grammar.size next)).unread ≡ behind
  pub fed : (awaited : Awaited) (s : CutterState) (bytes : List ℕ)
      → StandsAt grammar awaited s
      → StandsAt grammar awaited (after_feed s bytes)

-- a second announcement counts alone
abbrev pub ExpectsAgain : Type 0
ExpectsAgain =
    (s : CutterState) (first second : ℕ)
    → expect_fault s.fault s.payload_max first ≡ None
    → expect_fault s.fault s.payload_max second ≡ None
    → after_expect (after_expect s first) second ≡ after_expect s second

-- bytes that are fed between a piece and the announcement lie behind both
abbrev pub ExpectsWhenFed : Type 0
ExpectsWhenFed =
    (s : CutterState) (size : ℕ) (bytes : List ℕ)
    → after_expect (after_feed s bytes) size ≡ after_feed (after_expect s size) bytes
