-- What was read is spelt: a line, and a line with its payload.
use Rattle.std.proofs.Common.{◌≡◌, ℕ, ◌-◌, ◌≤◌, Bool, true, false, ◌&&◌, cond, List, [], ◌∷◌, ◌++◌, length, take, drop, take-append-drop, length-append, refl, ap, sym, ◌∙◌, subst, arith, Option, Some, None, Ok, true≢false}
use Rattle.std.specs.Prelude.{nat_le, nat_eq, codes, replicate, option_map}
use Rattle.std.specs.Option.{ok_or}
use Rattle.std.proofs.lemmas.Bool.Decides.{nat_tests}
use Rattle.std.proofs.lemmas.List.{length-replicate, length-take-le}
use Rattle.line_fields.specs.Fields.{is_word, fields, begins_with_field, line_fields}
use Rattle.line_fields.proofs.SpellingFields.{stops, fields_follow, begins_with_fields}
use Rattle.subj.specs.declared.limits.TheConstants.{MAX_PAYLOAD}
use Rattle.subj.specs.Messages as messages
use Rattle.route_values.specs.declared.bodies.Body.{Body}
use Rattle.route_values.specs.declared.bodies.Body.TheVariants.{Plus, Minus, Snapshot, Msg}
use Rattle.route_values.specs.declared.frames.RouteFrame.{RouteFrame}
use Rattle.route_values.specs.declared.frames.RouteFrame.TheVariants as route
use Rattle.route_values.specs.Frames.{Frame, is_number, frame_of}
use Rattle.route_values.specs.Valid.{IsRouteFrame}
use Rattle.route_frames.specs.declared.faults.RouteFault.TheVariants.{BadArgs}
use Rattle.route_frames.specs.declared.reading.LineBody.{LineBody}
use Rattle.route_frames.specs.declared.reading.LineBody.TheVariants as said
use Rattle.route_frames.specs.declared.reading.NumberedLine.{NumberedLine}
use Rattle.route_frames.specs.declared.reading.RouteLine.{RouteLine}
use Rattle.route_frames.specs.declared.reading.RouteLine.TheVariants as line
use Rattle.route_frames.specs.declared.line_reading.Operation.{Operation}
use Rattle.route_frames.specs.declared.line_reading.Operation.TheVariants as operation
use Rattle.route_frames.specs.declared.line_reading.NumberedOperation.TheVariants as kind
use Rattle.route_frames.specs.Meaning.{Meaning}
use Rattle.route_frames.specs.Operations.{word_of, operation_of}
use Rattle.route_frames.specs.CommonFields.{CommonFields, common_fields}
use Rattle.route_frames.specs.NumberedLines.{plus_line, minus_line, snapshot_line, message_line, header_line}
use Rattle.route_frames.specs.Lines.{line_of_fields, operation_meaning, fields_meaning, line_meaning, body_size, announced_size}
use Rattle.route_frames.specs.SnapshotTexts.{snapshot_in}
use Rattle.route_frames.specs.Decoding.{payload_meaning, block_meaning, fits_meaning, body_fits, line_fits, body_in, content_in, message_meaning, body_meaning, numbered_meaning, frame_behind, frame_meaning, is_snapshot_body}
use Rattle.route_frames.specs.Greetings.{info_of, connect_text_of}
use Rattle.route_frames.specs.Spelling.{Spells, SpellsBehind, body_announces, frame_word, SpellsText, SpellsLine, SpellsPayload, announces}
use Rattle.route_frames.specs.Refusals.{Announces}
use Rattle.route_frames.specs.Laws.{ReadIsSpelt, ToldIsAnnounced}
use Rattle.route_frames.proofs.Operations.{found_is_named}
use Rattle.route_frames.proofs.Cuts.Behind.{behind_first}
use Rattle.route_frames.proofs.Spelt.Chains.{step_ok, ok_same, found_ok, where_ok, where_some}
use Rattle.route_frames.proofs.Spelt.Snapshots.{snapshot_read}
use Rattle.route_frames.proofs.Spelt.Greetings.{info_read, connect_read}
use Rattle.route_frames.proofs.Spelt.Bodies.{plus_read, minus_read, snapshot_read as line_snapshot_read}
use Rattle.route_frames.proofs.Spelt.Messages.{HasRoom, MessageRead, message_read, header_read}
use Rattle.route_frames.proofs.Spelt.Numbered.{frame_in, AreSized, Fits, LineSpells, plus_spells, minus_spells, snapshot_spells, message_spells, header_spells}

-- ---- a line, by its operation and the text behind it

record LineRead (text : List ℕ) (read : RouteLine) : Type 0 where
  pub word : List ℕ
  pub behind : List ℕ
  pub op : Operation
  pub whole : text ≡ word ++ behind
  pub names : is_word (word_of op) word ≡ true
  pub is_behind : begins_with_field behind ≡ false
  pub says : operation_meaning (Some op) behind (fields behind) ≡ Ok read

no_field_first : (bytes : List ℕ) → stops bytes ≡ true → begins_with_field bytes ≡ false
no_field_first [] e = refl
no_field_first (x ∷ xs) e = rw e refl

operation_read : (text field behind : List ℕ) (all : List (List ℕ)) (found : Option Operation) (read : RouteLine)
    → text ≡ field ++ behind
    → fields behind ≡ all
    → begins_with_field behind ≡ false
    → operation_of field ≡ found
    → operation_meaning found behind all ≡ Ok read
    → LineRead text read
operation_read text field behind all None read whole are ends is e = absurd (cc)
operation_read text field behind all (Some op) read whole are ends is e = record {
  word = field;
  behind = behind;
  op = op;
  whole = whole;
  names = found_is_named op field is;
  is_behind = ends;
  says = ap (operation_meaning (Some op) behind) are ∙ e;
}

line_read_by : (text : List ℕ) (all : List (List ℕ)) (read : RouteLine)
    → line_fields text ≡ all
    → fields_meaning text all ≡ Ok read
    → LineRead text read
line_read_by text [] read is e = absurd (cc)
line_read_by text (field ∷ others) read is e =
    let begins = begins_with_fields text field others is in
    let follow = fields_follow others begins.rest begins.follows in
    operation_read text field begins.rest others (operation_of field) read begins.whole follow.0
    (no_field_first begins.rest follow.1) refl
    (ap (λ behind. operation_meaning (operation_of field) behind others)
    (sym (behind_first text field begins.rest begins.whole)) ∙ e)

line_read : (text : List ℕ) (read : RouteLine) → line_meaning text ≡ Ok read → LineRead text read
line_read text read e = line_read_by text (line_fields text) read refl e

-- ---- from the operation to the frame

-- the frames whose line this is, with what they announce
abbrev Carries : RouteLine → RouteFrame → Option ℕ → Type 0
Carries (line.Info info) frame size = (frame ≡ route.Info info) × (size ≡ None)
Carries (line.Connect connect) frame size = (frame ≡ route.Connect connect) × (size ≡ None)
Carries (line.Numbered line_of_fields) frame size =
    (body : Body) × (frame ≡ route.Numbered (frame_in line_of_fields body)) × Fits line_of_fields.body body size

record Spelt (word behind : List ℕ) (frame : RouteFrame) (size : Option ℕ) : Type 0 where
  pub has_word : frame_word frame ≡ word
  pub says : SpellsText frame size behind
  pub valid : IsRouteFrame frame

Numbered_spelt : (word behind : List ℕ) (line_of_fields : NumberedLine) (frame : RouteFrame) (size : Option ℕ)
    → ((body : Body) → Fits line_of_fields.body body size → LineSpells word (fields behind) line_of_fields body size)
    → Carries (line.Numbered line_of_fields) frame size
    → Spelt word behind frame size
Numbered_spelt word behind line_of_fields frame size spells carries =
    let spelt = spells carries.0 carries.2 in
    subst (λ frame. Spelt word behind frame size) (sym carries.1)
    (record { has_word = spelt.has_word; says = spelt.spells; valid = spelt.valid })

abbrev Behind : Type 0
Behind = CommonFields → List (List ℕ) → Meaning NumberedLine

abbrev Spelling : List ℕ → Behind → Type 0
Spelling word behind_common =
    (all : List (List ℕ)) (split : CommonFields × List (List ℕ)) (line_of_fields : NumberedLine) (body : Body)
    (size : Option ℕ)
    → common_fields all ≡ Some split
    → behind_common split.0 split.1 ≡ Ok line_of_fields
    → Fits line_of_fields.body body size
    → LineSpells word all line_of_fields body size

numbered_spelt : (word behind : List ℕ) (behind_common : Behind) (read : RouteLine) (frame : RouteFrame)
    (size : Option ℕ)
    → Spelling word behind_common
    → line_of_fields behind_common (fields behind) ≡ Ok read
    → Carries read frame size
    → Spelt word behind frame size
numbered_spelt word behind behind_common read frame size spelling e carries =
    let split = step_ok (ok_or (common_fields (fields behind)) BadArgs) _ read e in
    let found = step_ok (behind_common (split.0).0 (split.0).1) _ read split.2 in
    let carried =
    subst (λ read. Carries read frame size) (sym (ok_same (line.Numbered found.0) read found.2)) carries in
    Numbered_spelt word behind found.0 frame size
    (λ body fits.
    spelling (fields behind) split.0 found.0 body size
    (found_ok (common_fields (fields behind)) BadArgs split.0 split.1) found.1 fits)
    carried

spelt_by : (op : Operation) (behind : List ℕ) (read : RouteLine) (frame : RouteFrame) (size : Option ℕ)
    → operation_meaning (Some op) behind (fields behind) ≡ Ok read
    → Carries read frame size
    → Spelt (word_of op) behind frame size
spelt_by operation.Info behind read frame size e carries =
    let info = step_ok (info_of behind) _ read e in
    let found = info_read behind info.0 info.1 in
    let carried = subst (λ read. Carries read frame size) (sym (ok_same (line.Info info.0) read info.2)) carries in
    subst (λ frame. Spelt (codes "INFO") behind frame size) (sym carried.0) (record {
      has_word = refl;
      says = (carried.1, found.spells.0, found.spells.1, found.spells.2);
      valid = found.valid;
    })
spelt_by operation.Connect behind read frame size e carries =
    let connect = step_ok (connect_text_of behind) _ read e in
    let found = connect_read behind connect.0 connect.1 in
    let carried =
    subst (λ read. Carries read frame size) (sym (ok_same (line.Connect connect.0) read connect.2)) carries in
    subst (λ frame. Spelt (codes "CONNECT") behind frame size) (sym carried.0) (record {
      has_word = refl;
      says = (carried.1, found.spells.0, found.spells.1, found.spells.2);
      valid = found.valid;
    })
spelt_by (operation.Numbered kind.Plus) behind read frame size e carries =
    numbered_spelt (codes "RS+") behind plus_line read frame size plus_spells e carries
spelt_by (operation.Numbered kind.Minus) behind read frame size e carries =
    numbered_spelt (codes "RS-") behind minus_line read frame size minus_spells e carries
spelt_by (operation.Numbered kind.Snapshot) behind read frame size e carries =
    numbered_spelt (codes "RSS") behind snapshot_line read frame size snapshot_spells e carries
spelt_by (operation.Numbered kind.Msg) behind read frame size e carries =
    numbered_spelt (codes "RMSG") behind message_line read frame size message_spells e carries
spelt_by (operation.Numbered kind.HeaderMsg) behind read frame size e carries =
    numbered_spelt (codes "RHMSG") behind header_line read frame size header_spells e carries

line_spelt : (text : List ℕ) (read : RouteLine) (frame : RouteFrame) (size : Option ℕ)
    → line_meaning text ≡ Ok read
    → Carries read frame size
    → SpellsLine frame size text
line_spelt text read frame size e carries =
    let found = line_read text read e in
    let spelt = spelt_by found.op found.behind read frame size found.says carries in record {
      word = found.word;
      text = found.behind;
      whole = found.whole;
      names = ap (λ word. is_word word found.word) spelt.has_word ∙ found.names;
      is_behind = found.is_behind;
      says = spelt.says;
      valid = spelt.valid;
    }

-- ---- a line and its payload

-- what a payload is read as, behind a line that says this
record BodyRead (read : LineBody) (payload : List ℕ) (body : Body) : Type 0 where
  pub fits : Fits read body (body_announces body payload)
  pub behind : SpellsBehind body payload

empty_payload : (payload : List ℕ) (fits : Unit {0}) → payload_meaning None payload ≡ Ok fits → payload ≡ []
empty_payload [] fits e = refl
empty_payload (x ∷ xs) fits e = absurd (cc)

nat_same : (a b : ℕ) → nat_eq a b ≡ true → a ≡ b
nat_same a b e = grind (arith, nat_tests)

whole_payload : (size : ℕ) (payload : List ℕ) (fits : Unit {0})
    → payload_meaning (Some size) payload ≡ Ok fits
    → length payload ≡ size
whole_payload size payload fits e =
    nat_same (length payload) size (where_ok (nat_eq (length payload) size) BadArgs tt fits e).0

-- a payload that fits has its size, and begins as it has to
no_payload : (payload : List ℕ) (fits : Unit {0}) → fits_meaning None None payload ≡ Ok fits → payload ≡ []
no_payload payload fits e =
    let sized = step_ok (payload_meaning None payload) _ fits e in empty_payload payload sized.0 sized.1

sized_payload : (size : ℕ) (headers : Option ℕ) (payload : List ℕ) (fits : Unit {0})
    → fits_meaning (Some size) headers payload ≡ Ok fits
    → length payload ≡ size
sized_payload size headers payload fits e =
    let sized = step_ok (payload_meaning (Some size) payload) _ fits e in whole_payload size payload sized.0 sized.1

begun_payload : (size : ℕ) (headers : Option ℕ) (payload : List ℕ) (fits : Unit {0})
    → fits_meaning (Some size) headers payload ≡ Ok fits
    → block_meaning headers payload ≡ Ok fits
begun_payload size headers payload fits e = (step_ok (payload_meaning (Some size) payload) _ fits e).2

-- ---- a header block and a payload, which were read of some bytes

record IsBodyOf (headers : Option ℕ) (bytes : List ℕ) (body : messages.Body) : Type 0 where
  pub begun : messages.are_headers body.headers ≡ true
  pub block_size : option_map (λ block. length block) body.headers ≡ headers
  pub whole : messages.body_bytes body.headers body.payload ≡ bytes

chosen : {A : Type 0} (test : Bool) (found : Option A) (x : A)
    → cond test found None ≡ Some x
    → (test ≡ true) × (found ≡ Some x)
chosen true found x e = (refl, e)
chosen false found x e = absurd (cc)

both_true : (a b : Bool) → (a && b) ≡ true → (a ≡ true) × (b ≡ true)
both_true true b e = (refl, e)
both_true false b e = absurd (true≢false (sym e))

at_most : (a b : ℕ) → nat_le a b ≡ true → a ≤ b
at_most a b e = grind (arith, nat_tests)

split_is_body : (headers : ℕ) (bytes : List ℕ)
    → nat_le headers (length bytes) ≡ true
    → messages.is_block (take headers bytes) ≡ true
    → IsBodyOf (Some headers) bytes (record { headers = Some (take headers bytes); payload = drop headers bytes })
split_is_body headers bytes fits begun = record {
  begun = begun;
  block_size = ap (λ n. Some n) (length-take-le headers bytes (at_most headers (length bytes) fits));
  whole = take-append-drop headers bytes;
}

body_is : (headers : Option ℕ) (bytes : List ℕ) (body : messages.Body)
    → body_in headers bytes ≡ Some body
    → IsBodyOf headers bytes body
body_is None bytes body e =
    let good = where_some (messages.is_body None bytes) (record { headers = None; payload = bytes }) body e in
    subst (IsBodyOf None bytes) good.1 (record { begun = refl; block_size = refl; whole = refl })
body_is (Some headers) bytes body e =
    let block = take headers bytes in
    let behind = drop headers bytes in
    let there = chosen (nat_le headers (length bytes)) (messages.new_body (Some block) behind) body e in
    let good = where_some (messages.is_body (Some block) behind) (record { headers = Some block; payload = behind })
    body there.1 in
    let begun = (both_true (messages.is_block block) (nat_le (length (block ++ behind)) MAX_PAYLOAD) good.0).0 in
    subst (IsBodyOf (Some headers) bytes) good.1 (split_is_body headers bytes there.0 begun)

-- bytes that begin as they have to
begun_is : (headers : Option ℕ) (bytes : List ℕ)
    → block_meaning headers bytes ≡ Ok tt
    → (body : messages.Body) × IsBodyOf headers bytes body
begun_is None bytes e = (
  record { headers = None; payload = bytes },
  record { begun = refl; block_size = refl; whole = refl },
)
begun_is (Some headers) bytes e =
    let good = both_true (nat_le headers (length bytes)) (messages.is_block (take headers bytes))
    (where_ok (nat_le headers (length bytes) && messages.is_block (take headers bytes)) BadArgs tt tt e).0 in (
      record { headers = Some (take headers bytes); payload = drop headers bytes },
      split_is_body headers bytes good.0 good.1,
    )

-- so a message of them is one that the line may have
message_fits : (subject : List ℕ) (reply : Option (List ℕ)) (queues : List (List ℕ)) (headers : Option ℕ) (size : ℕ)
    (bytes : List ℕ) (body : messages.Body)
    → IsBodyOf headers bytes body
    → length bytes ≡ size
    → BodyRead (said.Msg subject reply queues headers size) bytes (Msg (content_in subject reply body) queues)
message_fits subject reply queues headers size bytes body is sized = record {
  fits = (
    body.headers,
    body.payload,
    refl,
    record { begun = is.begun; block_size = is.block_size; whole_size = ap (λ bytes. length bytes) is.whole ∙ sized },
    ap (λ n. Some n) sized,
  );
  behind = sym is.whole;
}

body_read : (read : LineBody) (payload : List ℕ) (body : Body) (fits : Unit {0})
    → body_fits read payload ≡ Ok fits
    → body_meaning read payload ≡ Ok body
    → BodyRead read payload body
body_read (said.Plus weighted) payload body fits e says =
    subst (BodyRead (said.Plus weighted) payload) (ok_same (Plus weighted) body says)
    (record { fits = (refl, refl); behind = no_payload payload fits e })
body_read (said.Minus key) payload body fits e says =
    subst (BodyRead (said.Minus key) payload) (ok_same (Minus key) body says)
    (record { fits = (refl, refl); behind = no_payload payload fits e })
body_read (said.Snapshot size) payload body fits e says =
    let keys = step_ok (snapshot_in payload) _ body says in
    let read = snapshot_read payload keys.0 keys.1 in
    subst (BodyRead (said.Snapshot size) payload) (ok_same (Snapshot keys.0) body keys.2) (record {
      fits = (keys.0, refl, read.valid, ap (λ n. Some n) (sized_payload size None payload fits e));
      behind = read.spells;
    })
body_read (said.Msg subject reply queues headers size) payload body fits e says =
    let message = step_ok (message_meaning subject reply headers payload) _ body says in
    let found = step_ok (ok_or (body_in headers payload) BadArgs) _ message.0 message.1 in
    let is = body_is headers payload found.0 (found_ok (body_in headers payload) BadArgs found.0 found.1) in
    let same : Msg (content_in subject reply found.0) queues ≡ body =
    ap (λ content. Msg content queues) (ok_same (content_in subject reply found.0) message.0 found.2)
    ∙ ok_same (Msg message.0 queues) body message.2 in
    subst (BodyRead (said.Msg subject reply queues headers size) payload) same
    (message_fits subject reply queues headers size payload found.0 is (sized_payload size headers payload fits e))

-- what a frame is read as, behind a line that says this
record FrameRead (read : RouteLine) (payload : List ℕ) (frame : RouteFrame) : Type 0 where
  pub carries : Carries read frame (announces frame payload)
  pub behind : SpellsPayload frame payload

numbered_read : (line_of_fields : NumberedLine) (payload : List ℕ) (frame : Frame) (fits : Unit {0})
    → body_fits line_of_fields.body payload ≡ Ok fits
    → numbered_meaning line_of_fields payload ≡ Ok frame
    → FrameRead (line.Numbered line_of_fields) payload (route.Numbered frame)
unfolding numbered_meaning
numbered_read line_of_fields payload frame fits e says =
    let body = step_ok (body_meaning line_of_fields.body payload) _ frame says in
    let is =
    (where_some (is_number line_of_fields.numbers.number body.0) (frame_in line_of_fields body.0) frame
    (found_ok
    (frame_of line_of_fields.from line_of_fields.numbers.inc line_of_fields.to line_of_fields.numbers.to_inc
    line_of_fields.numbers.number body.0)
    BadArgs frame body.2)).1 in
    let read = body_read line_of_fields.body payload body.0 fits e body.1 in
    subst (λ frame. FrameRead (line.Numbered line_of_fields) payload (route.Numbered frame)) is
    (record { carries = (body.0, refl, read.fits); behind = read.behind })

frame_read : (read : RouteLine) (payload : List ℕ) (frame : RouteFrame) (fits : Unit {0})
    → line_fits read payload ≡ Ok fits
    → frame_behind read payload ≡ Ok frame
    → FrameRead read payload frame
frame_read (line.Info info) payload frame fits e says =
    subst (FrameRead (line.Info info) payload) (ok_same (route.Info info) frame says)
    (record { carries = (refl, refl); behind = no_payload payload fits e })
frame_read (line.Connect connect) payload frame fits e says =
    subst (FrameRead (line.Connect connect) payload) (ok_same (route.Connect connect) frame says)
    (record { carries = (refl, refl); behind = no_payload payload fits e })
frame_read (line.Numbered line_of_fields) payload frame fits e says =
    let found = step_ok (numbered_meaning line_of_fields payload) _ frame says in
    subst (FrameRead (line.Numbered line_of_fields) payload) (ok_same (route.Numbered found.0) frame found.2)
    (numbered_read line_of_fields payload found.0 fits e found.1)

pub read_is_spelt : ReadIsSpelt
unfolding frame_meaning
read_is_spelt frame text payload e =
    let read = step_ok (line_meaning text) _ frame e in
    let fits = step_ok (line_fits read.0 payload) _ frame read.2 in
    let found = frame_read read.0 payload frame fits.0 fits.1 fits.2 in
    record {
      in_line = line_spelt text read.0 frame (announces frame payload) read.1 found.carries;
      behind = found.behind;
    }

-- ---- a line with a payload that fits spells a frame, unless that is a snapshot

body_there : (read : LineBody) (payload : List ℕ)
    → body_fits read payload ≡ Ok tt
    → is_snapshot_body read ≡ false
    → (body : Body) × BodyRead read payload body
body_there (said.Plus weighted) payload e other = (
  Plus weighted,
  record { fits = (refl, refl); behind = no_payload payload tt e },
)
body_there (said.Minus key) payload e other = (
  Minus key,
  record { fits = (refl, refl); behind = no_payload payload tt e },
)
body_there (said.Snapshot size) payload e other = absurd (true≢false other)
body_there (said.Msg subject reply queues headers size) payload e other =
    let found = begun_is headers payload (begun_payload size headers payload tt e) in (
      Msg (content_in subject reply found.0) queues,
      message_fits subject reply queues headers size payload found.0 found.1 (sized_payload size headers payload tt e),
    )

pub sized_is_spelt : (text payload : List ℕ) (line_of_fields : NumberedLine)
    → line_meaning text ≡ Ok (line.Numbered line_of_fields)
    → body_fits line_of_fields.body payload ≡ Ok tt
    → is_snapshot_body line_of_fields.body ≡ false
    → (frame : RouteFrame) × Spells frame text payload
sized_is_spelt text payload line_of_fields e fits other =
    let found = body_there line_of_fields.body payload fits other in
    let read = found.1 in
    let frame = route.Numbered (frame_in line_of_fields found.0) in (
      frame,
      record {
        in_line =
            line_spelt text (line.Numbered line_of_fields) frame (announces frame payload) e (found.0, refl, read.fits);
        behind = read.behind;
      },
    )

-- ---- a line that was read has room for the header block that it announces

abbrev BodyRoom : LineBody → Type 0
BodyRoom (said.Plus weighted) = Unit {0}
BodyRoom (said.Minus key) = Unit {0}
BodyRoom (said.Snapshot size) = Unit {0}
BodyRoom (said.Msg subject reply queues headers size) = HasRoom headers size

abbrev LineRoom : RouteLine → Type 0
LineRoom (line.Info info) = Unit {0}
LineRoom (line.Connect connect) = Unit {0}
LineRoom (line.Numbered line_of_fields) = BodyRoom line_of_fields.body

numbered_room : (behind : List ℕ) (behind_common : Behind) (read : RouteLine)
    → ((common : CommonFields) (fields : List (List ℕ)) (line_of_fields : NumberedLine)
    → behind_common common fields ≡ Ok line_of_fields → BodyRoom line_of_fields.body)
    → line_of_fields behind_common (fields behind) ≡ Ok read
    → LineRoom read
numbered_room behind behind_common read each e =
    let split = step_ok (ok_or (common_fields (fields behind)) BadArgs) _ read e in
    let found = step_ok (behind_common (split.0).0 (split.0).1) _ read split.2 in
    subst LineRoom (ok_same (line.Numbered found.0) read found.2) (each (split.0).0 (split.0).1 found.0 found.1)

message_room : (word : List ℕ) (common : CommonFields) (fields : List (List ℕ)) (line_of_fields : NumberedLine)
    → MessageRead word common fields line_of_fields
    → BodyRoom line_of_fields.body
message_room word common fields line_of_fields read = subst BodyRoom (sym read.is_body) read.room

room_by : (op : Operation) (behind : List ℕ) (read : RouteLine)
    → operation_meaning (Some op) behind (fields behind) ≡ Ok read
    → LineRoom read
room_by operation.Info behind read e =
    let info = step_ok (info_of behind) _ read e in subst LineRoom (ok_same (line.Info info.0) read info.2) tt
room_by operation.Connect behind read e =
    let connect = step_ok (connect_text_of behind) _ read e in
    subst LineRoom (ok_same (line.Connect connect.0) read connect.2) tt
room_by (operation.Numbered kind.Plus) behind read e =
    numbered_room behind plus_line read
    (λ common fields line_of_fields e.
    let read = plus_read common fields line_of_fields e in subst BodyRoom (sym read.is_body) tt)
    e
room_by (operation.Numbered kind.Minus) behind read e =
    numbered_room behind minus_line read
    (λ common fields line_of_fields e.
    let read = minus_read common fields line_of_fields e in subst BodyRoom (sym read.is_body) tt)
    e
room_by (operation.Numbered kind.Snapshot) behind read e =
    numbered_room behind snapshot_line read
    (λ common fields line_of_fields e.
    let read = line_snapshot_read common fields line_of_fields e in subst BodyRoom (sym read.is_body) tt)
    e
room_by (operation.Numbered kind.Msg) behind read e =
    numbered_room behind message_line read
    (λ common fields line_of_fields e.
    message_room (codes "RMSG") common fields line_of_fields (message_read common fields line_of_fields e))
    e
room_by (operation.Numbered kind.HeaderMsg) behind read e =
    numbered_room behind header_line read
    (λ common fields line_of_fields e.
    message_room (codes "RHMSG") common fields line_of_fields (header_read common fields line_of_fields e))
    e

-- ---- a line alone: some frame has it

record Example (read : RouteLine) : Type 0 where
  pub frame : RouteFrame
  pub carries : Carries read frame (announced_size read)

-- a header block of so many bytes, and so many bytes in all
record AreBytes (headers : Option ℕ) (size : ℕ) : Type 0 where
  pub block : Option (List ℕ)
  pub payload : List ℕ
  pub sized : AreSized headers size block payload

some_bytes : (headers : Option ℕ) (size : ℕ) → HasRoom headers size → AreBytes headers size
some_bytes None size room = record {
  block = None;
  payload = replicate size 0;
  sized = record { begun = refl; block_size = refl; whole_size = length-replicate size 0 };
}
some_bytes (Some headers) size room =
    let block : List ℕ = messages.header_start ++ replicate (headers - 8) 0 in
    let payload : List ℕ = replicate (size - headers) 0 in
    let low = room.0 in
    let high = room.1 in
    let block_len : length block ≡ headers = omega (
      arith,
      length-append messages.header_start (replicate (headers - 8) 0),
      length-replicate {A = ℕ} (headers - 8) 0,
    ) in
    record {
      block = Some block;
      payload = payload;
      sized = record {
        begun = refl;
        block_size = ap (λ n. Some n) block_len;
        whole_size = omega (arith, length-append block payload, block_len, length-replicate {A = ℕ} (size - headers) 0);
      };
    }

body_example : (read : LineBody) → BodyRoom read → (body : Body) × Fits read body (body_size read)
body_example (said.Plus weighted) room = (Plus weighted, (refl, refl))
body_example (said.Minus key) room = (Minus key, (refl, refl))
body_example (said.Snapshot size) room = (Snapshot [], ([], refl, record { each = tt; ordered = refl }, refl))
body_example (said.Msg subject reply queues headers size) room =
    let bytes = some_bytes headers size room in (
      Msg (record { subject = subject; reply = reply; headers = bytes.block; payload = bytes.payload }) queues,
      (bytes.block, bytes.payload, refl, bytes.sized, refl),
    )

example : (read : RouteLine) → LineRoom read → Example read
example (line.Info info) room = record { frame = route.Info info; carries = (refl, refl) }
example (line.Connect connect) room = record { frame = route.Connect connect; carries = (refl, refl) }
example (line.Numbered line_of_fields) room =
    let found = body_example line_of_fields.body room in
    record { frame = route.Numbered (frame_in line_of_fields found.0); carries = (found.0, refl, found.1) }

pub told_is_announced : ToldIsAnnounced
told_is_announced text size e =
    let read = step_ok (line_meaning text) _ size e in
    let found_line = line_read text read.0 read.1 in
    let found = example read.0 (room_by found_line.op found_line.behind read.0 found_line.says) in
    subst (Announces text) (ok_same (announced_size read.0) size read.2)
    (found.frame, line_spelt text read.0 found.frame (announced_size read.0) read.1 found.carries)
