-- What is spelt is read: a line, and a line with its payload.
use Rattle.std.proofs.Common.{◌≡◌, ℕ, Bool, true, false, not, ◌||◌, cond, List, [], ◌∷◌, ◌++◌, length, refl, ap, sym, ◌∙◌, arith, Option, Some, None, Ok, nat_eq, nat_le, Err, ◌≤◌, ◌&&◌}
use Rattle.std.specs.Prelude.{codes, drop}
use Rattle.std.specs.Option.{ok_or, option_to_list}
use Rattle.std.proofs.lemmas.Bool.Decides.{nat_tests}
use Rattle.line_fields.specs.Fields.{is_blank, is_word, fields, begins_with_field, line_fields}
use Rattle.line_fields.proofs.SpellingFields.{stops, follow_fields, line_fields_are}
use Rattle.subj.specs.declared.limits.TheConstants.{MAX_COUNTER}
use Rattle.subj.specs.Messages.{Content, body_bytes, body_of}
use Rattle.route_values.specs.declared.bodies.Body.{Body}
use Rattle.route_values.specs.declared.bodies.Body.TheVariants.{Plus, Minus, Snapshot, Msg}
use Rattle.route_values.specs.declared.frames.RouteFrame.{RouteFrame}
use Rattle.route_values.specs.declared.frames.RouteFrame.TheVariants as route
use Rattle.route_values.specs.Frames.{Frame, is_number}
use Rattle.route_values.specs.Valid.{IsFrame, IsRouteFrame}
use Rattle.route_frames.specs.declared.faults.RouteFault.TheVariants.{BadArgs}
use Rattle.route_frames.specs.declared.reading.LineBody.{LineBody}
use Rattle.route_frames.specs.declared.reading.LineBody.TheVariants as said
use Rattle.route_frames.specs.declared.reading.NumberedLine.{NumberedLine}
use Rattle.route_frames.specs.declared.reading.RouteLine.{RouteLine}
use Rattle.route_frames.specs.declared.reading.RouteLine.TheVariants as line
use Rattle.route_frames.specs.declared.line_reading.Operation.{Operation}
use Rattle.route_frames.specs.declared.line_reading.Operation.TheVariants as operation
use Rattle.route_frames.specs.Meaning.{Meaning, ◌>>=◌}
use Rattle.route_frames.specs.Operations.{word_of}
use Rattle.route_frames.specs.CommonFields.{CommonFields}
use Rattle.route_frames.specs.Arguments.{message_fields, header_fields}
use Rattle.route_frames.specs.NumberedLines.{plus_line, minus_line, snapshot_line, message_line, header_line}
use Rattle.route_frames.specs.Lines.{line_of_fields, operation_meaning, fields_meaning, line_meaning, body_headers, announced_size, announced_headers}
use Rattle.route_frames.specs.Decoding.{payload_meaning, block_meaning, line_fits, content_in, body_meaning, frame_behind, frame_meaning, numbered_meaning}
use Rattle.route_frames.specs.Canonical.{message_operation, operation_for, form_fields}
use Rattle.route_frames.specs.Spelling.{header_size, SpellsMessage, SpellsBody, SpellsBehind, body_announces, frame_word, SpellsText, SpellsLine, SpellsPayload, announces}
use Rattle.route_frames.specs.Laws.{SpeltIsRead, AnnouncedIsTold}
use Rattle.route_frames.proofs.Operations.{named_is_found, word_is_field}
use Rattle.route_frames.proofs.Cuts.Behind.{drop_front}
use Rattle.route_frames.proofs.Meaning.Lines.{AreEnds, line_spelt, AreDigits, common_with, plus_means, minus_means, snapshot_means, publication_means}
use Rattle.route_frames.proofs.Meaning.Keys.{text_means}
use Rattle.route_frames.proofs.Meaning.Messages.{plain_again, headed_again, body_again, block_again}
use Rattle.route_frames.proofs.Meaning.Greetings.{info_means, connect_means}

-- ---- a line, by its operation and the text behind it

end_of_field : (bytes : List ℕ) → begins_with_field bytes ≡ false → stops bytes ≡ true
end_of_field [] e = refl
end_of_field (x ∷ xs) e = other (is_blank x) e where
  other : (b : Bool) → not b ≡ false → b ≡ true
  other true e = refl
  other false e = absurd (cc)

line_means_by : (text field behind : List ℕ) (o : Operation)
    → text ≡ field ++ behind
    → is_word (word_of o) field ≡ true
    → begins_with_field behind ≡ false
    → line_meaning text ≡ operation_meaning (Some o) behind (fields behind)
line_means_by text field behind o whole names ends =
    let follows = follow_fields (fields behind) behind refl (end_of_field behind ends) in
    let are : line_fields text ≡ field ∷ fields behind = line_fields_are field (fields behind) text
    (record { rest = behind; whole = whole; is_field = word_is_field o field names; follows = follows }) in
    ap (fields_meaning text) are
    ∙ ap (λ found. operation_meaning found (drop (length field) text) (fields behind)) (named_is_found o field names)
    ∙ ap (λ behind_field. operation_meaning (Some o) behind_field (fields behind))
    (ap (drop (length field)) whole ∙ drop_front field behind)

-- ---- numbered frames

abbrev frame_with : List ℕ → ℕ → List ℕ → ℕ → ℕ → Body → Frame
frame_with from inc to to_inc number body = record {
  from = from;
  inc = inc;
  to = to;
  to_inc = to_inc;
  number = number;
  body = body;
}

read_frame : (from to : List ℕ) (inc to_inc number : ℕ) (said : LineBody) (body : Body) (payload : List ℕ)
    → body_meaning said payload ≡ Ok body
    → is_number number body ≡ true
    → numbered_meaning (line_spelt from to inc to_inc number said) payload
    ≡ Ok (record { from = from; inc = inc; to = to; to_inc = to_inc; number = number; body = body })
unfolding numbered_meaning
read_frame from to inc to_inc number said body payload read is =
    rw read (ap (λ b.
    ok_or
    (cond b (Some (record { from = from; inc = inc; to = to; to_inc = to_inc; number = number; body = body })) None)
    BadArgs)
    is)

of_size : (n : ℕ) (same : Bool) → nat_eq n n ≡ same → same ≡ true
of_size n same is = grind (arith, nat_tests)

has_size : (payload : List ℕ) → payload_meaning (Some (length payload)) payload ≡ Ok tt
has_size payload = ap (λ b. cond b (Ok tt) (Err BadArgs)) (of_size (length payload) _ refl)

numbered_from_one : (n : ℕ) → (nat_le n MAX_COUNTER && (nat_le 1 n || false)) ≡ true → (1 ≤ n) × (n ≤ MAX_COUNTER)
numbered_from_one n is = grind (arith, nat_tests)

numbered_from_zero : (n : ℕ) → (nat_le n MAX_COUNTER && (nat_le 1 n || true)) ≡ true → n ≤ MAX_COUNTER
numbered_from_zero n is = grind (arith, nat_tests)

ends_of : (frame : Frame)
    → IsFrame frame
    → frame.number ≤ MAX_COUNTER
    → AreEnds frame.from frame.to frame.inc frame.to_inc frame.number
ends_of frame is most = record {
  sender = is.from;
  receiver = is.to;
  life = is.inc;
  other_life = is.to_inc;
  most = most;
}

-- what the text behind an operation says of a frame, and what is made of it and a payload
record BodyMeans (text : List ℕ) (all : List (List ℕ)) (frame : Frame) (size : Option ℕ) : Type 0 where
  pub said : LineBody
  pub says : operation_meaning (Some (operation_for frame.body)) text all
      ≡ Ok (line.Numbered (line_spelt frame.from frame.to frame.inc frame.to_inc frame.number said))
  pub told :
      announced_size (line.Numbered (line_spelt frame.from frame.to frame.inc frame.to_inc frame.number said)) ≡ size
  pub begins : (payload : List ℕ) → SpellsBehind frame.body payload → block_meaning (body_headers said) payload ≡ Ok tt
  pub makes : (payload : List ℕ)
      → SpellsBehind frame.body payload
      → size ≡ body_announces frame.body payload
      → body_meaning said payload ≡ Ok frame.body

abbrev content_with : List ℕ → Option (List ℕ) → Option (List ℕ) → List ℕ → Content
content_with subject reply headers payload = record {
  subject = subject;
  reply = reply;
  headers = headers;
  payload = payload;
}

abbrev spelt_fields : List ℕ
    → List ℕ
    → (inc to_inc number : ℕ)
    → AreDigits inc to_inc number
    → List (List ℕ)
    → List (List ℕ)
spelt_fields from to inc to_inc number are behind =
    from ∷ are.inc_digits ∷ to ∷ are.to_inc_digits ∷ are.number_digits ∷ behind

numbered_by : (behind_common : CommonFields → List (List ℕ) → Meaning NumberedLine) (from to : List ℕ)
    (inc to_inc number : ℕ) (are : AreDigits inc to_inc number) (all behind spelt : List (List ℕ)) (read : NumberedLine)
    → all ≡ spelt_fields from to inc to_inc number are behind
    → behind ≡ spelt
    → behind_common (common_with from to inc to_inc number are) spelt ≡ Ok read
    → line_of_fields behind_common all ≡ Ok (line.Numbered read)
numbered_by behind_common from to inc to_inc number are all behind spelt read whole is says =
    ap (line_of_fields behind_common) whole
    ∙ ap
    (λ fields. behind_common (common_with from to inc to_inc number are) fields >>= λ read. Ok (line.Numbered read)) is
    ∙ ap (λ read. read >>= λ read. Ok (line.Numbered read)) says

-- a publication, with headers or without
publication_by : (text : List ℕ) (all behind : List (List ℕ)) (from to : List ℕ) (inc to_inc number : ℕ)
    (subject : List ℕ) (reply headers : Option (List ℕ)) (payload : List ℕ) (queues : List (List ℕ))
    (are : AreDigits inc to_inc number)
    → all ≡ spelt_fields from to inc to_inc number are behind
    → IsFrame (frame_with from inc to to_inc number (Msg (content_with subject reply headers payload) queues))
    → SpellsMessage (content_with subject reply headers payload) queues behind
    → operation_meaning (Some (message_operation headers)) text all
    ≡ Ok (line.Numbered (line_spelt from to inc to_inc number
    (said.Msg subject reply queues (header_size (content_with subject reply headers payload))
    (length (body_bytes headers payload)))))
publication_by text all behind from to inc to_inc number subject reply None payload queues are whole is spelt =
    let message = content_with subject reply None payload in
    let counts = numbered_from_one number is.number in
    let fields : List (List ℕ) = codes "$G" ∷ subject ∷ (form_fields reply queues ++ spelt.0 ∷ []) in
    let means = publication_means from to inc to_inc number are (message_fields fields) None spelt.0 message queues
    (ends_of (frame_with from inc to to_inc number (Msg message queues)) is counts.1) counts.0 is.body
    (plain_again (codes "$G") subject reply queues spelt.0) refl spelt.2 in
    numbered_by message_line from to inc to_inc number are all behind fields
    (line_spelt from to inc to_inc number (said.Msg subject reply queues None (length payload))) whole spelt.1 means
publication_by text all behind from to inc to_inc number subject reply (Some block) payload queues are whole is spelt =
    let message = content_with subject reply (Some block) payload in
    let counts = numbered_from_one number is.number in
    let fields : List (List ℕ) = codes "$G" ∷ subject ∷ (form_fields reply queues ++ spelt.0 ∷ spelt.1 ∷ []) in
    let means = publication_means from to inc to_inc number are (header_fields fields) (Some spelt.0) spelt.1 message
    queues (ends_of (frame_with from inc to to_inc number (Msg message queues)) is counts.1) counts.0 is.body
    (headed_again (codes "$G") subject reply queues spelt.0 spelt.1) (length block, refl, spelt.3) spelt.4 in
    numbered_by header_line from to inc to_inc number are all behind fields
    (line_spelt from to inc to_inc number
    (said.Msg subject reply queues (Some (length block)) (length (block ++ payload))))
    whole spelt.2 means

body_by : (text : List ℕ) (all behind : List (List ℕ)) (from to : List ℕ) (inc to_inc number : ℕ) (body : Body)
    (size : Option ℕ) (are : AreDigits inc to_inc number)
    → all ≡ spelt_fields from to inc to_inc number are behind
    → IsFrame (frame_with from inc to to_inc number body)
    → SpellsBody body size behind
    → BodyMeans text all (frame_with from inc to to_inc number body) size
body_by text all behind from to inc to_inc number (Plus weighted) size are whole is spelt =
    let counts = numbered_from_one number is.number in
    let means = plus_means from to inc to_inc number are weighted spelt.1.0
    (ends_of (frame_with from inc to to_inc number (Plus weighted)) is counts.1) counts.0 is.body spelt.1.2 in
    record {
      said = said.Plus weighted;
      says =
          numbered_by plus_line from to inc to_inc number are all behind (codes "$G" ∷ weighted.0.pattern ∷ spelt.1.0)
          (line_spelt from to inc to_inc number (said.Plus weighted)) whole spelt.1.1 means;
      told = sym spelt.0;
      begins = λ payload behind. refl;
      makes = λ payload behind told. refl;
    }
body_by text all behind from to inc to_inc number (Minus key) size are whole is spelt =
    let counts = numbered_from_one number is.number in
    let means = minus_means from to inc to_inc number are key
    (ends_of (frame_with from inc to to_inc number (Minus key)) is counts.1) counts.0 is.body in
    record {
      said = said.Minus key;
      says =
          numbered_by minus_line from to inc to_inc number are all behind
          (codes "$G" ∷ key.pattern ∷ option_to_list key.queue) (line_spelt from to inc to_inc number (said.Minus key))
          whole spelt.1 means;
      told = sym spelt.0;
      begins = λ payload behind. refl;
      makes = λ payload behind told. refl;
    }
body_by text all behind from to inc to_inc number (Snapshot keys) size are whole is spelt =
    let most = numbered_from_zero number is.number in
    let bytes = spelt.0 in
    let means = snapshot_means from to inc to_inc number are spelt.3.0 bytes
    (ends_of (frame_with from inc to to_inc number (Snapshot keys)) is most) spelt.2 spelt.3.2 in
    record {
      said = said.Snapshot bytes;
      says =
          numbered_by snapshot_line from to inc to_inc number are all behind (spelt.3.0 ∷ [])
          (line_spelt from to inc to_inc number (said.Snapshot bytes)) whole spelt.3.1 means;
      told = sym spelt.1;
      begins = λ payload behind. refl;
      makes = λ payload behind told.
          ap (λ read. read >>= λ keys. Ok (Snapshot keys)) (text_means keys payload is.body behind);
    }
body_by text all behind from to inc to_inc number (Msg message queues) size are whole is spelt =
    let valid = is.body in
    let bytes = length (body_of message) in
    let content = ap (λ found.
    (ok_or found BadArgs >>= λ body. Ok (content_in message.subject message.reply body))
    >>= λ message. Ok (Msg message queues))
    (body_again message.headers message.payload valid.headers valid.body) in
    record {
      said = said.Msg message.subject message.reply queues (header_size message) bytes;
      says =
          publication_by text all behind from to inc to_inc number message.subject message.reply message.headers
          message.payload queues are whole is spelt.1;
      told = sym spelt.0;
      begins = λ payload behind.
          ap (block_meaning (header_size message)) behind ∙ block_again message.headers message.payload valid.headers;
      makes = λ payload behind told.
          ap
          (λ payload. body_meaning (said.Msg message.subject message.reply queues (header_size message) bytes) payload)
          behind
          ∙ content;
    }

-- ---- any frame

-- what a line is read as, and what is made of it and a payload
record LineMeans (text : List ℕ) (frame : RouteFrame) (size : Option ℕ) : Type 0 where
  pub read : RouteLine
  pub says : line_meaning text ≡ Ok read
  pub told : announced_size read ≡ size
  pub begins : (payload : List ℕ) → SpellsPayload frame payload → block_meaning (announced_headers read) payload ≡ Ok tt
  pub makes : (payload : List ℕ)
      → SpellsPayload frame payload
      → size ≡ announces frame payload
      → frame_behind read payload ≡ Ok frame

line_by : (text word behind : List ℕ) (frame : RouteFrame) (size : Option ℕ)
    → text ≡ word ++ behind
    → is_word (frame_word frame) word ≡ true
    → begins_with_field behind ≡ false
    → SpellsText frame size behind
    → IsRouteFrame frame
    → LineMeans text frame size
line_by text word behind (route.Info info) size whole names ends spelt is = record {
  read = line.Info info;
  says =
      line_means_by text word behind operation.Info whole names ends
      ∙ ap (λ read. read >>= λ info. Ok (line.Info info)) (info_means behind spelt.1 info spelt.2 spelt.3 is);
  told = sym spelt.0;
  begins = λ payload behind. refl;
  makes = λ payload behind told. refl;
}
line_by text word behind (route.Connect connect) size whole names ends spelt is = record {
  read = line.Connect connect;
  says =
      line_means_by text word behind operation.Connect whole names ends
      ∙ ap (λ read. read >>= λ connect. Ok (line.Connect connect))
      (connect_means behind spelt.1 connect spelt.2 spelt.3 is);
  told = sym spelt.0;
  begins = λ payload behind. refl;
  makes = λ payload behind told. refl;
}
line_by text word behind (route.Numbered frame) size whole names ends spelt is =
    let common = spelt.1 in
    let are : AreDigits frame.inc frame.to_inc frame.number = record {
      inc_digits = common.inc;
      to_inc_digits = common.to_inc;
      number_digits = common.number;
      is_inc = common.is_inc;
      is_to_inc = common.is_to_inc;
      is_number = common.is_number;
    } in
    let means = body_by behind (fields behind) spelt.0 frame.from frame.to frame.inc frame.to_inc frame.number
    frame.body size are common.whole is spelt.2 in
    record {
      read = line.Numbered (line_spelt frame.from frame.to frame.inc frame.to_inc frame.number means.said);
      says = line_means_by text word behind (operation_for frame.body) whole names ends ∙ means.says;
      told = means.told;
      begins = means.begins;
      makes = λ payload behind told.
          ap (λ read. read >>= λ frame. Ok (route.Numbered frame))
          (read_frame frame.from frame.to frame.inc frame.to_inc frame.number means.said frame.body payload
          (means.makes payload behind told) is.number);
    }

line_means : (text : List ℕ) (frame : RouteFrame) (size : Option ℕ)
    → SpellsLine frame size text
    → LineMeans text frame size
line_means text frame size spelt =
    line_by text spelt.word spelt.text frame size spelt.whole spelt.names spelt.is_behind spelt.says spelt.valid

body_sized : (body : Body) (payload : List ℕ)
    → SpellsBehind body payload
    → payload_meaning (body_announces body payload) payload ≡ Ok tt
body_sized (Plus weighted) payload is = ap (λ payload. payload_meaning None payload) is
body_sized (Minus key) payload is = ap (λ payload. payload_meaning None payload) is
body_sized (Snapshot keys) payload is = has_size payload
body_sized (Msg message queues) payload is = has_size payload

payload_sized : (frame : RouteFrame) (payload : List ℕ)
    → SpellsPayload frame payload
    → payload_meaning (announces frame payload) payload ≡ Ok tt
payload_sized (route.Info info) payload is = ap (λ payload. payload_meaning None payload) is
payload_sized (route.Connect connect) payload is = ap (λ payload. payload_meaning None payload) is
payload_sized (route.Numbered frame) payload is = body_sized frame.body payload is

pub spelt_is_read : SpeltIsRead
unfolding frame_meaning
spelt_is_read frame text payload spelt =
    let means = line_means text frame (announces frame payload) spelt.in_line in
    let sized : payload_meaning (announced_size means.read) payload ≡ Ok tt =
    ap (λ size. payload_meaning size payload) means.told ∙ payload_sized frame payload spelt.behind in
    let fits : line_fits means.read payload ≡ Ok tt =
    ap (λ read. read >>= λ sized. block_meaning (announced_headers means.read) payload) sized
    ∙ means.begins payload spelt.behind in
    let made = means.makes payload spelt.behind refl in
    rw (means.says, fits, made) refl

pub announced_is_told : AnnouncedIsTold
announced_is_told text size spelt =
    let means = line_means text spelt.0 size spelt.1 in
    ap (λ read. read >>= λ line. Ok (announced_size line)) means.says ∙ ap (λ size. Ok size) means.told
