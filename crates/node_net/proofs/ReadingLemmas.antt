-- What a route reads, piece by piece.
use Rattle.std.proofs.Common.{◌≡◌, ℕ, ◌+◌, Bool, true, false, List, [], ◌∷◌, ◌++◌, length, map, drop, Option, Some, None, Result, Ok, Err, refl, sym, ap, ◌∙◌, subst, inl, inr}
use Rattle.std.specs.Prelude.{option_to_list, is_some, IsSome, IfSome, IfNone, OnOk}
use Rattle.std.specs.Bool.{OnFalse}
use Rattle.std.proofs.lemmas.List.{map-append}
use Rattle.wire_cut.specs.declared.faults.CutFault.{CutFault}
use Rattle.wire_cut.specs.Cut.{CutterState, StreamPiece, line, payload, bytes_of, cut_of, after_answer, after_next, after_expect, after_refusal, expect_fault, new_cutter, IsDue}
use Rattle.wire_cut.specs.Reading.{Told, going_on, ending, Reading, finding_next, finding_before, finding_by, size_fault, reading_after, reading_of, continuation, read_on, with_items, StandsAt}
use Rattle.wire_cut.specs.Flow.{Gains}
use Rattle.wire_cut.proofs.ReadingLemmas.{reading_of-look, reads_on as read_in_two, with_items-twice, cuts_alike}
use Rattle.subj.specs.declared.limits.TheConstants.{ROUTE_LINE, MAX_SNAPSHOT}
use Rattle.route_values.specs.declared.frames.RouteFrame.{RouteFrame}
use Rattle.route_frames.specs.declared.faults.RouteFault.{RouteFault}
use Rattle.route_frames.specs.declared.reading.RouteLine.{RouteLine}
use Rattle.route_frames.specs.InStream.{RouteItem, came, Awaited, a_line, payload_of, size_awaited, frame_told, line_told, piece_told, route_grammar}
use Rattle.route_frames.specs.Lines.{announced_size, line_meaning}
use Rattle.route_frames.specs.Meaning.{Meaning, ◌>>=◌}
use Rattle.route_frames.specs.Decoding.{size_meaning, frame_meaning, frame_of_line}
use Rattle.node_net.specs.declared.route_link.RouteLink.{RouteLink}
use Rattle.node_net.specs.declared.runs.Ran.{Ran}
use Rattle.node_net.specs.declared.runs.Ran.TheVariants as ran
use Rattle.node_net.specs.Reading.{reading_from, reading_behind, IsRefusal, HasToReadBy, HasToRead, HasMore, StandsBehind, ReadsFrames, Cuts, IsBehindLine, ReadsLine, ReadsPayload, Announces, end_of, IsBegun, JoinsFrame, ReadsAhead}

-- ---- one piece

behind_next : (awaited next : Awaited) (all behind : List ℕ) (items : List RouteItem) (fault : Option CutFault)
    → reading_after (reading_of route_grammar) awaited all (finding_next route_grammar items next behind fault)
    ≡ reading_after (reading_of route_grammar) a_line behind (finding_next route_grammar items next behind fault)
behind_next awaited next all behind items None = refl
behind_next awaited next all behind items (Some fault) = refl

-- what is found behind a piece stands, whatever was awaited before
behind_same : (awaited : Awaited) (all behind : List ℕ) (told : Told Awaited RouteItem)
    → reading_after (reading_of route_grammar) awaited all (finding_before route_grammar behind told)
    ≡ reading_behind told behind
behind_same awaited all behind (ending items) = refl
behind_same awaited all behind (going_on items next) =
    behind_next awaited next all behind items (size_fault MAX_SNAPSHOT (size_awaited next))

cuts_so : (awaited : Awaited) (s : CutterState) (answer : Result (Option StreamPiece) CutFault)
    → StandsAt route_grammar awaited s
    → cut_of s ≡ answer
    → reading_from awaited s.unread
    ≡ reading_after (reading_of route_grammar) awaited s.unread (finding_by route_grammar awaited s.unread answer)
cuts_so awaited s answer at is =
    reading_of-look route_grammar awaited s.unread
    ∙ ap (λ a. reading_after (reading_of route_grammar) awaited s.unread (finding_by route_grammar awaited s.unread a))
    (sym (cuts_alike route_grammar awaited s at) ∙ is)

piece_read : (awaited : Awaited) (s : CutterState) (piece : StreamPiece)
    → StandsAt route_grammar awaited s
    → cut_of s ≡ Ok (Some piece)
    → reading_from awaited s.unread ≡ reading_behind (piece_told awaited (bytes_of piece)) (after_next s).unread
piece_read awaited s piece at is =
    let there : (after_next s).unread ≡ drop (length (bytes_of piece) + 2) s.unread =
    ap (λ a. (after_answer s a).unread) is in
    cuts_so awaited s (Ok (Some piece)) at is
    ∙ behind_same awaited s.unread (drop (length (bytes_of piece) + 2) s.unread) (piece_told awaited (bytes_of piece))
    ∙ ap (reading_behind (piece_told awaited (bytes_of piece))) (sym there)

none_read : (awaited : Awaited) (s : CutterState)
    → StandsAt route_grammar awaited s
    → cut_of s ≡ Ok None
    → (reading_from awaited s.unread).items ≡ []
none_read awaited s at is = ap (λ (r : Reading Awaited RouteItem). r.items) (cuts_so awaited s (Ok None) at is)

fault_read : (awaited : Awaited) (s : CutterState) (fault : CutFault)
    → StandsAt route_grammar awaited s
    → cut_of s ≡ Err fault
    → IsRefusal (reading_from awaited s.unread)
fault_read awaited s fault at is = inr (fault, cuts_so awaited s (Err fault) at is)

stands_after : (awaited : Awaited) (s : CutterState) (piece : StreamPiece)
    → StandsAt route_grammar awaited s
    → cut_of s ≡ Ok (Some piece)
    → StandsAt route_grammar a_line (after_next s)
stands_after awaited s piece at is =
    subst (StandsAt route_grammar a_line) (sym (ap (after_answer s) is))
    (record { expected = refl; fault = at.fault; line_max = at.line_max; payload_max = at.payload_max })

-- ---- meanings

size_is : (text : List ℕ) (said : RouteLine)
    → line_meaning text ≡ Ok said
    → size_meaning text ≡ Ok (announced_size said)
size_is text said is = ap (λ (m : Meaning RouteLine). m >>= λ l. Ok (announced_size l)) is

size_refused : (text : List ℕ) (fault : RouteFault)
    → line_meaning text ≡ Err fault
    → size_meaning text ≡ Err fault
size_refused text fault is = ap (λ (m : Meaning RouteLine). m >>= λ l. Ok (announced_size l)) is

frame_is : (text bytes : List ℕ) (said : RouteLine)
    → line_meaning text ≡ Ok said
    → frame_meaning text bytes ≡ frame_of_line said bytes
unfolding frame_meaning
frame_is text bytes said is = ap (λ (m : Meaning RouteLine). m >>= λ l. frame_of_line l bytes) is

-- ---- a line

pub line_ok : (s after : CutterState) (text : List ℕ) (said : RouteLine)
    → cut_of s ≡ Ok (Some (line text))
    → line_meaning text ≡ Ok said
    → after ≡ after_next s
    → StandsAt route_grammar a_line s
    → ReadsLine s (Ok said) after
line_ok s after text said is means new at =
    subst (ReadsLine s (Ok said)) (sym new) (
      text,
      means,
      piece_read a_line s (line text) at is,
      (stands_after a_line s (line text) at is, ap (λ a. (after_answer s a).after_line) is),
    )

pub line_waits : (s : CutterState)
    → cut_of s ≡ Ok None
    → StandsAt route_grammar a_line s
    → ReadsLine s (Err ran.Waits) s
line_waits s is at = (refl, none_read a_line s at is)

pub line_refused : (s after : CutterState) (text : List ℕ) (fault : RouteFault)
    → cut_of s ≡ Ok (Some (line text))
    → line_meaning text ≡ Err fault
    → StandsAt route_grammar a_line s
    → ReadsLine s (Err ran.Refused) after
line_refused s after text fault is means at =
    inl (
      fault,
      piece_read a_line s (line text) at is
          ∙ ap (λ m. reading_behind (line_told text m) (after_next s).unread) (size_refused text fault means),
    )

pub line_fault : (s after : CutterState) (fault : CutFault)
    → cut_of s ≡ Err fault
    → StandsAt route_grammar a_line s
    → ReadsLine s (Err ran.Refused) after
line_fault s after fault is at = fault_read a_line s fault at is

some_none : {T : Type 0} (o : Option T) → IsSome o → o ≡ None → ⊥
some_none o some none = no (subst IsSome none some) where
  no : false ≡ true → ⊥
  no e = cc e

-- no payload is due where a line is
pub line_no_payload : (s after : CutterState) (bytes : List ℕ)
    → IsDue (payload bytes) s
    → StandsAt route_grammar a_line s
    → ReadsLine s (Err ran.Refused) after
line_no_payload s after bytes due at = absurd (some_none s.expected due.0 at.expected)

-- ---- a payload

pub payload_ok : (s after : CutterState) (bytes : List ℕ)
    → cut_of s ≡ Ok (Some (payload bytes))
    → after ≡ after_next s
    → (text : List ℕ) (size : ℕ)
    → StandsAt route_grammar (payload_of text size) s
    → ReadsPayload text size s (Ok bytes) after
payload_ok s after bytes is new text size at =
    subst (ReadsPayload text size s (Ok bytes)) (sym new) (
      piece_read (payload_of text size) s (payload bytes) at is,
      stands_after (payload_of text size) s (payload bytes) at is,
    )

-- a copy of it was made
pub payload_copied : (s after : CutterState) (bytes copy : List ℕ)
    → cut_of s ≡ Ok (Some (payload bytes))
    → after ≡ after_next s
    → copy ≡ bytes
    → (text : List ℕ) (size : ℕ)
    → StandsAt route_grammar (payload_of text size) s
    → ReadsPayload text size s (Ok copy) after
payload_copied s after bytes copy is new same text size at =
    subst (λ b. ReadsPayload text size s (Ok b) after) (sym same) (payload_ok s after bytes is new text size at)

pub payload_waits : (s : CutterState)
    → cut_of s ≡ Ok None
    → (text : List ℕ) (size : ℕ)
    → StandsAt route_grammar (payload_of text size) s
    → ReadsPayload text size s (Err ran.Waits) s
payload_waits s is text size at = (refl, none_read (payload_of text size) s at is)

pub payload_fault : (s after : CutterState) (fault : CutFault)
    → cut_of s ≡ Err fault
    → (text : List ℕ) (size : ℕ)
    → StandsAt route_grammar (payload_of text size) s
    → ReadsPayload text size s (Err ran.Refused) after
payload_fault s after fault is text size at = fault_read (payload_of text size) s fault at is

-- no line is due where a payload is
pub payload_no_line : (s after : CutterState) (bytes : List ℕ)
    → IsDue (line bytes) s
    → (text : List ℕ) (size : ℕ)
    → StandsAt route_grammar (payload_of text size) s
    → ReadsPayload text size s (Err ran.Refused) after
payload_no_line s after bytes due text size at = absurd (none_some (sym due.0 ∙ at.expected)) where
  none_some : None ≡ Some size → ⊥
  none_some e = cc e

-- ---- an announcement

-- the limit that a cutter behind a line has
announced_fault : (s : CutterState) (size : ℕ)
    → IsBehindLine s
    → size_fault MAX_SNAPSHOT (Some size) ≡ expect_fault s.fault s.payload_max size
announced_fault s size behind =
    ap (λ f. expect_fault f MAX_SNAPSHOT size) (sym behind.0.fault)
    ∙ ap (λ m. expect_fault s.fault m size) (sym behind.0.payload_max)

pub announces_size : (s new : CutterState) (size : ℕ)
    → None ≡ expect_fault s.fault s.payload_max size
    → new ≡ after_expect s size
    → IsBehindLine s
    → Announces size s (Ok tt) new
announces_size s new size fits is behind =
    (is ∙ ap (after_refusal s size) (sym fits), announced_fault s size behind ∙ sym fits)

pub announces_fault : (s new : CutterState) (size : ℕ) (fault : CutFault)
    → Some fault ≡ expect_fault s.fault s.payload_max size
    → IsBehindLine s
    → Announces size s (Err ran.Refused) new
announces_fault s new size fault is behind = (fault, announced_fault s size behind ∙ sym is)

pub announces_nothing : (s new : CutterState) (size : ℕ)
    → false ≡ s.after_line
    → IsBehindLine s
    → Announces size s (Err ran.Refused) new
announces_nothing s new size is behind = absurd (no (is ∙ behind.1)) where
  no : false ≡ true → ⊥
  no e = cc e

-- ---- the beginning of a frame

-- a line without a payload
alone : (before after : CutterState) (said : RouteLine) (reading : Reading Awaited RouteItem)
    → ReadsLine before (Ok said) after
    → announced_size said ≡ None
    → reading ≡ reading_from a_line before.unread
    → HasToReadBy None (Some (said, [])) after reading
alone before after said reading reads none is = (
  reads.3.0,
  is ∙ reads.2
      ∙ ap (λ m. reading_behind (line_told reads.0 m) after.unread)
      (size_is reads.0 said reads.1 ∙ ap (λ (s : Option ℕ). Ok s) none)
      ∙ ap (λ m. reading_behind (frame_told m) after.unread) (frame_is reads.0 [] said reads.1),
)

announced : (before after : CutterState) (said : RouteLine) (size : ℕ) (fault : Option CutFault)
    (reading : Reading Awaited RouteItem)
    → ReadsLine before (Ok said) after
    → announced_size said ≡ Some size
    → size_fault MAX_SNAPSHOT (Some size) ≡ fault
    → reading ≡ reading_from a_line before.unread
    → (text : List ℕ)
    × (line_meaning text ≡ Ok said)
    × (reading
    ≡ reading_after (reading_of route_grammar) a_line after.unread
    (finding_next route_grammar [] (payload_of text size) after.unread fault))
announced before after said size fault reading reads some long is = (
  reads.0,
  reads.1,
  is ∙ reads.2
      ∙ ap (λ m. reading_behind (line_told reads.0 m) after.unread)
      (size_is reads.0 said reads.1 ∙ ap (λ (s : Option ℕ). Ok s) some)
      ∙ ap (λ f. reading_after (reading_of route_grammar) a_line after.unread
      (finding_next route_grammar [] (payload_of reads.0 size) after.unread f)) long,
)

-- a line with one
due : (before after there : CutterState) (said : RouteLine) (size : ℕ) (reading : Reading Awaited RouteItem)
    → ReadsLine before (Ok said) after
    → announced_size said ≡ Some size
    → Announces size after (Ok tt) there
    → reading ≡ reading_from a_line before.unread
    → HasToReadBy (Some said) None there reading
due before after there said size reading reads some announces is =
    let it = announced before after said size None reading reads some announces.1 is in
    subst (λ c. HasToReadBy (Some said) None c reading) (sym announces.0) (
      it.0,
      size,
      it.1,
      record {
        expected = refl;
        fault = reads.3.0.fault;
        line_max = reads.3.0.line_max;
        payload_max = reads.3.0.payload_max;
      },
      it.2,
    )

-- one that is too long
too_long : (before after there : CutterState) (said : RouteLine) (size : ℕ) (reading : Reading Awaited RouteItem)
    → ReadsLine before (Ok said) after
    → announced_size said ≡ Some size
    → Announces size after (Err ran.Refused) there
    → reading ≡ reading_from a_line before.unread
    → IsRefusal reading
too_long before after there said size reading reads some announces is =
    let it = announced before after said size (Some announces.0) reading reads some announces.1 is in
    inr (announces.0, it.2)

-- ---- a link

stand_by : (link : RouteLink) (l : Option RouteLine) (u : Option (RouteLine × List ℕ)) (c : CutterState)
    (reading : Reading Awaited RouteItem)
    → link.line ≡ l
    → link.unjoined ≡ u
    → link.cutter ≡ c
    → HasToReadBy l u c reading
    → HasToRead link reading
stand_by link l u c reading line_is joined_is cutter_is has =
    subst (λ x. HasToReadBy x link.unjoined link.cutter reading) (sym line_is)
    (subst (λ x. HasToReadBy l x link.cutter reading) (sym joined_is)
    (subst (λ x. HasToReadBy l u x reading) (sym cutter_is) has))

stood_by : (link : RouteLink) (l : Option RouteLine) (u : Option (RouteLine × List ℕ))
    (reading : Reading Awaited RouteItem)
    → link.line ≡ l
    → link.unjoined ≡ u
    → HasToRead link reading
    → HasToReadBy l u link.cutter reading
stood_by link l u reading line_is joined_is has =
    subst (λ x. HasToReadBy l x link.cutter reading) joined_is
    (subst (λ x. HasToReadBy x link.unjoined link.cutter reading) line_is has)

-- the cutter alone goes on: all else stays as it was
pub cuts_behind : (old new : RouteLink)
    → Cuts old new
    → new ≡ record old { cutter = new.cutter; line = new.line; unjoined = new.unjoined }
cuts_behind old new cuts =
    cuts
    ∙ ap (λ (r : RouteLink). record old { cutter = new.cutter; line = r.line; unjoined = r.unjoined }) (sym cuts)

none_there : {T : Type 0} (o : Option T) → false ≡ is_some o → o ≡ None
none_there None is = refl
none_there (Some x) is = absurd (cc is)

-- the line could not be read
pub begins_not : (old new : RouteLink) (end : Ran)
    → false ≡ is_some old.line
    → false ≡ is_some old.unjoined
    → Cuts old new
    → (StandsAt route_grammar a_line old.cutter → ReadsLine old.cutter (Err end) new.cutter)
    → ReadsFrames (Some end) [] old new
begins_not old new end no_line no_joint cuts reads reading has = (reading, refl, go end (reads at.0)) where
  none : old.line ≡ None
  none = none_there old.line no_line

  unjoined : old.unjoined ≡ None
  unjoined = none_there old.unjoined no_joint

  at : HasToReadBy None None old.cutter reading
  at = stood_by old None None reading none unjoined has

  line_is : new.line ≡ None
  line_is = ap (λ (r : RouteLink). r.line) cuts ∙ none

  joined_is : new.unjoined ≡ None
  joined_is = ap (λ (r : RouteLink). r.unjoined) cuts ∙ unjoined

  go : (e : Ran) → ReadsLine old.cutter (Err e) new.cutter → StandsBehind (Some e) reading new
  go ran.Waits r = (
    stand_by new None None old.cutter reading line_is joined_is r.0 at,
    ap (λ (r : Reading Awaited RouteItem). r.items) at.1 ∙ r.1,
  )
  go ran.Refused r = subst IsRefusal (sym at.1) r
  go ran.Short r = stand_by new None None old.cutter reading line_is joined_is r at
  go e r = absurd r

-- a line was read that announces no payload
pub begins_alone : (old there new : RouteLink) (said : RouteLine)
    → false ≡ is_some old.line
    → false ≡ is_some old.unjoined
    → Cuts old there
    → (StandsAt route_grammar a_line old.cutter → ReadsLine old.cutter (Ok said) there.cutter)
    → None ≡ announced_size said
    → new ≡ record there { unjoined = Some (said, []) }
    → ReadsFrames None [] old new
begins_alone old there new said no_line no_joint cuts reads none_announced is reading has =
    let none : old.line ≡ None = none_there old.line no_line in
    let at : HasToReadBy None None old.cutter reading =
    stood_by old None None reading none (none_there old.unjoined no_joint) has in (
      reading,
      refl,
      stand_by new None (Some (said, [])) there.cutter reading
          (ap (λ (r : RouteLink). r.line) is ∙ ap (λ (r : RouteLink). r.line) cuts ∙ none)
          (ap (λ (r : RouteLink). r.unjoined) is) (ap (λ (r : RouteLink). r.cutter) is)
          (alone old.cutter there.cutter said reading (reads at.0) (sym none_announced) at.1),
    )

-- and one that does
pub begins_due : (old there mid new : RouteLink) (said : RouteLine) (size : ℕ) (result : Result (Unit {0}) Ran)
    → false ≡ is_some old.line
    → false ≡ is_some old.unjoined
    → Cuts old there
    → (StandsAt route_grammar a_line old.cutter → ReadsLine old.cutter (Ok said) there.cutter)
    → Some size ≡ announced_size said
    → mid ≡ record there { line = Some said }
    → Cuts mid new
    → (IsBehindLine mid.cutter → Announces size mid.cutter result new.cutter)
    → ReadsFrames (end_of result) [] old new
begins_due old there mid new said size result no_line no_joint cuts reads some put cuts_on announces reading has =
    (reading, refl, go result announced_so)
  where
    unjoined : old.unjoined ≡ None
    unjoined = none_there old.unjoined no_joint

    at : HasToReadBy None None old.cutter reading
    at = stood_by old None None reading (none_there old.line no_line) unjoined has

    first : ReadsLine old.cutter (Ok said) there.cutter
    first = reads at.0

    cutter_is : mid.cutter ≡ there.cutter
    cutter_is = ap (λ (r : RouteLink). r.cutter) put

    announced_so : Announces size there.cutter result new.cutter
    announced_so =
        subst (λ c. Announces size c result new.cutter) cutter_is
        (announces (subst IsBehindLine (sym cutter_is) first.3))

    line_is : new.line ≡ Some said
    line_is = ap (λ (r : RouteLink). r.line) cuts_on ∙ ap (λ (r : RouteLink). r.line) put

    joined_is : new.unjoined ≡ None
    joined_is =
        ap (λ (r : RouteLink). r.unjoined) cuts_on ∙ ap (λ (r : RouteLink). r.unjoined) put
        ∙ ap (λ (r : RouteLink). r.unjoined) cuts ∙ unjoined

    go : (r : Result (Unit {0}) Ran)
        → Announces size there.cutter r new.cutter
        → StandsBehind (end_of r) reading new
    go (Ok done) a =
        stand_by new (Some said) None new.cutter reading line_is joined_is refl
        (due old.cutter there.cutter new.cutter said size reading first (sym some) a at.1)
    go (Err ran.Refused) a =
        too_long old.cutter there.cutter new.cutter said size reading first (sym some) a at.1
    go (Err e) a = absurd a

-- a line is there whose payload is to come
pub begun_by_line : (link : RouteLink) (said : RouteLine) (result : Result (Unit {0}) Ran)
    → link.line ≡ Some said
    → OnOk result (IsBegun link)
begun_by_line link said (Ok done) is = inl (ap is_some is)
begun_by_line link said (Err end) is = tt

-- ---- a line and its payload

pub joins_ok : (said : RouteLine) (bytes : List ℕ) (old new : RouteLink) (frame : RouteFrame)
    → frame_of_line said bytes ≡ Ok frame
    → new ≡ record old { ahead = Some frame }
    → JoinsFrame said bytes old (Ok tt) new
joins_ok said bytes old new frame means is none unjoined nothing at =
    let ahead_is : new.ahead ≡ Some frame = ap (λ (r : RouteLink). r.ahead) is in (
      reading_from a_line old.cutter.unread,
      ap (λ m. reading_behind (frame_told m) old.cutter.unread) means
          ∙ ap (λ a. with_items (map came (option_to_list a)) (reading_from a_line old.cutter.unread)) (sym ahead_is),
      stand_by new None None old.cutter (reading_from a_line old.cutter.unread)
          (ap (λ (r : RouteLink). r.line) is ∙ none) (ap (λ (r : RouteLink). r.unjoined) is ∙ unjoined)
          (ap (λ (r : RouteLink). r.cutter) is) (at, refl),
    )

-- nothing was taken up
as_it_was : (reading : Reading Awaited RouteItem) (ahead : Option RouteFrame)
    → ahead ≡ None
    → reading ≡ with_items (map came (option_to_list ahead)) reading
as_it_was reading ahead none = ap (λ a. with_items (map came (option_to_list a)) reading) (sym none)

pub joins_refused : (said : RouteLine) (bytes : List ℕ) (old new : RouteLink) (fault : RouteFault)
    → frame_of_line said bytes ≡ Err fault
    → new.ahead ≡ old.ahead
    → JoinsFrame said bytes old (Err ran.Refused) new
joins_refused said bytes old new fault means same none unjoined nothing at = (
  reading_behind (frame_told (frame_of_line said bytes)) old.cutter.unread,
  as_it_was (reading_behind (frame_told (frame_of_line said bytes)) old.cutter.unread) new.ahead (same ∙ nothing),
  inl (fault, ap (λ m. reading_behind (frame_told m) old.cutter.unread) means),
)

pub joins_short : (said given : RouteLine) (bytes back : List ℕ) (old new : RouteLink)
    → given ≡ said
    → back ≡ bytes
    → new ≡ record old { unjoined = Some (given, back) }
    → JoinsFrame said bytes old (Err ran.Short) new
joins_short said given bytes back old new line_is bytes_is is none unjoined nothing at = (
  reading_behind (frame_told (frame_of_line said bytes)) old.cutter.unread,
  as_it_was (reading_behind (frame_told (frame_of_line said bytes)) old.cutter.unread) new.ahead
      (ap (λ (r : RouteLink). r.ahead) is ∙ nothing),
  stand_by new None (Some (said, bytes)) old.cutter
      (reading_behind (frame_told (frame_of_line said bytes)) old.cutter.unread)
      (ap (λ (r : RouteLink). r.line) is ∙ none)
      (ap (λ (r : RouteLink). r.unjoined) is ∙ ap (λ l. Some (l, back)) line_is ∙ ap (λ b. Some (said, b)) bytes_is)
      (ap (λ (r : RouteLink). r.cutter) is) (at, refl),
)

-- ---- the end of a frame

no_both : (o : Option RouteLine) (both : RouteLine × List ℕ) (c : CutterState) (reading : Reading Awaited RouteItem)
    → HasToReadBy o (Some both) c reading
    → o ≡ None
no_both None both c reading has = refl
no_both (Some l) both c reading has = absurd has

-- what was not joined is joined now
pub part_joined : (old mid new : RouteLink) (said : RouteLine) (bytes : List ℕ) (result : Result (Unit {0}) Ran)
    → old.unjoined ≡ Some (said, bytes)
    → mid ≡ record old { unjoined = None }
    → JoinsFrame said bytes mid result new
    → ReadsAhead old result new
part_joined old mid new said bytes result both is joins nothing reading has =
    let by : HasToReadBy old.line (Some (said, bytes)) old.cutter reading =
    stood_by old old.line (Some (said, bytes)) reading refl both has in
    let none : old.line ≡ None = no_both old.line (said, bytes) old.cutter reading by in
    let at : HasToReadBy None (Some (said, bytes)) old.cutter reading =
    subst (λ l. HasToReadBy l (Some (said, bytes)) old.cutter reading) none by in
    let cutter_is : mid.cutter ≡ old.cutter = ap (λ (r : RouteLink). r.cutter) is in
    let j = joins (ap (λ (r : RouteLink). r.line) is ∙ none) (ap (λ (r : RouteLink). r.unjoined) is)
    (ap (λ (r : RouteLink). r.ahead) is ∙ nothing)
    (subst (StandsAt route_grammar a_line) (sym cutter_is) at.0) in (
      j.0,
      at.1
          ∙ ap (λ (c : CutterState). reading_behind (frame_told (frame_of_line said bytes)) c.unread) (sym cutter_is)
          ∙ j.1,
      j.2,
    )

line_there : (o : Option RouteLine) → is_some o ≡ true → (l : RouteLine) × (o ≡ Some l)
line_there None is = absurd (cc is)
line_there (Some l) is = (l, refl)

line_begun : (old mid : RouteLink)
    → IsBegun old
    → old.unjoined ≡ None
    → mid ≡ record old { unjoined = None }
    → is_some mid.line ≡ true
line_begun old mid (inl some) none is = ap (λ (r : RouteLink). is_some r.line) is ∙ some
line_begun old mid (inr some) none is = absurd (some_none old.unjoined some none)

-- a payload could not be read
pub part_waits : (old mid new : RouteLink) (end : Ran)
    → old.unjoined ≡ None
    → mid ≡ record old { unjoined = None }
    → IsBegun old
    → Cuts mid new
    → ((text : List ℕ) (size : ℕ)
    → StandsAt route_grammar (payload_of text size) mid.cutter
    → ReadsPayload text size mid.cutter (Err end) new.cutter)
    → ReadsAhead old (Err end) new
part_waits old mid new end unjoined is begun cuts reads nothing reading has = (
  reading,
  as_it_was reading new.ahead
      (ap (λ (r : RouteLink). r.ahead) cuts ∙ ap (λ (r : RouteLink). r.ahead) is ∙ nothing),
  go end (reads at.0 at.1 at.3),
)
  where
    said : RouteLine
    said = (line_there mid.line (line_begun old mid begun unjoined is)).0

    some : mid.line ≡ Some said
    some = (line_there mid.line (line_begun old mid begun unjoined is)).1

    cutter_is : mid.cutter ≡ old.cutter
    cutter_is = ap (λ (r : RouteLink). r.cutter) is

    at : HasToReadBy (Some said) None mid.cutter reading
    at =
        subst (λ c. HasToReadBy (Some said) None c reading) (sym cutter_is)
        (stood_by old (Some said) None reading (sym (ap (λ (r : RouteLink). r.line) is) ∙ some) unjoined has)

    line_is : new.line ≡ Some said
    line_is = ap (λ (r : RouteLink). r.line) cuts ∙ some

    joined_is : new.unjoined ≡ None
    joined_is = ap (λ (r : RouteLink). r.unjoined) cuts ∙ ap (λ (r : RouteLink). r.unjoined) is

    go : (e : Ran)
        → ReadsPayload at.0 at.1 mid.cutter (Err e) new.cutter
        → StandsBehind (Some e) reading new
    go ran.Waits r = (
      stand_by new (Some said) None mid.cutter reading line_is joined_is r.0 at,
      ap (λ (r : Reading Awaited RouteItem). r.items) at.4 ∙ r.1,
    )
    go ran.Refused r = subst IsRefusal (sym at.4) r
    go ran.Short r = stand_by new (Some said) None mid.cutter reading line_is joined_is r at
    go e r = absurd r

-- a payload was read, and is joined to this line
read_behind : (old mid there taken new : RouteLink) (said : RouteLine) (bytes : List ℕ)
    (result : Result (Unit {0}) Ran)
    → old.unjoined ≡ None
    → mid ≡ record old { unjoined = None }
    → there.line ≡ Some said
    → Cuts mid there
    → ((text : List ℕ) (size : ℕ)
    → StandsAt route_grammar (payload_of text size) mid.cutter
    → ReadsPayload text size mid.cutter (Ok bytes) there.cutter)
    → taken ≡ record there { line = None }
    → JoinsFrame said bytes taken result new
    → ReadsAhead old result new
read_behind old mid there taken new said bytes result unjoined is stands cuts reads taken_is joins nothing reading has =
    let some : mid.line ≡ Some said = sym (ap (λ (r : RouteLink). r.line) cuts) ∙ stands in
    let cutter_is : mid.cutter ≡ old.cutter = ap (λ (r : RouteLink). r.cutter) is in
    let at : HasToReadBy (Some said) None mid.cutter reading =
    subst (λ c. HasToReadBy (Some said) None c reading) (sym cutter_is)
    (stood_by old (Some said) None reading (sym (ap (λ (r : RouteLink). r.line) is) ∙ some) unjoined has) in
    let came_so : ReadsPayload at.0 at.1 mid.cutter (Ok bytes) there.cutter = reads at.0 at.1 at.3 in
    let there_is : taken.cutter ≡ there.cutter = ap (λ (r : RouteLink). r.cutter) taken_is in
    let j = joins (ap (λ (r : RouteLink). r.line) taken_is)
    (ap (λ (r : RouteLink). r.unjoined) taken_is ∙ ap (λ (r : RouteLink). r.unjoined) cuts
    ∙ ap (λ (r : RouteLink). r.unjoined) is)
    (ap (λ (r : RouteLink). r.ahead) taken_is ∙ ap (λ (r : RouteLink). r.ahead) cuts
    ∙ ap (λ (r : RouteLink). r.ahead) is ∙ nothing)
    (subst (StandsAt route_grammar a_line) (sym there_is) came_so.1) in
    let tells : reading ≡ reading_behind (frame_told (frame_meaning at.0 bytes)) there.cutter.unread =
    at.4 ∙ came_so.0 in
    let means : reading ≡ reading_behind (frame_told (frame_of_line said bytes)) there.cutter.unread =
    tells ∙ ap (λ m. reading_behind (frame_told m) there.cutter.unread) (frame_is at.0 bytes said at.2) in
    let stays : reading ≡ reading_behind (frame_told (frame_of_line said bytes)) taken.cutter.unread =
    means ∙ ap (λ (c : CutterState). reading_behind (frame_told (frame_of_line said bytes)) c.unread) (sym there_is) in
    (j.0, stays ∙ j.1, j.2)

-- a payload was read, and is joined to its line, which is there still
pub part_read : (old mid there new : RouteLink) (bytes : List ℕ) (result : Result (Unit {0}) Ran)
    → old.unjoined ≡ None
    → mid ≡ record old { unjoined = None }
    → IsBegun old
    → Cuts mid there
    → ((text : List ℕ) (size : ℕ)
    → StandsAt route_grammar (payload_of text size) mid.cutter
    → ReadsPayload text size mid.cutter (Ok bytes) there.cutter)
    → IfSome there.line (λ said. JoinsFrame said bytes (record there { line = None }) result new)
    → ReadsAhead old result new
part_read old mid there new bytes result unjoined is begun cuts reads joins =
    let line_is : there.line ≡ mid.line = ap (λ (r : RouteLink). r.line) cuts in
    let stands = line_there there.line (ap is_some line_is ∙ line_begun old mid begun unjoined is) in
    read_behind old mid there (record there { line = None }) new stands.0 bytes result unjoined is stands.1 cuts reads
    refl
    (subst (λ o. IfSome o (λ said. JoinsFrame said bytes (record there { line = None }) result new)) stands.1 joins)

-- ---- frame by frame

pub frames_none : (link : RouteLink) → ReadsFrames None [] link link
frames_none link reading has = (reading, refl, has)

-- these first, and then those
pub read_both : (one two : List RouteFrame) (all mid rest : Reading Awaited RouteItem)
    → all ≡ with_items (map came one) mid
    → mid ≡ with_items (map came two) rest
    → all ≡ with_items (map came (one ++ two)) rest
read_both one two all mid rest first second =
    first ∙ ap (with_items (map came one)) second ∙ with_items-twice (map came one) (map came two) rest
    ∙ ap (λ items. with_items items rest) (sym (map-append came one two))

pub frames_join : (end : Option Ran) (one two : List RouteFrame) (old mid new : RouteLink)
    → ReadsFrames None one old mid
    → ReadsFrames end two mid new
    → ReadsFrames end (one ++ two) old new
frames_join end one two old mid new first second reading has =
    let f = first reading has in
    let s = second f.0 f.2 in (s.0, read_both one two reading f.0 s.0 f.1 s.1, s.2)

-- ---- a frame, from its beginning to its end

-- it could not be begun
pub reads_not_begun : (old new : RouteLink) (end : Ran)
    → new ≡ record old { cutter = new.cutter; line = new.line; unjoined = new.unjoined }
    → ReadsFrames (Some end) [] old new
    → ReadsAhead old (Err end) new
reads_not_begun old new end same reads nothing =
    subst (λ frames. ReadsFrames (Some end) frames old new)
    (sym (ap option_to_list (ap (λ (r : RouteLink). r.ahead) same ∙ nothing))) reads

pub reads_begun : (old mid new : RouteLink) (result : Result (Unit {0}) Ran)
    → mid ≡ record old { cutter = mid.cutter; line = mid.line; unjoined = mid.unjoined }
    → ReadsFrames None [] old mid
    → ReadsAhead mid result new
    → ReadsAhead old result new
reads_begun old mid new result same first second nothing =
    frames_join (end_of result) [] (option_to_list new.ahead) old mid new first
    (second (ap (λ (r : RouteLink). r.ahead) same ∙ nothing))

-- ---- more bytes

more_behind : (m : Meaning RouteFrame) (unread bytes : List ℕ)
    → read_on route_grammar (reading_behind (frame_told m) unread) bytes
    ≡ reading_behind (frame_told m) (unread ++ bytes)
more_behind (Ok frame) unread bytes =
    let r : Reading Awaited RouteItem = reading_from a_line unread in
    sym (with_items-twice (came frame ∷ []) r.items (continuation route_grammar r.end bytes))
    ∙ ap (with_items (came frame ∷ [])) (read_in_two route_grammar a_line unread bytes)
more_behind (Err fault) unread bytes = refl

fed : (awaited : Awaited) (c : CutterState) (bytes : List ℕ)
    → StandsAt route_grammar awaited c
    → StandsAt route_grammar awaited (record c { unread = c.unread ++ bytes })
fed awaited c bytes at =
    record { expected = at.expected; fault = at.fault; line_max = at.line_max; payload_max = at.payload_max }

more_by : (l : Option RouteLine) (u : Option (RouteLine × List ℕ)) (c : CutterState) (bytes : List ℕ)
    (reading : Reading Awaited RouteItem)
    → HasToReadBy l u c reading
    → HasToReadBy l u (record c { unread = c.unread ++ bytes }) (read_on route_grammar reading bytes)
more_by None None c bytes reading has = (
  fed a_line c bytes has.0,
  ap (λ (r : Reading Awaited RouteItem). read_on route_grammar r bytes) has.1
      ∙ read_in_two route_grammar a_line c.unread bytes,
)
more_by (Some l) None c bytes reading has = (
  has.0,
  has.1,
  has.2,
  fed (payload_of has.0 has.1) c bytes has.3,
  ap (λ (r : Reading Awaited RouteItem). read_on route_grammar r bytes) has.4
      ∙ read_in_two route_grammar (payload_of has.0 has.1) c.unread bytes,
)
more_by None (Some both) c bytes reading has = (
  fed a_line c bytes has.0,
  ap (λ (r : Reading Awaited RouteItem). read_on route_grammar r bytes) has.1
      ∙ more_behind (frame_of_line both.0 both.1) c.unread bytes,
)
more_by (Some l) (Some both) c bytes reading has = absurd has

pub has_more : (old new : RouteLink) (before after : Option (List ℕ)) (most count : ℕ)
    → Cuts old new
    → new.cutter ≡ record old.cutter { unread = new.cutter.unread }
    → Gains old.cutter.unread new.cutter.unread before after most count
    → HasMore old new before after count
has_more old new before after most count cuts state gains = record {
  bytes = gains.bytes;
  many = gains.count;
  consumed = gains.consumed;
  more =
      λ reading has.
      stand_by new old.line old.unjoined (record old.cutter { unread = old.cutter.unread ++ gains.bytes })
      (read_on route_grammar reading gains.bytes) (ap (λ (r : RouteLink). r.line) cuts)
      (ap (λ (r : RouteLink). r.unjoined) cuts)
      (state ∙ ap (λ u. record old.cutter { unread = u }) gains.grown)
      (more_by old.line old.unjoined old.cutter gains.bytes reading has);
}

-- ---- a new cutter

stands_new : StandsAt route_grammar a_line (new_cutter ROUTE_LINE MAX_SNAPSHOT)
stands_new = record { expected = refl; fault = refl; line_max = refl; payload_max = refl }

-- it has nothing to read
pub begins_new : (l : Option RouteLine) (u : Option (RouteLine × List ℕ)) (c : CutterState)
    → l ≡ None
    → u ≡ None
    → c ≡ new_cutter ROUTE_LINE MAX_SNAPSHOT
    → HasToReadBy l u c (reading_from a_line [])
begins_new l u c line_is joined_is cutter_is =
    subst (λ x. HasToReadBy x u c (reading_from a_line [])) (sym line_is)
    (subst (λ x. HasToReadBy None x c (reading_from a_line [])) (sym joined_is)
    (subst (λ x. HasToReadBy None None x (reading_from a_line [])) (sym cutter_is) (stands_new, refl)))

-- where no handshake is to come first
pub begins_at_once : {T : Type 0} (proof : Option T) (is_proving : Bool) (c : CutterState)
    → is_proving ≡ is_some proof
    → OnFalse is_proving (c ≡ new_cutter ROUTE_LINE MAX_SNAPSHOT)
    → IfNone proof (HasToReadBy None None c (reading_from a_line []))
begins_at_once None is_proving c is fresh =
    begins_new None None c refl refl (subst (λ b. OnFalse b (c ≡ new_cutter ROUTE_LINE MAX_SNAPSHOT)) is fresh)
begins_at_once (Some handshake) is_proving c is fresh = tt

empty_of : (bytes : List ℕ) → length bytes ≡ 0 → bytes ≡ []
empty_of [] is = refl
empty_of (x ∷ bytes) is = absurd (cc is)

-- where all was read, a new one reads the same
pub rests : {T : Type 0} (proof : Option T) (is_proving : Bool) (l : Option RouteLine)
    (u : Option (RouteLine × List ℕ)) (old new : CutterState) (reading : Reading Awaited RouteItem)
    → is_proving ≡ is_some proof
    → OnFalse is_proving (new ≡ new_cutter ROUTE_LINE MAX_SNAPSHOT)
    → l ≡ None
    → u ≡ None
    → length old.unread ≡ 0
    → proof ≡ None
    → HasToReadBy l u old reading
    → HasToReadBy l u new reading
rests proof is_proving l u old new reading is fresh line_is joined_is empty none has =
    let open_now : is_proving ≡ false = is ∙ ap is_some none in
    let cutter_is : new ≡ new_cutter ROUTE_LINE MAX_SNAPSHOT =
    subst (λ b. OnFalse b (new ≡ new_cutter ROUTE_LINE MAX_SNAPSHOT)) open_now fresh in
    let at : HasToReadBy None None old reading =
    subst (λ x. HasToReadBy None x old reading) joined_is (subst (λ x. HasToReadBy x u old reading) line_is has) in
    subst (λ r. HasToReadBy l u new r) (sym (at.1 ∙ ap (reading_from a_line) (empty_of old.unread empty)))
    (begins_new l u new line_is joined_is cutter_is)
