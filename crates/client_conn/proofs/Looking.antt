-- What a look at a client's stream finds.
use Rattle.std.proofs.Common.{◌≡◌, ℕ, suc, ◌+◌, ◌<◌, ◌≤◌, Bool, true, false, List, [], ◌∷◌, length, drop, Option, Some, None, Result, Ok, Err, refl, ap, sym, ◌∙◌, subst, arith, append-nil, length-drop}
use Rattle.std.specs.Prelude.{if◌then◌else◌}
use Rattle.subj.specs.Messages.{Content, Body, are_headers}
use Rattle.subj.specs.declared.failures.Failure.{Failure}
use Rattle.subj.specs.declared.failures.Failure.TheVariants.{Refused}
use Rattle.subj.specs.declared.limits.TheConstants.{MAX_PAYLOAD}
use Rattle.wire_cut.specs.Cut.{Answer, CutterState, StreamPiece, line, bytes_of, cut_of, after_answer, after_next, after_expect, after_refusal, expect_fault, IsWithinUnread}
use Rattle.wire_cut.specs.declared.faults.CutFault.{CutFault}
use Rattle.wire_cut.specs.Reading.{End, waits, closed, Reading, reading_of, with_items, last_reading, Told, going_on, ending, Found, nothing, something, the_end, finding, finding_by, finding_before, finding_next, size_fault, reading_by_look, StandsAt}
use Rattle.wire_cut.proofs.CutLemmas.{cut_of-piece_length}
use Rattle.wire_cut.proofs.ReadingLemmas.{cuts_alike, reads_by_looks, waits_for_more}
use Rattle.client_frames.specs.declared.client_line.Awaited.{Awaited}
use Rattle.client_frames.specs.declared.client_line.Awaited.TheVariants as awaits
use Rattle.client_frames.specs.declared.client_line.PubHead.{PubHead}
use Rattle.client_frames.specs.Lines.{Meaning, ClientLineMeans, line_meaning}
use Rattle.client_frames.specs.declared.client_line.ClientLine.{ClientLine}
use Rattle.client_frames.specs.declared.client_line.ClientLine.TheVariants.{Connect, Pub, PubBad, Sub, Unsub, Ping, Pong}
use Rattle.client_frames.specs.declared.err_texts.ErrText.{ErrText}
use Rattle.client_frames.specs.declared.faults.LineFault.{LineFault}
use Rattle.client_frames.specs.declared.faults.LineFault.TheVariants.{BadSubject, BadHeader}
use Rattle.client_frames.specs.ErrTexts.{text_closes, line_fault_text, cut_fault_text}
use Rattle.client_frames.specs.Streams.{StreamItem, asked, published, refused, unreadable, client_grammar, headers_awaited, block_in, payload_in, piece_told, line_told, command_told, refusal_told}
use Rattle.client_conn.specs.declared.ask.ClientAction.TheVariants.{Publish}
use Rattle.client_conn.specs.declared.conn.ItemReader.{ItemReader}
use Rattle.client_conn.specs.declared.conn.Looked.{Looked}
use Rattle.client_conn.specs.declared.conn.Looked.TheVariants.{Waits, Announced, Told as told_item}
use Rattle.client_conn.specs.Items.{OpenState, publication_of, with_confirmation, message_of, body_in, refusal_asks, asked_by}
use Rattle.client_conn.specs.Streams.{end_of, reading_at, left_of, IsInStep, IsBehindLine, message_with, FoundAlone, TellsFound, Moves, HasMoved, HasLooked, HasTaken, HasNone}

-- ---- what a look finds, as what is told

-- whatever comes behind, and so if nothing does
looked : (awaited : Awaited) (unread : List ℕ) (f : Found Awaited StreamItem)
    → finding client_grammar awaited unread ≡ f
    → reading_of client_grammar awaited unread ≡ reading_by_look client_grammar awaited unread [] f
looked awaited unread f is =
    ap (reading_of client_grammar awaited) (sym (append-nil unread))
    ∙ reads_by_looks client_grammar awaited unread []
    ∙ ap (reading_by_look client_grammar awaited unread []) is

found_items : (awaited : Awaited) (unread : List ℕ) (items : List StreamItem) (next : Awaited) (rest : List ℕ)
    → finding client_grammar awaited unread ≡ something items next rest
    → reading_of client_grammar awaited unread ≡ with_items items (reading_of client_grammar next rest)
found_items awaited unread items next rest is =
    looked awaited unread (something items next rest) is
    ∙ ap (λ l. with_items items (reading_of client_grammar next l)) (append-nil rest)

found_alone : (awaited : Awaited) (unread : List ℕ) (told : StreamItem) (f : Found Awaited StreamItem)
    (new : End Awaited)
    → finding client_grammar awaited unread ≡ f
    → FoundAlone told f new
    → reading_of client_grammar awaited unread ≡ with_items (told ∷ []) (reading_at new)
found_alone awaited unread told nothing new is alone = absurd alone
found_alone awaited unread told (something items next rest) new is alone =
    found_items awaited unread items next rest is
    ∙ ap (λ l. with_items l (reading_of client_grammar next rest)) alone.0
    ∙ ap (λ e. with_items (told ∷ []) (reading_at e)) (sym alone.1)
found_alone awaited unread told (the_end items) new is alone =
    looked awaited unread (the_end items) is
    ∙ ap (λ l. let r : Reading Awaited StreamItem = last_reading l in r) alone.0
    ∙ ap (λ e. with_items (told ∷ []) (reading_at e)) (sym alone.1)

pub takes : (before stand : OpenState) (old new : End Awaited)
    → HasLooked told_item before stand old new
    → HasTaken before stand old new
takes before stand (waits awaited unread) new has = record {
  told = has.tells.0;
  stands = has.tells.1;
  front = found_alone awaited unread has.tells.0 (finding client_grammar awaited unread) new refl has.tells.2;
}
takes before stand closed new has = absurd has

-- a look that finds anything leaves less
pub lessens_at_an_item : (before stand : OpenState) (old new : End Awaited)
    → HasLooked told_item before stand old new
    → left_of new < left_of old
lessens_at_an_item before stand (waits awaited unread) new has = has.moves
lessens_at_an_item before stand closed new has = absurd has

pub lessens_at_a_line : (before stand : OpenState) (old new : End Awaited)
    → HasLooked Announced before stand old new
    → left_of new < left_of old
lessens_at_a_line before stand (waits awaited unread) new has = has.moves
lessens_at_a_line before stand closed new has = absurd has

pub passes : (before stand : OpenState) (old new : End Awaited)
    → HasLooked Announced before stand old new
    → (reading_at new ≡ reading_at old) × (stand ≡ before)
passes before stand (waits awaited unread) new has =
    (ap reading_at has.tells.3 ∙ sym (found_items awaited unread [] has.tells.0 has.tells.1 has.tells.2), has.tells.4)
passes before stand closed new has = absurd has

pub starves : (before stand : OpenState) (old new : End Awaited)
    → HasLooked Waits before stand old new
    → HasNone old new × (stand ≡ before)
starves before stand (waits awaited unread) new has = (
  record {
    same = ap reading_at has.moves;
    none =
        ap (λ e. (reading_at e).items) has.moves
        ∙ ap (λ r. r.items) (waits_for_more client_grammar awaited unread has.tells.0);
  },
  has.tells.1,
)
starves before stand closed new has = (
  record { same = ap reading_at has.0; none = ap (λ e. (reading_at e).items) has.0 },
  has.1,
)

-- ---- what the cutter gives, as a look

pub finds : (awaited : Awaited) (cutter : CutterState) (answer : Answer)
    → StandsAt client_grammar awaited cutter
    → cut_of cutter ≡ answer
    → finding client_grammar awaited cutter.unread ≡ finding_by client_grammar awaited cutter.unread answer
finds awaited cutter answer stands is =
    ap (finding_by client_grammar awaited cutter.unread) (sym (cuts_alike client_grammar awaited cutter stands) ∙ is)

behind_piece : (cutter : CutterState) (piece : StreamPiece)
    → cut_of cutter ≡ Ok (Some piece)
    → (after_next cutter).unread ≡ drop (length (bytes_of piece) + 2) cutter.unread
behind_piece cutter piece is = ap (λ a. (after_answer cutter a).unread) is

finds_piece : (awaited : Awaited) (cutter : CutterState) (piece : StreamPiece)
    → StandsAt client_grammar awaited cutter
    → cut_of cutter ≡ Ok (Some piece)
    → finding client_grammar awaited cutter.unread
    ≡ finding_before client_grammar (after_next cutter).unread (piece_told awaited (bytes_of piece))
finds_piece awaited cutter piece stands is =
    finds awaited cutter (Ok (Some piece)) stands is
    ∙ ap (λ l. finding_before client_grammar l (piece_told awaited (bytes_of piece)))
    (sym (behind_piece cutter piece is))

same_rest : (items first : List StreamItem) (next other : Awaited) (rest behind : List ℕ)
    → something items next behind ≡ something first other rest
    → rest ≡ behind
same_rest items first next other rest behind is = cc

next_within : (looks : Looked) (s t : OpenState) (items : List StreamItem) (next : Awaited) (behind : List ℕ)
    (fault : Option CutFault) (new : End Awaited)
    → TellsFound looks s t (finding_next client_grammar items next behind fault) new
    → left_of new ≤ suc (length behind)
next_within Waits s t items next behind None new tells = let is = tells.0 in absurd (cc)
next_within Waits s t items next behind (Some fault) new tells = let is = tells.0 in absurd (cc)
next_within Announced s t items next behind None new tells =
    let same : tells.1 ≡ behind = same_rest items [] next tells.0 tells.1 behind tells.2 in
    subst (λ e. left_of e ≤ suc (length behind)) (sym tells.3)
    (subst (λ l. suc (length l) ≤ suc (length behind)) (sym same) (omega arith))
next_within Announced s t items next behind (Some fault) new tells = let is = tells.2 in absurd (cc)
next_within told_item s t items next behind None new tells =
    subst (λ e. left_of e ≤ suc (length behind)) (sym tells.2.1) (omega arith)
next_within told_item s t items next behind (Some fault) new tells =
    subst (λ e. left_of e ≤ suc (length behind)) (sym tells.2.1) (omega arith)

before_within : (looks : Looked) (s t : OpenState) (behind : List ℕ) (told : Told Awaited StreamItem)
    (new : End Awaited)
    → TellsFound looks s t (finding_before client_grammar behind told) new
    → left_of new ≤ suc (length behind)
before_within looks s t behind (going_on items next) new tells = next_within looks s t items next behind _ new tells
before_within Waits s t behind (ending items) new tells = let is = tells.0 in absurd (cc)
before_within Announced s t behind (ending items) new tells = let is = tells.2 in absurd (cc)
before_within told_item s t behind (ending items) new tells =
    subst (λ e. left_of e ≤ suc (length behind)) (sym tells.2.1) (omega arith)

moves_by : (looks : Looked) (s t : OpenState) (f : Found Awaited StreamItem) (old new : End Awaited)
    → TellsFound looks s t f new
    → ¬ (f ≡ nothing)
    → left_of new < left_of old
    → Moves looks old new
moves_by Waits s t f old new tells some less = absurd (some tells.0)
moves_by Announced s t f old new tells some less = less
moves_by told_item s t f old new tells some less = less

before_some : (behind : List ℕ) (told : Told Awaited StreamItem)
    → ¬ (finding_before client_grammar behind told ≡ nothing)
before_some behind (going_on items next) is =
    next_some (size_fault client_grammar.payload_max (client_grammar.size next)) is
  where
    next_some : (fault : Option CutFault) → ¬ (finding_next client_grammar items next behind fault ≡ nothing)
    next_some None is = cc
    next_some (Some fault) is = cc
before_some behind (ending items) is = cc

reading_end : (r : ItemReader) → r.ended ≡ false → end_of r ≡ waits r.awaited r.cutter.unread
reading_end r reads = ap (λ b. let e : End Awaited = if b then closed else waits r.awaited r.cutter.unread in e) reads

-- a piece was used up, and what it tells was found
pub moved : (looks : Looked) (s t : OpenState) (old : ItemReader) (piece : StreamPiece) (new : End Awaited)
    → IsInStep old
    → old.ended ≡ false
    → cut_of old.cutter ≡ Ok (Some piece)
    → TellsFound looks s t
    (finding_before client_grammar (after_next old.cutter).unread (piece_told old.awaited (bytes_of piece))) new
    → HasMoved looks s t (finding client_grammar old.awaited old.cutter.unread) (end_of old) new
moved looks s t old piece new step reads is tells =
    let told = piece_told old.awaited (bytes_of piece) in
    let within : left_of new ≤ suc (length (drop (length (bytes_of piece) + 2) old.cutter.unread)) =
    subst (λ l. left_of new ≤ suc (length l)) (behind_piece old.cutter piece is)
    (before_within looks s t (after_next old.cutter).unread told new tells) in
    let there : IsWithinUnread piece old.cutter = cut_of-piece_length old.cutter piece is in
    let less : left_of new < left_of (waits old.awaited old.cutter.unread) =
    omega (arith, within, there, length-drop (length (bytes_of piece) + 2) old.cutter.unread) in
    record {
      tells =
          subst (λ f. TellsFound looks s t f new)
          (sym (finds_piece old.awaited old.cutter piece (step.stands reads) is)) tells;
      moves =
          subst (λ e. Moves looks e new) (sym (reading_end old reads))
          (moves_by looks s t _ (waits old.awaited old.cutter.unread) new tells
          (before_some (after_next old.cutter).unread told) less);
    }

-- ---- what ends a stream, and what does not

-- one item alone was found, and it is the last
ends_with : (s t : OpenState) (item : StreamItem) (f : Found Awaited StreamItem) (new : End Awaited)
    → f ≡ the_end (item ∷ [])
    → t ≡ asked_by item s.options
    → new ≡ closed
    → TellsFound told_item s t f new
ends_with s t item f new is stands ended = (item, stands, subst (λ g. FoundAlone item g new) (sym is) (refl, ended))

-- one item alone was found, and a line is due behind it
goes_on_with : (s t : OpenState) (item : StreamItem) (f : Found Awaited StreamItem) (rest : List ℕ) (new : End Awaited)
    → f ≡ something (item ∷ []) awaits.Line rest
    → t ≡ asked_by item s.options
    → new ≡ waits awaits.Line rest
    → TellsFound told_item s t f new
goes_on_with s t item f rest new is stands there = (
  item,
  stands,
  subst (λ g. FoundAlone item g new) (sym is) (refl, there),
)

unreadable_asked : (s t : OpenState) (fault : CutFault) (text : ErrText)
    → text ≡ cut_fault_text fault
    → t ≡ record s { asks = refusal_asks text }
    → t ≡ asked_by (unreadable fault) s.options
unreadable_asked s t fault text is stands =
    stands ∙ ap (λ x. let r : OpenState = record s { asks = refusal_asks x } in r) is

refused_asked : (s t : OpenState) (fault : LineFault) (text : ErrText)
    → text ≡ line_fault_text fault
    → t ≡ record s { asks = refusal_asks text }
    → t ≡ asked_by (refused fault) s.options
refused_asked s t fault text is stands =
    stands ∙ ap (λ x. let r : OpenState = record s { asks = refusal_asks x } in r) is

is_closed : (old new : ItemReader) → new ≡ record old { ended = true } → end_of new ≡ closed
is_closed old new is = ap end_of is

behind_end : (r : ItemReader) → IsBehindLine r → end_of r ≡ waits awaits.Line r.cutter.unread
behind_end r behind =
    reading_end r behind.reads ∙ ap (λ a. let e : End Awaited = waits a r.cutter.unread in e) behind.awaits_line

-- bytes that cannot be read
pub unread_moved : (looks : Looked) (s t : OpenState) (old new : ItemReader) (fault : CutFault) (text : ErrText)
    → IsInStep old
    → old.ended ≡ false
    → cut_of old.cutter ≡ Err fault
    → looks ≡ told_item
    → text ≡ cut_fault_text fault
    → t ≡ record s { asks = refusal_asks text }
    → new ≡ record old { ended = true }
    → HasMoved looks s t (finding client_grammar old.awaited old.cutter.unread) (end_of old) (end_of new)
unread_moved looks s t old new fault text step reads is tells told stands ended =
    subst (λ l. HasMoved l s t (finding client_grammar old.awaited old.cutter.unread) (end_of old) (end_of new))
    (sym tells) (record {
      tells =
          ends_with s t (unreadable fault) (finding client_grammar old.awaited old.cutter.unread) (end_of new)
          (finds old.awaited old.cutter (Err fault) (step.stands reads) is)
          (unreadable_asked s t fault text told stands) (is_closed old new ended);
      moves =
          subst (λ e. left_of (end_of new) < left_of e) (sym (reading_end old reads))
          (subst (λ e. left_of e < left_of (waits old.awaited old.cutter.unread)) (sym (is_closed old new ended))
          (omega arith));
    })

-- a line that is refused
pub refused_to_the_end : (looks : Looked) (s t : OpenState) (old new : ItemReader) (fault : LineFault) (text : ErrText)
    → text_closes text ≡ true
    → looks ≡ told_item
    → text ≡ line_fault_text fault
    → t ≡ record s { asks = refusal_asks text }
    → new ≡ record old { ended = true }
    → TellsFound looks s t (finding_before client_grammar old.cutter.unread (refusal_told fault)) (end_of new)
refused_to_the_end looks s t old new fault text closes tells told stands ended =
    let is : finding_before client_grammar old.cutter.unread (refusal_told fault) ≡ the_end (refused fault ∷ []) =
    ap (λ b.
    finding_before client_grammar old.cutter.unread
    (if b then ending (refused fault ∷ []) else going_on (refused fault ∷ []) awaits.Line))
    (ap text_closes (sym told) ∙ closes) in
    subst (λ l. TellsFound l s t (finding_before client_grammar old.cutter.unread (refusal_told fault)) (end_of new))
    (sym tells)
    (ends_with s t (refused fault) _ (end_of new) is (refused_asked s t fault text told stands)
    (is_closed old new ended))

pub refused_and_read_on : (s t : OpenState) (r : ItemReader) (fault : LineFault) (text : ErrText)
    → IsBehindLine r
    → text_closes text ≡ false
    → text ≡ line_fault_text fault
    → t ≡ record s { asks = refusal_asks text }
    → TellsFound told_item s t (finding_before client_grammar r.cutter.unread (refusal_told fault)) (end_of r)
refused_and_read_on s t r fault text behind open_still told stands =
    let is : finding_before client_grammar r.cutter.unread (refusal_told fault)
    ≡ something (refused fault ∷ []) awaits.Line r.cutter.unread = ap (λ b.
    finding_before client_grammar r.cutter.unread
    (if b then ending (refused fault ∷ []) else going_on (refused fault ∷ []) awaits.Line))
    (ap text_closes (sym told) ∙ open_still) in
    goes_on_with s t (refused fault) _ r.cutter.unread (end_of r) is (refused_asked s t fault text told stands)
    (behind_end r behind)

-- a command that announces nothing
pub command_asked : (s t : OpenState) (r : ItemReader) (command : ClientLine)
    → IsBehindLine r
    → ((head : PubHead) → ¬ (command ≡ Pub head))
    → ((size : ℕ) → ¬ (command ≡ PubBad size))
    → t ≡ asked_by (asked command) s.options
    → TellsFound told_item s t (finding_before client_grammar r.cutter.unread (command_told command)) (end_of r)
command_asked s t r command behind no_pub no_bad stands =
    goes_on_with s t (asked command) _ r.cutter.unread (end_of r) (by_command command no_pub no_bad) stands
    (behind_end r behind)
  where
    by_command : (command : ClientLine)
        → ((head : PubHead) → ¬ (command ≡ Pub head))
        → ((size : ℕ) → ¬ (command ≡ PubBad size))
        → finding_before client_grammar r.cutter.unread (command_told command)
        ≡ something (asked command ∷ []) awaits.Line r.cutter.unread
    by_command (Connect options) no_pub no_bad = refl
    by_command (Pub head) no_pub no_bad = absurd (no_pub head refl)
    by_command (PubBad size) no_pub no_bad = absurd (no_bad size refl)
    by_command (Sub pattern queue sid) no_pub no_bad = refl
    by_command (Unsub sid max) no_pub no_bad = refl
    by_command Ping no_pub no_bad = refl
    by_command Pong no_pub no_bad = refl

-- a payload is announced that is too large
pub too_large : (looks : Looked) (s t : OpenState) (r new : ItemReader) (awaited : Awaited) (size : ℕ)
    (fault : CutFault) (text : ErrText)
    → IsBehindLine r
    → expect_fault r.cutter.fault r.cutter.payload_max size ≡ Some fault
    → looks ≡ told_item
    → text ≡ cut_fault_text fault
    → t ≡ record s { asks = refusal_asks text }
    → end_of new ≡ closed
    → TellsFound looks s t (finding_next client_grammar [] awaited r.cutter.unread (expect_fault None MAX_PAYLOAD size))
    (end_of new)
too_large looks s t r new awaited size fault text behind is tells told stands ended =
    let some : expect_fault None MAX_PAYLOAD size ≡ Some fault =
    ap (λ f. expect_fault f MAX_PAYLOAD size) (sym behind.stands.fault)
    ∙ ap (λ m. expect_fault r.cutter.fault m size) (sym behind.stands.payload_max)
    ∙ is in
    subst (λ l.
    TellsFound l s t (finding_next client_grammar [] awaited r.cutter.unread (expect_fault None MAX_PAYLOAD size))
    (end_of new))
    (sym tells)
    (ends_with s t (unreadable fault) _ (end_of new) (ap (finding_next client_grammar [] awaited r.cutter.unread) some)
    (unreadable_asked s t fault text told stands) ended)

-- ---- lines

pub line_moved : (looks : Looked) (s t : OpenState) (old mid : ItemReader) (bytes : List ℕ) (meaning : Meaning)
    (new : End Awaited)
    → IsInStep old
    → old.ended ≡ false
    → old.awaited ≡ awaits.Line
    → cut_of old.cutter ≡ Ok (Some (line bytes))
    → mid ≡ record old { cutter = after_next old.cutter }
    → line_meaning bytes ≡ meaning
    → TellsFound looks s t (finding_before client_grammar mid.cutter.unread (line_told meaning)) new
    → HasMoved looks s t (finding client_grammar old.awaited old.cutter.unread) (end_of old) new
line_moved looks s t old mid bytes meaning new step reads due is same means tells =
    moved looks s t old (line bytes) new step reads is
    (subst
    (λ a. TellsFound looks s t (finding_before client_grammar (after_next old.cutter).unread (piece_told a bytes)) new)
    (sym due)
    (subst (λ m. TellsFound looks s t (finding_before client_grammar (after_next old.cutter).unread (line_told m)) new)
    (sym means)
    (subst (λ l. TellsFound looks s t (finding_before client_grammar l (line_told meaning)) new)
    (ap (λ r. r.cutter.unread) same) tells)))

pub means_refused : (meaning : Meaning) (result : Result ClientLine (Failure LineFault)) (failure : Failure LineFault)
    (fault : LineFault)
    → result ≡ Err failure
    → failure ≡ Refused fault
    → ClientLineMeans meaning result
    → meaning ≡ Err fault
means_refused meaning result failure fault is refuses means =
    subst (λ f. ClientLineMeans meaning (Err f)) refuses (subst (ClientLineMeans meaning) is means)

-- a payload is announced that is not too large
pub announced : (s : OpenState) (r : ItemReader) (cutter : CutterState) (awaited : Awaited) (size : ℕ)
    → IsBehindLine r
    → expect_fault r.cutter.fault r.cutter.payload_max size ≡ None
    → cutter ≡ after_expect r.cutter size
    → TellsFound Announced s s
    (finding_next client_grammar [] awaited r.cutter.unread (expect_fault None MAX_PAYLOAD size))
    (end_of (record r { cutter = cutter; awaited = awaited }))
announced s r cutter awaited size behind fits is =
    let none : expect_fault None MAX_PAYLOAD size ≡ None =
    ap (λ f. expect_fault f MAX_PAYLOAD size) (sym behind.stands.fault)
    ∙ ap (λ m. expect_fault r.cutter.fault m size) (sym behind.stands.payload_max)
    ∙ fits in
    let after : cutter.unread ≡ r.cutter.unread = ap (λ c. c.unread) (is ∙ ap (after_refusal r.cutter size) fits) in (
      awaited,
      r.cutter.unread,
      ap (finding_next client_grammar [] awaited r.cutter.unread) none,
      ap (λ b. let e : End Awaited = if b then closed else waits awaited cutter.unread in e) behind.reads
          ∙ ap (λ l. let e : End Awaited = waits awaited l in e) after,
      refl,
    )

-- ---- payloads

-- the item that the bytes tell, whether their header block is good or not
abbrev item_by : Bool → PubHead → List ℕ → StreamItem
item_by good head bytes = if good then published head bytes else refused BadHeader

item_found : (good : Bool) (head : PubHead) (awaited : Awaited) (bytes rest : List ℕ)
    → awaited ≡ awaits.Payload head
    → are_headers (block_in (headers_awaited awaited) bytes) ≡ good
    → finding_before client_grammar rest (piece_told awaited bytes)
    ≡ something (item_by good head bytes ∷ []) awaits.Line rest
item_found good head awaited bytes rest due is =
    ap (λ a. finding_before client_grammar rest (piece_told a bytes)) due
    ∙ ap (λ b. let f : Found Awaited StreamItem = something (item_by b head bytes ∷ []) awaits.Line rest in f)
    (ap (λ a. are_headers (block_in (headers_awaited a) bytes)) (sym due) ∙ is)

abbrev body_by : Bool → Option ℕ → List ℕ → Option Body
body_by good headers bytes =
    if good then Some (record { headers = block_in headers bytes; payload = payload_in headers bytes }) else None

-- there is a body just where the header block is good, and it is what the bytes are
body_tells : (good : Bool) (headers : Option ℕ) (bytes : List ℕ) (body : Body) → Some body ≡ body_by good headers bytes
    → (good ≡ true) × (body ≡ record { headers = block_in headers bytes; payload = payload_in headers bytes })
body_tells true headers bytes body is = (refl, cc)
body_tells false headers bytes body is = absurd (cc)

no_body_tells : (good : Bool) (headers : Option ℕ) (bytes : List ℕ) → None ≡ body_by good headers bytes → good ≡ false
no_body_tells true headers bytes is = absurd (cc)
no_body_tells false headers bytes is = refl

pub published_found : (s t : OpenState) (head : PubHead) (awaited : Awaited) (bytes rest : List ℕ) (body : Body)
    (message : Content) (new : End Awaited)
    → awaited ≡ awaits.Payload head
    → Some body ≡ body_in (headers_awaited awaited) bytes
    → message ≡ message_with head body
    → t ≡ record s { asks = with_confirmation s.options (Publish (publication_of message s.options) ∷ []) }
    → new ≡ waits awaits.Line rest
    → TellsFound told_item s t (finding_before client_grammar rest (piece_told awaited bytes)) new
published_found s t head awaited bytes rest body message new due made is stands there =
    let tells = body_tells _ (headers_awaited awaited) bytes body made in
    let whole : message ≡ message_of head bytes = is ∙ ap (message_with head) tells.1
    ∙ ap (λ a.
    let m : Content = record {
      subject = head.subject;
      reply = head.reply;
      headers = block_in (headers_awaited a) bytes;
      payload = payload_in (headers_awaited a) bytes;
    } in
    m)
    due in
    goes_on_with s t (published head bytes) _ rest new (item_found true head awaited bytes rest due tells.0)
    (stands
    ∙ ap (λ m.
    let r : OpenState = record s { asks = with_confirmation s.options (Publish (publication_of m s.options) ∷ []) } in
    r)
    whole)
    there

-- a header block that is none
pub bad_headers_found : (looks : Looked) (s t : OpenState) (head : PubHead) (awaited : Awaited) (bytes rest : List ℕ)
    (new : End Awaited)
    → looks ≡ told_item
    → awaited ≡ awaits.Payload head
    → None ≡ body_in (headers_awaited awaited) bytes
    → t ≡ record s { asks = refusal_asks (line_fault_text BadHeader) }
    → new ≡ waits awaits.Line rest
    → TellsFound looks s t (finding_before client_grammar rest (piece_told awaited bytes)) new
bad_headers_found looks s t head awaited bytes rest new tells due none stands there =
    subst (λ l. TellsFound l s t (finding_before client_grammar rest (piece_told awaited bytes)) new) (sym tells)
    (goes_on_with s t (refused BadHeader) _ rest new
    (item_found false head awaited bytes rest due (no_body_tells _ (headers_awaited awaited) bytes none)) stands there)

-- the payload of a publication that is refused
pub lost_found : (looks : Looked) (s t : OpenState) (size : ℕ) (awaited : Awaited) (bytes rest : List ℕ)
    (new : End Awaited)
    → looks ≡ told_item
    → awaited ≡ awaits.LostPayload size
    → t ≡ record s { asks = refusal_asks (line_fault_text BadSubject) }
    → new ≡ waits awaits.Line rest
    → TellsFound looks s t (finding_before client_grammar rest (piece_told awaited bytes)) new
lost_found looks s t size awaited bytes rest new tells due stands there =
    subst (λ l. TellsFound l s t (finding_before client_grammar rest (piece_told awaited bytes)) new) (sym tells)
    (goes_on_with s t (refused BadSubject) _ rest new
    (ap (λ a. finding_before client_grammar rest (piece_told a bytes)) due) stands there)

pub is_in_step : (r : ItemReader) → IsBehindLine r → IsInStep r
is_in_step r behind = record { stands = λ reads. behind.stands }

-- a line is due behind a piece that was used up
line_due : (old new : CutterState) (ended : Bool)
    → ended ≡ false
    → new ≡ after_next old
    → (let e : End Awaited = if ended then closed else waits awaits.Line new.unread in e)
    ≡ waits awaits.Line (after_next old).unread
line_due old new ended reads is =
    ap (λ b. let e : End Awaited = if b then closed else waits awaits.Line new.unread in e) reads
    ∙ ap (λ k. let e : End Awaited = waits awaits.Line k.unread in e) is

pub line_due_behind : (old new : CutterState) (ended : Bool) (awaited : Awaited)
    → ended ≡ false
    → awaited ≡ awaits.Line
    → new ≡ after_next old
    → (let e : End Awaited = if ended then closed else waits awaited new.unread in e)
    ≡ waits awaits.Line (after_next old).unread
line_due_behind old new ended awaited reads due is =
    ap (λ a. let e : End Awaited = if ended then closed else waits a new.unread in e) due
    ∙ line_due old new ended reads is

-- a line is due behind what was passed over
pub passed : (old new : ItemReader)
    → old.ended ≡ false
    → new ≡ record old { cutter = after_next old.cutter; awaited = awaits.Line }
    → end_of new ≡ waits awaits.Line (after_next old.cutter).unread
passed old new reads is = ap end_of is ∙ line_due old.cutter (after_next old.cutter) old.ended reads refl
