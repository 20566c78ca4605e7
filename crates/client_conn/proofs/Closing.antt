-- A stream that has ended asked for something at its end, so a connection knows when all is asked and answered.
use Rattle.std.proofs.Common.{append_assoc, ◌≡◌, ℕ, zero, suc, Bool, true, false, ◌&&◌, List, [], ◌∷◌, ◌++◌, Option, Some, None, Ok, Err, refl, ap, sym, ◌∙◌, subst}
use Rattle.std.specs.Prelude.{if◌then◌else◌}
use Rattle.wire_cut.specs.Cut.{Answer, bytes_of}
use Rattle.wire_cut.specs.declared.faults.CutFault.{CutFault}
use Rattle.wire_cut.specs.declared.faults.CutFault.TheVariants.{LineTooLong, PayloadTooLong, NoCrLfAfterPayload}
use Rattle.wire_cut.specs.Reading.{End, waits, closed, Reading, reading_of, reading_within, reading_after, Told, going_on, ending, Found, nothing, something, the_end, finding, finding_by, finding_before, finding_next, cut_awaited}
use Rattle.client_frames.specs.declared.client_line.Awaited.{Awaited}
use Rattle.client_frames.specs.declared.client_line.Awaited.TheVariants as awaits
use Rattle.client_frames.specs.declared.client_line.ClientLine.{ClientLine}
use Rattle.client_frames.specs.declared.client_line.ClientLine.TheVariants.{Connect, Pub, PubBad, Sub, Unsub, Ping, Pong}
use Rattle.client_frames.specs.declared.client_line.Options.{Options}
use Rattle.client_frames.specs.declared.err_texts.ErrText.{ErrText}
use Rattle.client_frames.specs.declared.faults.LineFault.{LineFault}
use Rattle.client_frames.specs.declared.server_frames.ReplyFrame.TheVariants as reply
use Rattle.client_frames.specs.ErrTexts.{text_closes, line_fault_text, cut_fault_text}
use Rattle.client_frames.specs.Lines.{Meaning, line_meaning}
use Rattle.client_frames.specs.Streams.{StreamItem, refused, unreadable, client_grammar, piece_told, line_told, command_told}
use Rattle.client_conn.specs.declared.ask.ClientAction.{ClientAction}
use Rattle.client_conn.specs.declared.ask.ClientAction.TheVariants.{Reply, Shut}
use Rattle.client_conn.specs.declared.conn.ItemReader.{ItemReader}
use Rattle.client_conn.specs.Items.{OpenState, options_after, items_asks, refusal_asks}
use Rattle.client_conn.specs.Asks.{over, listens, asking_of, onward_of, read_onward, is_over, no_asks, is_finished}
use Rattle.client_conn.specs.Shuts.{AsksToShut}
use Rattle.client_conn.specs.Streams.{end_of, asking_at}
use Rattle.client_conn.proofs.Telling.{items_asks-append}

refusing_shuts : (text : ErrText) (rest : List ClientAction)
    → text_closes text ≡ true
    → AsksToShut (refusal_asks text ++ rest)
refusing_shuts text rest closes = record {
  before = [];
  text = text;
  behind = rest;
  are = ap (λ b. (if b then Shut text ∷ [] else Reply (reply.Err text) ∷ []) ++ rest) closes;
}

pub shut_behind : (front rest : List ClientAction) → AsksToShut rest → AsksToShut (front ++ rest)
shut_behind front rest shuts = record {
  before = front ++ shuts.before;
  text = shuts.text;
  behind = shuts.behind;
  are = ap (λ l. front ++ l) shuts.are ∙ sym (append_assoc front shuts.before (Shut shuts.text ∷ shuts.behind));
}

last_asks : (o : Options) (items : List StreamItem) (last : List StreamItem)
    → ((p : Options) → AsksToShut (items_asks p last))
    → AsksToShut (items_asks o (items ++ last))
last_asks o items last shuts =
    subst AsksToShut (sym (items_asks-append o items last))
    (shut_behind (items_asks o items) _ (shuts (options_after items o)))

-- ---- what ends a stream

refusal_ends : (fault : LineFault) (items : List StreamItem) (o : Options)
    → line_told (Err fault) ≡ ending items
    → AsksToShut (items_asks o items)
refusal_ends fault items o is = by_test (text_closes (line_fault_text fault)) refl is where
  by_test : (b : Bool)
      → text_closes (line_fault_text fault) ≡ b
      → (if b then ending (refused fault ∷ []) else going_on (refused fault ∷ []) awaits.Line) ≡ ending items
      → AsksToShut (items_asks o items)
  by_test true closes is =
      let same : (refused fault ∷ []) ≡ items = cc in
      subst (λ l. AsksToShut (items_asks o l)) same (refusing_shuts (line_fault_text fault) [] closes)
  by_test false closes is = absurd (cc)

command_ends : (command : ClientLine) (items : List StreamItem) (o : Options)
    → command_told command ≡ ending items
    → AsksToShut (items_asks o items)
command_ends (Connect options) items o is = absurd (cc)
command_ends (Pub head) items o is = absurd (cc)
command_ends (PubBad size) items o is = absurd (cc)
command_ends (Sub pattern queue sid) items o is = absurd (cc)
command_ends (Unsub sid max) items o is = absurd (cc)
command_ends Ping items o is = absurd (cc)
command_ends Pong items o is = absurd (cc)

line_ends : (meaning : Meaning) (items : List StreamItem) (o : Options)
    → line_told meaning ≡ ending items
    → AsksToShut (items_asks o items)
line_ends (Ok command) items o is = command_ends command items o is
line_ends (Err fault) items o is = refusal_ends fault items o is

piece_ends : (awaited : Awaited) (bytes : List ℕ) (items : List StreamItem) (o : Options)
    → piece_told awaited bytes ≡ ending items
    → AsksToShut (items_asks o items)
piece_ends awaits.Line bytes items o is = line_ends (line_meaning bytes) items o is
piece_ends (awaits.Payload head) bytes items o is = absurd (cc)
piece_ends (awaits.LostPayload size) bytes items o is = absurd (cc)

unreadable_asks : (fault : CutFault) (o : Options) → AsksToShut (items_asks o (unreadable fault ∷ []))
unreadable_asks fault o = refusing_shuts (cut_fault_text fault) [] (closes fault) where
  closes : (f : CutFault) → text_closes (cut_fault_text f) ≡ true
  closes LineTooLong = refl
  closes PayloadTooLong = refl
  closes NoCrLfAfterPayload = refl

next_ends : (told : List StreamItem) (next : Awaited) (behind : List ℕ) (fault : Option CutFault)
    (items : List StreamItem) (o : Options)
    → finding_next client_grammar told next behind fault ≡ the_end items
    → AsksToShut (items_asks o items)
next_ends told next behind None items o is = absurd (cc)
next_ends told next behind (Some fault) items o is =
    let same : (told ++ unreadable fault ∷ []) ≡ items = cc in
    subst (λ l. AsksToShut (items_asks o l)) same (last_asks o told (unreadable fault ∷ []) (unreadable_asks fault))

before_ends : (told : Told Awaited StreamItem) (behind : List ℕ) (items : List StreamItem) (o : Options)
    → ((last : List StreamItem) → told ≡ ending last → AsksToShut (items_asks o last))
    → finding_before client_grammar behind told ≡ the_end items
    → AsksToShut (items_asks o items)
before_ends (going_on first next) behind items o some is = next_ends first next behind _ items o is
before_ends (ending last) behind items o some is =
    let same : last ≡ items = cc in subst (λ l. AsksToShut (items_asks o l)) same (some last refl)

look_ends : (awaited : Awaited) (unread : List ℕ) (answer : Answer) (items : List StreamItem) (o : Options)
    → finding_by client_grammar awaited unread answer ≡ the_end items
    → AsksToShut (items_asks o items)
look_ends awaited unread (Ok None) items o is = absurd (cc)
look_ends awaited unread (Ok (Some piece)) items o is =
    before_ends _ _ items o (λ last told. piece_ends awaited (bytes_of piece) last o told) is
look_ends awaited unread (Err fault) items o is =
    let same : (unreadable fault ∷ []) ≡ items = cc in
    subst (λ l. AsksToShut (items_asks o l)) same (unreadable_asks fault o)

-- ---- a stream that has ended

by_found : (n : ℕ) (awaited : Awaited) (unread : List ℕ) (o : Options) (f : Found Awaited StreamItem)
    → finding client_grammar awaited unread ≡ f
    → ((next : Awaited) (behind : List ℕ) (p : Options) → (reading_within client_grammar n next behind).end ≡ closed
    → AsksToShut (items_asks p (reading_within client_grammar n next behind).items))
    → (reading_after (reading_within client_grammar n) awaited unread f).end ≡ closed
    → AsksToShut (items_asks o (reading_after (reading_within client_grammar n) awaited unread f).items)
by_found n awaited unread o nothing looks again is = absurd (cc)
by_found n awaited unread o (something items next behind) looks again is =
    last_asks o items (reading_within client_grammar n next behind).items (λ p. again next behind p is)
by_found n awaited unread o (the_end items) looks again is =
    look_ends awaited unread (cut_awaited client_grammar awaited unread) items o looks

within_asks : (n : ℕ) (awaited : Awaited) (unread : List ℕ) (o : Options)
    → (reading_within client_grammar n awaited unread).end ≡ closed
    → AsksToShut (items_asks o (reading_within client_grammar n awaited unread).items)
unfolding reading_within
within_asks zero awaited unread o is = absurd (cc)
within_asks (suc n) awaited unread o is =
    by_found n awaited unread o (finding client_grammar awaited unread) refl
    (λ next behind p there. within_asks n next behind p there) is

-- ---- a connection that is closed

-- where nothing is read any more, the connection is asked to be shut
pub shuts_at_the_end : (o : Options) (awaited : Awaited) (bytes : List ℕ)
    → (read_onward (listens o awaited []) bytes).onward ≡ over
    → AsksToShut (read_onward (listens o awaited []) bytes).asks
shuts_at_the_end o awaited bytes is =
    within_asks _ awaited bytes o (ended (reading_of client_grammar awaited bytes).end is)
  where
    ended : (end : End Awaited)
        → onward_of (options_after (reading_of client_grammar awaited bytes).items o) end ≡ over
        → end ≡ closed
    ended (waits next rest) e = absurd (cc)
    ended closed e = refl

some_asks : (asks : List ClientAction) → AsksToShut asks → no_asks asks ≡ false
some_asks asks some = ap no_asks some.are ∙ by_front some.before where
  by_front : (front : List ClientAction) → no_asks (front ++ (Shut some.text ∷ some.behind)) ≡ false
  by_front [] = refl
  by_front (ask ∷ front) = refl

and_false : (b : Bool) → (b && false) ≡ false
and_false true = refl
and_false false = refl

read_finished : (o : Options) (r : Reading Awaited StreamItem) (end : End Awaited)
    → r.end ≡ end
    → (end ≡ closed → AsksToShut (items_asks o r.items))
    → is_finished (asking_of o r) ≡ false
read_finished o r (waits awaited unread) is some =
    ap (λ e. no_asks (items_asks o r.items) && is_over (onward_of (options_after r.items o) e)) is ∙ and_false _
read_finished o r closed is some =
    ap (λ b. b && is_over (onward_of (options_after r.items o) r.end)) (some_asks (items_asks o r.items) (some refl))

finished_at : (open_asks : List ClientAction) (o : Options) (awaited : Awaited) (unread : List ℕ) (ended : Bool)
    → (no_asks open_asks && ended)
    ≡ is_finished
    (asking_at (record { asks = open_asks; options = o }) (if ended then closed else waits awaited unread))
finished_at (ask ∷ open_asks) o awaited unread ended = refl
finished_at [] o awaited unread true = refl
finished_at [] o awaited unread false =
    let r = reading_of client_grammar awaited unread in
    sym (read_finished o r r.end refl (λ is. within_asks _ awaited unread o is))

pub finished_is : (stand : OpenState) (r : ItemReader)
    → (no_asks stand.asks && r.ended) ≡ is_finished (asking_at stand (end_of r))
finished_is stand r = finished_at stand.asks stand.options r.awaited r.cutter.unread r.ended

pub finished_behind_none : (stand : OpenState) (r : ItemReader) (empty : Bool)
    → empty ≡ no_asks stand.asks
    → empty ≡ true
    → r.ended ≡ is_finished (asking_at stand (end_of r))
finished_behind_none stand r empty is holds = ap (λ b. b && r.ended) (sym (sym is ∙ holds)) ∙ finished_is stand r
