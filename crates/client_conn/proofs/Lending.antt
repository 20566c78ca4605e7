-- Publications that a connection lends are what it asks for next.
use Rattle.std.proofs.Common.{◌≡◌, ℕ, ◌-◌, Bool, true, false, List, [], ◌∷◌, length, drop, Some, None, refl, ap, sym, ◌∙◌, subst}
use Rattle.std.specs.Prelude.{map, not, ◌&&◌, if◌then◌else◌}
use Rattle.std.proofs.lemmas.Option.{none-some, same_Some}
use Rattle.subj.specs.declared.messages.Pub.{Pub}
use Rattle.wire_cut.specs.Reading.{End, waits, closed, Reading, reading_of, with_items}
use Rattle.publication_runs.specs.Runs.{Publication, run_items, BeginsWithRun}
use Rattle.publication_runs.specs.Readings.{ReadsRun, LeavesRest}
use Rattle.publication_runs.specs.Lent.{LentState, Gives, lent_as}
use Rattle.client_frames.specs.declared.client_line.Awaited.{Awaited}
use Rattle.client_frames.specs.declared.client_line.Awaited.TheVariants as awaits
use Rattle.client_frames.specs.declared.client_line.Options.{Options}
use Rattle.client_frames.specs.declared.server_frames.ReplyFrame.TheVariants as reply
use Rattle.client_frames.specs.Streams.{StreamItem, client_grammar}
use Rattle.client_conn.specs.declared.ask.ClientAction.{ClientAction}
use Rattle.client_conn.specs.declared.ask.ClientAction.TheVariants.{Reply, Publish}
use Rattle.client_conn.specs.declared.conn.ItemReader.{ItemReader}
use Rattle.client_conn.specs.Items.{OpenState}
use Rattle.client_conn.specs.Asks.{Asking, AsksInTurn, Lends, asked_before, asking_of, no_asks}
use Rattle.client_conn.specs.Lent.{UsesUp, lends_at, lent_asks}
use Rattle.client_conn.specs.Streams.{asking_at, end_of}

-- ---- publications that are given stand one behind another

record StandInTurn (given : List Pub) (from to : LentState) : Type 0 where
  publications : List Publication
  begins : BeginsWithRun from.run.behind publications to.run.behind
  are : given ≡ map (lent_as from.echo) publications

stand_in_turn : (given : List Pub) (from to : LentState) → Gives given from to → StandInTurn given from to
stand_in_turn [] from to gives = record {
  publications = [];
  begins = ap (λ (s : LentState). s.run.behind) (sym gives);
  are = refl;
}
stand_in_turn (one ∷ more) from to gives =
    let others = stand_in_turn more gives.0 to gives.2 in
    record {
      publications = gives.1.publication ∷ others.publications;
      begins = (gives.0.run.behind, gives.1.gives.begins, others.begins);
      are =
          ap (λ (p : Pub). p ∷ more) gives.1.is_as
          ∙ ap (λ (ps : List Pub). lent_as from.echo gives.1.publication ∷ ps)
          (others.are ∙ ap (λ (e : Bool). map (lent_as e) others.publications) gives.1.same_echo);
    }

-- ---- what is asked of them

-- without `+OK` before each
alone : (options : Options) (publications : List Publication) (r : Reading Awaited StreamItem)
    → options.verbose ≡ false
    → asking_of options (with_items (run_items publications) r)
    ≡ asked_before (lent_asks (map (lent_as options.echo) publications)) (asking_of options r)
alone options [] r quiet = refl
alone options (p ∷ ps) r quiet =
    let own : ClientAction = Publish (lent_as options.echo p) in
    ap (λ (b : Bool).
    asked_before (if b then Reply reply.Ok ∷ own ∷ [] else own ∷ []) (asking_of options (with_items (run_items ps) r)))
    quiet
    ∙ ap (asked_before (own ∷ [])) (alone options ps r quiet)

in_turn : (asks : List ClientAction) (s : Asking) → AsksInTurn asks (asked_before asks s) s
in_turn [] s = refl
in_turn (ask ∷ asks) s = (refl, in_turn asks s)

-- ---- a connection that lends

record IsLending (stand : OpenState) (end : End Awaited) (lends : Lends) : Type 0 where
  line : end ≡ waits awaits.Line lends.text
  empty : stand.asks ≡ []
  quiet : stand.options.verbose ≡ false
  echo : lends.echo ≡ stand.options.echo

is_lending : (stand : OpenState) (end : End Awaited) (lends : Lends)
    → lends_at stand end ≡ Some lends
    → IsLending stand end lends
is_lending stand (waits awaits.Line unread) lends is = by_asks stand.asks refl is where
  at : Lends
  at = record { text = unread; echo = stand.options.echo }

  by_mode : (verbose : Bool) → stand.asks ≡ [] → stand.options.verbose ≡ verbose
      → (if true && not verbose then Some at else None) ≡ Some lends
      → IsLending stand (waits awaits.Line unread) lends
  by_mode true empty mode is = absurd (none-some lends is)
  by_mode false empty mode is =
      let same = same_Some at lends is in
      record {
        line = ap (λ (l : Lends). let e : End Awaited = waits awaits.Line l.text in e) same;
        empty = empty;
        quiet = mode;
        echo = sym (ap (λ (l : Lends). l.echo) same);
      }

  by_asks : (asks : List ClientAction) → stand.asks ≡ asks
      → (if no_asks asks && not stand.options.verbose then Some at else None) ≡ Some lends
      → IsLending stand (waits awaits.Line unread) lends
  by_asks [] empty is = by_mode stand.options.verbose empty refl is
  by_asks (ask ∷ asks) empty is = absurd (none-some lends is)
is_lending stand (waits (awaits.Payload head) unread) lends is = absurd (none-some lends is)
is_lending stand (waits (awaits.LostPayload size) unread) lends is = absurd (none-some lends is)
is_lending stand closed lends is = absurd (none-some lends is)

-- the same where fewer bytes are left
line_due : (r new : ItemReader) (text rest : List ℕ)
    → new.ended ≡ r.ended
    → new.awaited ≡ r.awaited
    → (r.cutter.unread ≡ text → new.cutter.unread ≡ rest)
    → end_of r ≡ waits awaits.Line text
    → end_of new ≡ waits awaits.Line rest
line_due r new text rest ended awaited shorter is =
    ap (λ (b : Bool). let e : End Awaited = if b then closed else waits new.awaited new.cutter.unread in e) ended
    ∙ by_end r.ended is
  where
    by_end : (b : Bool)
        → (let e : End Awaited = if b then closed else waits r.awaited r.cutter.unread in e) ≡ waits awaits.Line text
        → (let e : End Awaited = if b then closed else waits new.awaited new.cutter.unread in e)
        ≡ waits awaits.Line rest
    by_end true is = absurd (cc)
    by_end false is =
        let line : r.awaited ≡ awaits.Line = cc in
        let all : r.cutter.unread ≡ text = cc in
        ap (λ (a : Awaited). let e : End Awaited = waits a new.cutter.unread in e) (awaited ∙ line)
        ∙ ap (λ (l : List ℕ). let e : End Awaited = waits awaits.Line l in e) (shorter all)

abbrev asking_at_line : Options → List ℕ → Asking
asking_at_line options text = asking_of options (reading_of client_grammar awaits.Line text)

at_line : (stand : OpenState) (end : End Awaited) (text : List ℕ)
    → end ≡ waits awaits.Line text
    → stand.asks ≡ []
    → asking_at stand end ≡ asking_at_line stand.options text
at_line stand end text line empty =
    ap (asking_at stand) line
    ∙ ap (λ (l : List ClientAction). asked_before l (asking_at_line stand.options text)) empty

-- they are asked for in turn, and then what stands behind them is
asks_lent : (stand : OpenState) (end behind : End Awaited) (lends : Lends) (publications : List Publication)
    (rest : List ℕ)
    → ReadsRun
    → IsLending stand end lends
    → BeginsWithRun lends.text publications rest
    → behind ≡ waits awaits.Line rest
    → AsksInTurn (lent_asks (map (lent_as stand.options.echo) publications)) (asking_at stand end)
    (asking_at stand behind)
asks_lent stand end behind lends publications rest reads is begins there =
    subst (λ (s : Asking). AsksInTurn asks s (asking_at stand behind)) (sym old)
    (subst (AsksInTurn asks (asked_before asks last)) (sym new) (in_turn asks last))
  where
    last : Asking
    last = asking_at_line stand.options rest

    asks : List ClientAction
    asks = lent_asks (map (lent_as stand.options.echo) publications)

    new : asking_at stand behind ≡ last
    new = at_line stand behind rest there is.empty

    old : asking_at stand end ≡ asked_before asks last
    old = at_line stand end lends.text is.line is.empty
        ∙ ap (asking_of stand.options) (reads lends.text publications rest begins)
        ∙ alone stand.options publications (reading_of client_grammar awaits.Line rest) is.quiet

-- all but so many bytes are used up
pub uses_up : (stand : OpenState) (r new : ItemReader) (given : Bool) (left : ℕ)
    → ReadsRun
    → LeavesRest
    → new.ended ≡ r.ended
    → new.awaited ≡ r.awaited
    → new.cutter.unread ≡ drop (length r.cutter.unread - left) r.cutter.unread
    → UsesUp left (record { asking = asking_at stand (end_of r); given = given; lends = lends_at stand (end_of r) })
    (asking_at stand (end_of new))
uses_up stand r new given left reads leaves ended awaited shorter from to publications lent gives is_left =
    let stood = stand_in_turn publications from to gives in
    let text = from.run.behind in
    let rest = to.run.behind in
    let is = is_lending stand (end_of r) (record { text = text; echo = from.echo }) lent.lends in
    let there : end_of new ≡ waits awaits.Line rest =
    line_due r new text rest ended awaited
    (λ same.
    shorter
    ∙ ap (λ (l : List ℕ). drop (length l - left) l) same
    ∙ ap (λ n. drop (length text - n) text) (sym is_left)
    ∙ (leaves text stood.publications rest stood.begins).1)
    is.line in
    subst (λ (ps : List Pub). AsksInTurn (lent_asks ps) (asking_at stand (end_of r)) (asking_at stand (end_of new)))
    (sym (stood.are ∙ ap (λ (e : Bool). map (lent_as e) stood.publications) is.echo))
    (asks_lent stand (end_of r) (end_of new) _ stood.publications rest reads is stood.begins there)
