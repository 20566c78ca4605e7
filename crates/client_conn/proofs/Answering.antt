-- What a connection does to what stands to be asked.
use Rattle.std.proofs.Common.{◌≡◌, ℕ, Bool, true, false, ◌&&◌, List, [], ◌∷◌, ◌++◌, Option, Result, Ok, Err, ◌<◌, ◌⊎◌, ⊎_elim, refl, ap, sym, ◌∙◌, subst, append-nil}
use Rattle.std.specs.Prelude.{if◌then◌else◌, OnErr, slice_get}
use Rattle.wire_cut.specs.Cut.{first_cr_lf}
use Rattle.wire_cut.specs.Reading.{End, waits, closed, reading_within, with_items}
use Rattle.client_frames.specs.declared.client_line.Awaited.{Awaited}
use Rattle.client_frames.specs.declared.client_line.Awaited.TheVariants as awaits
use Rattle.client_frames.specs.declared.client_line.Options.{Options}
use Rattle.client_frames.specs.Streams.{StreamItem}
use Rattle.client_conn.specs.declared.ask.ClientAction.{ClientAction}
use Rattle.client_conn.specs.declared.faults.ReadFault.{ReadFault}
use Rattle.client_conn.specs.declared.faults.ReadFault.TheVariants.{Closed}
use Rattle.client_conn.specs.declared.conn.ItemReader.{ItemReader}
use Rattle.client_conn.specs.declared.conn.Looked.{Looked}
use Rattle.client_conn.specs.declared.conn.Looked.TheVariants.{Announced, Told}
use Rattle.client_conn.specs.Items.{OpenState, first_options, options_behind, item_asks, items_asks, asked_by}
use Rattle.client_conn.specs.Asks.{Asking, listens, over, asked_before, asking_of, no_asks}
use Rattle.client_conn.specs.Feeding.{HasRead, ClosedWhere, AnswersClosed}
use Rattle.client_conn.specs.Streams.{end_of, reading_at, left_of, asking_at, HasTaken, HasNone, HasFilled, HasLooked}
use Rattle.client_conn.proofs.Telling.{told_before, fed_standing}
use Rattle.client_conn.proofs.Closing.{finished_is}
use Rattle.client_conn.proofs.Looking.{takes, passes, lessens_at_a_line, lessens_at_an_item}

-- nothing was fed yet
pub new_asks : (ask : ClientAction)
    → asking_at (record { asks = ask ∷ []; options = first_options }) (waits awaits.Line [])
    ≡ record { asks = ask ∷ []; onward = listens first_options awaits.Line [] }
unfolding first_cr_lf reading_within
new_asks ask = refl

-- an item was taken, and what it asks for stands
taken_asks : (o : Options) (old new : End Awaited) (told : StreamItem)
    → reading_at old ≡ with_items (told ∷ []) (reading_at new)
    → asking_at (asked_by told o) new ≡ asking_of o (reading_at old)
taken_asks o old new told front =
    ap (λ l. asked_before l (asking_of (options_behind told o) (reading_at new))) (sym (append-nil (item_asks o told)))
    ∙ sym (told_before o (told ∷ []) (reading_at new))
    ∙ ap (asking_of o) (sym front)

no_length : (asks : List ClientAction) → no_asks asks ≡ true → asks ≡ []
no_length [] is = refl
no_length (ask ∷ asks) is = absurd (cc)

-- nothing stood before
pub put_asks : (before stand : OpenState) (old new : End Awaited)
    → no_asks before.asks ≡ true
    → HasTaken before stand old new
    → asking_at stand new ≡ asking_at before old
put_asks before stand old new empty taken =
    ap (λ s. asking_at s new) taken.stands
    ∙ taken_asks before.options old new taken.told taken.front
    ∙ ap (λ l. asked_before l (asking_of before.options (reading_at old))) (sym (no_length before.asks empty))

pub same_asks : (before stand : OpenState) (old new : End Awaited)
    → stand ≡ before
    → reading_at new ≡ reading_at old
    → asking_at stand new ≡ asking_at before old
same_asks before stand old new is same =
    ap (λ s. asking_at s new) is ∙ ap (λ r. asked_before before.asks (asking_of before.options r)) same

-- a look that finds anything leaves as much to be asked
pub goes_on : (looked : Looked) (before stand : OpenState) (old new : End Awaited)
    → (looked ≡ Announced) ⊎ (looked ≡ Told)
    → no_asks before.asks ≡ true
    → HasLooked looked before stand old new
    → asking_at stand new ≡ asking_at before old
goes_on looked before stand old new finds empty has =
    ⊎_elim (λ is.
    let passed = passes before stand old new (subst (λ l. HasLooked l before stand old new) is has) in
    same_asks before stand old new passed.1 passed.0)
    (λ is.
    put_asks before stand old new empty
    (takes before stand old new (subst (λ l. HasLooked l before stand old new) is has)))
    finds

pub lessens : (looked : Looked) (before stand : OpenState) (old new : End Awaited)
    → (looked ≡ Announced) ⊎ (looked ≡ Told)
    → HasLooked looked before stand old new
    → left_of new < left_of old
lessens looked before stand old new finds has = ⊎_elim
    (λ is. lessens_at_a_line before stand old new (subst (λ l. HasLooked l before stand old new) is has))
    (λ is. lessens_at_an_item before stand old new (subst (λ l. HasLooked l before stand old new) is has))
    finds

pub nothing_asked : (before stand : OpenState) (old new : End Awaited)
    → stand ≡ before
    → HasNone old new
    → no_asks before.asks ≡ true
    → (asking_at stand new).asks ≡ []
nothing_asked before stand old new is none empty =
    ap (λ s. (asking_at s new).asks) is
    ∙ ap (λ l. l ++ items_asks before.options (reading_at new).items) (no_length before.asks empty)
    ∙ ap (items_asks before.options) none.none

-- what is given is what stands first
pub first_asked : (stand : OpenState) (end : End Awaited) (now : Asking) (got : Option ClientAction)
    → got ≡ slice_get stand.asks 0
    → (stand.asks ≡ [] → (asking_at stand end).asks ≡ [])
    → asking_at stand end ≡ now
    → got ≡ slice_get now.asks 0
first_asked stand end now got is none same = by_asks stand.asks is none same where
  by_asks : (asks : List ClientAction)
      → got ≡ slice_get asks 0
      → (asks ≡ [] → (asking_at (record { asks = asks; options = stand.options }) end).asks ≡ [])
      → asking_at (record { asks = asks; options = stand.options }) end ≡ now
      → got ≡ slice_get now.asks 0
  by_asks [] is none same = is ∙ ap (λ l. slice_get l 0) (sym (none refl) ∙ ap (λ s. s.asks) same)
  by_asks (ask ∷ asks) is none same = is ∙ ap (λ s. slice_get s.asks 0) same

pub on_err_always : {T E : Type 0} (result : Result T E) (P : Type 0) → P → OnErr result P
on_err_always (Ok x) P p = tt
on_err_always (Err e) P p = p

-- ---- bytes that are read

pub has_read : (stand : OpenState) (old new : End Awaited) (before after : Option (List ℕ)) (asked n : ℕ)
    → HasFilled old new before after asked n
    → HasRead (asking_at stand old) (asking_at stand new) before after asked n
has_read stand old new before after asked n filled = record {
  bytes = filled.bytes;
  came = ap (asking_at stand) filled.came ∙ sym (fed_standing stand old filled.bytes);
  count = filled.count;
  bound = filled.bound;
  consumed = filled.consumed;
  end = filled.end;
}

both_true : (a b : Bool) → (a && b) ≡ true → b ≡ true
both_true true b is = is
both_true false b is = absurd (cc)

closed_only : (stand : OpenState) (awaited : Awaited) (unread : List ℕ) (ended : Bool) (result : Result ℕ ReadFault)
    → ClosedWhere ended result
    → result ≡ Err Closed
    → (asking_at stand (if ended then closed else waits awaited unread)).onward ≡ over
closed_only stand awaited unread true result where_closed is = refl
closed_only stand awaited unread false result where_closed is = absurd (subst (ClosedWhere false) is where_closed)

pub answers_closed : (stand : OpenState) (r : ItemReader) (result : Result ℕ ReadFault)
    → ClosedWhere r.ended result
    → AnswersClosed (asking_at stand (end_of r)) result
answers_closed stand r result where_closed = record {
  always = λ is. subst (λ b. ClosedWhere b result) (both_true _ r.ended (finished_is stand r ∙ is)) where_closed;
  only = λ is. closed_only stand r.awaited r.cutter.unread r.ended result where_closed is;
}
