-- What was written of what was said, step by step.
use Rattle.std.proofs.Common.{◌≡◌, ℕ, true, false, List, [], ◌++◌, take, drop, Option, Result, Ok, Err, ap, sym, ◌∙◌, subst, append_assoc, append-nil, take-append-drop}
use Rattle.std.specs.Prelude.{IsErr}
use Rattle.std.specs.Io.KnownBytes.{Appends}
use Rattle.std.proofs.KnownBytes.{Appends-nil, Appends-trans}
use Rattle.wire_cut.specs.Flow.{AppendsFront}
use Rattle.client_conn.specs.Asks.{Asking, ConnState, asks_after_bytes}
use Rattle.client_conn.specs.Shuts.{AsksToShut}
use Rattle.mesh_pipe.specs.declared.faults.PipeFault.{PipeFault}
use Rattle.mesh_pipe.specs.declared.pipe.Flow.{Flow}
use Rattle.mesh_pipe.specs.declared.pipe.Flow.TheVariants.{Open, Closed}
use Rattle.mesh_pipe.specs.declared.pipe_server.PipeServer.{PipeServer}
use Rattle.mesh_pipe.specs.PipeText.{Output}
use Rattle.mesh_pipe.specs.PipeStates.{IsReady, served_state}
use Rattle.mesh_pipe.specs.PipeRuns.{said_from, state_of, GoesOn, IsInStep, HasWorked, HasClosed, NeedsBytes, IsFlushed, HasMoved, HasAnsweredAll, HasEnded, HasBegun, Works, HasAnswered, HasFinished, HasFronted, AnswersAll}
use Rattle.mesh_pipe.proofs.Text.Said.{goes_nowhere, goes_further, ends_further}

-- ---- work

pub nothing_moved : {R : Type 0} (conn : ConnState) (server : PipeServer R) (was : Option (List ℕ))
    → IsInStep conn server
    → HasMoved conn server was conn server was
nothing_moved conn server was step = record {
  put = [];
  said = [];
  written = Appends-nil was;
  text = sym (append-nil server.output.items);
  in_step = step;
  goes = goes_nowhere (state_of conn server);
}

more_put : (put now text old said : List ℕ) (new : List ℕ)
    → put ++ now ≡ old ++ said
    → new ≡ now ++ text
    → put ++ new ≡ old ++ (said ++ text)
more_put put now text old said new so_far is =
    ap (λ l. put ++ l) is ∙ sym (append_assoc put now text) ∙ ap (λ l. l ++ text) so_far ∙ append_assoc old said text

pub moved_further : {R : Type 0} (first_conn mid_conn new_conn : ConnState) (first mid new : PipeServer R)
    (was is : Option (List ℕ))
    → HasMoved first_conn first was mid_conn mid is
    → HasWorked mid_conn mid new_conn new
    → HasMoved first_conn first was new_conn new is
moved_further first_conn mid_conn new_conn first mid new was is moved worked = record {
  put = moved.put;
  said = moved.said ++ worked.said;
  written = moved.written;
  text =
      more_put moved.put mid.output.items worked.said first.output.items moved.said new.output.items moved.text
      worked.put;
  in_step = worked.in_step;
  goes =
      goes_further (state_of first_conn first) (state_of mid_conn mid) (state_of new_conn new) moved.said worked.said
      moved.goes worked.goes;
}

still_ready : {R : Type 0} (server other : PipeServer R)
    → other ≡ record server { output = other.output }
    → IsReady server
    → IsReady other
still_ready server other same ready =
    subst IsReady (sym same)
    (record { serving = ready.serving; conn = ready.conn; shard = ready.shard; waiting = ready.waiting })

stands_still : {R : Type 0} (old new : PipeServer R) (conn : ConnState)
    → new ≡ record old { output = new.output }
    → state_of conn new ≡ state_of conn old
stands_still old new conn same = ap (λ (s : PipeServer _). state_of conn s) same

in_step_still : {R : Type 0} (old new : PipeServer R) (conn : ConnState)
    → new ≡ record old { output = new.output }
    → IsInStep conn old
    → IsInStep conn new
in_step_still old new conn same step = record {
  ready = still_ready old new same step.ready;
  settled = step.settled;
  shuts = step.shuts;
}

pub moved_and_flushed : {R : Type 0} (first_conn conn : ConnState) (first mid new : PipeServer R)
    (was is now : Option (List ℕ))
    → HasMoved first_conn first was conn mid is
    → IsFlushed mid is new now
    → HasMoved first_conn first was conn new now
moved_and_flushed first_conn conn first mid new was is now moved flushed = record {
  put = moved.put ++ mid.output.items;
  said = moved.said;
  written = Appends-trans was is now moved.put mid.output.items moved.written flushed.written;
  text =
      ap (λ l. (moved.put ++ mid.output.items) ++ l) flushed.empty
      ∙ append-nil (moved.put ++ mid.output.items)
      ∙ moved.text;
  in_step = in_step_still mid new conn flushed.same moved.in_step;
  goes =
      subst (GoesOn (state_of first_conn first) moved.said) (sym (stands_still mid new conn flushed.same)) moved.goes;
}

pub moved_to_lack : {R : Type 0} (first_conn mid_conn new_conn : ConnState) (first mid new : PipeServer R)
    (was is : Option (List ℕ))
    → HasMoved first_conn first was mid_conn mid is
    → NeedsBytes mid_conn mid new_conn new
    → HasAnsweredAll first_conn first was new_conn new is
moved_to_lack first_conn mid_conn new_conn first mid new was is moved starved =
    subst (λ (s : PipeServer _). HasAnsweredAll first_conn first was new_conn s is) (sym starved.same) (record {
      moved = record {
        put = moved.put;
        said = moved.said;
        written = moved.written;
        text = moved.text;
        in_step = record {
          ready = moved.in_step.ready;
          settled = ap (asks_after_bytes []) starved.asking ∙ moved.in_step.settled ∙ sym starved.asking;
          shuts = λ ends.
              subst (λ (s : Asking). AsksToShut s.asks) (sym starved.asking)
              (moved.in_step.shuts (sym (ap (λ (s : Asking). s.onward) starved.asking) ∙ ends));
        };
        goes =
            subst (λ (s : Asking).
            GoesOn (state_of first_conn first) moved.said (record { asking = s; served = served_state mid }))
            (sym starved.asking) moved.goes;
      };
      none = ap (λ (s : Asking). s.asks) starved.asking ∙ starved.none;
    })

pub moved_to_end : {R : Type 0} (first_conn mid_conn : ConnState) (first mid new : PipeServer R)
    (was is : Option (List ℕ))
    → HasMoved first_conn first was mid_conn mid is
    → HasClosed mid_conn mid new
    → HasEnded first_conn first was new is
moved_to_end first_conn mid_conn first mid new was is moved closed = record {
  put = moved.put;
  said = moved.said ++ closed.said;
  written = moved.written;
  text =
      more_put moved.put mid.output.items closed.said first.output.items moved.said new.output.items moved.text
      closed.put;
  ends = ends_further (state_of first_conn first) (state_of mid_conn mid) moved.said closed.said moved.goes closed.ends;
}

-- the whole, where this was put and is put and that is said
whole_of : (put now old said text : List ℕ) → put ++ now ≡ old ++ said → old ++ (said ++ text) ≡ put ++ (now ++ text)
whole_of put now old said text is =
    sym (append_assoc old said text) ∙ ap (λ l. l ++ text) (sym is) ∙ append_assoc put now text

text_of_moves : {R : Type 0} (first_conn mid_conn : ConnState) (first mid : PipeServer R) (was is : Option (List ℕ))
    (moved : HasMoved first_conn first was mid_conn mid is) (more : List ℕ)
    → first.output.items ++ (said_from (state_of first_conn first) more).text
    ≡ moved.put ++ (mid.output.items ++ (said_from (state_of mid_conn mid) more).text)
text_of_moves first_conn mid_conn first mid was is moved more =
    ap (λ (r : Output). first.output.items ++ r.text) (moved.goes.whatever_follows more)
    ∙ whole_of moved.put mid.output.items first.output.items moved.said (said_from (state_of mid_conn mid) more).text
    moved.text

pub begun_by_moves : {R : Type 0} (first_conn mid_conn : ConnState) (first mid : PipeServer R)
    (was is : Option (List ℕ))
    → HasMoved first_conn first was mid_conn mid is
    → HasBegun first_conn first was is
begun_by_moves first_conn mid_conn first mid was is moved = record {
  put = moved.put;
  rest = λ more. mid.output.items ++ (said_from (state_of mid_conn mid) more).text;
  written = moved.written;
  text = λ more. text_of_moves first_conn mid_conn first mid was is moved more;
}

-- a front of what was put, and not all of it
front_and_rest : (put now : List ℕ) (n : ℕ) (text : List ℕ)
    → put ++ (now ++ text) ≡ (put ++ take n now) ++ (drop n now ++ text)
front_and_rest put now n text =
    ap (λ l. put ++ (l ++ text)) (sym (take-append-drop n now))
    ∙ ap (λ l. put ++ l) (append_assoc (take n now) (drop n now) text)
    ∙ sym (append_assoc put (take n now) (drop n now ++ text))

pub begun_by_front : {R : Type 0} (first_conn mid_conn : ConnState) (first mid : PipeServer R)
    (was is now : Option (List ℕ))
    → HasMoved first_conn first was mid_conn mid is
    → AppendsFront is now mid.output.items
    → HasBegun first_conn first was now
begun_by_front first_conn mid_conn first mid was is now moved front = record {
  put = moved.put ++ take front.0 mid.output.items;
  rest = λ more. drop front.0 mid.output.items ++ (said_from (state_of mid_conn mid) more).text;
  written = Appends-trans was is now moved.put (take front.0 mid.output.items) moved.written front.2;
  text = λ more.
      text_of_moves first_conn mid_conn first mid was is moved more
      ∙ front_and_rest moved.put mid.output.items front.0 (said_from (state_of mid_conn mid) more).text;
}

pub works_begun : {R : Type 0} (result : Result Flow PipeFault) (first_conn new_conn : ConnState)
    (first new : PipeServer R) (was is : Option (List ℕ))
    → IsErr result
    → HasBegun first_conn first was is
    → Works result first_conn first was new_conn new is
works_begun (Ok flow) first_conn new_conn first new was is err begun = let e : false ≡ true = err in absurd (cc)
works_begun (Err fault) first_conn new_conn first new was is err begun = begun

-- ---- all that stands to be asked, where nothing was put

moved_text : (put now old said : List ℕ) → put ++ now ≡ old ++ said → old ≡ [] → put ++ now ≡ said
moved_text put now old said is none = is ∙ ap (λ l. l ++ said) none

pub all_answered : {R : Type 0} (first_conn conn : ConnState) (first mid new : PipeServer R)
    (was is now : Option (List ℕ))
    → first.output.items ≡ []
    → HasAnsweredAll first_conn first was conn mid is
    → IsFlushed mid is new now
    → HasAnswered first_conn first was conn new now
all_answered first_conn conn first mid new was is now empty starved flushed =
    let moved = starved.moved in
    record {
      said = moved.said;
      written =
          subst (Appends was now) (moved_text moved.put mid.output.items first.output.items moved.said moved.text empty)
          (Appends-trans was is now moved.put mid.output.items moved.written flushed.written);
      empty = flushed.empty;
      none = starved.none;
      in_step = in_step_still mid new conn flushed.same moved.in_step;
      goes =
          subst (GoesOn (state_of first_conn first) moved.said) (sym (stands_still mid new conn flushed.same))
          moved.goes;
    }

pub all_finished : {R : Type 0} (first_conn : ConnState) (first mid new : PipeServer R) (was is now : Option (List ℕ))
    → first.output.items ≡ []
    → HasEnded first_conn first was mid is
    → IsFlushed mid is new now
    → HasFinished first_conn first was now
all_finished first_conn first mid new was is now empty ended flushed = record {
  said = ended.said;
  written =
      subst (Appends was now) (moved_text ended.put mid.output.items first.output.items ended.said ended.text empty)
      (Appends-trans was is now ended.put mid.output.items ended.written flushed.written);
  ends = ended.ends;
}

pub fronted : {R : Type 0} (first_conn : ConnState) (first : PipeServer R) (was is : Option (List ℕ))
    → first.output.items ≡ []
    → HasBegun first_conn first was is
    → HasFronted first_conn first was is
fronted first_conn first was is empty begun = record {
  put = begun.put;
  rest = begun.rest;
  written = begun.written;
  text = λ more. ap (λ l. l ++ (said_from (state_of first_conn first) more).text) (sym empty) ∙ begun.text more;
}

-- the last flush broke off
pub starved_front : {R : Type 0} (first_conn conn : ConnState) (first mid : PipeServer R) (was is now : Option (List ℕ))
    → first.output.items ≡ []
    → HasAnsweredAll first_conn first was conn mid is
    → AppendsFront is now mid.output.items
    → HasFronted first_conn first was now
starved_front first_conn conn first mid was is now empty starved front =
    fronted first_conn first was now empty (begun_by_front first_conn conn first mid was is now starved.moved front)

pub ended_front : {R : Type 0} (first_conn : ConnState) (first mid : PipeServer R) (was is now : Option (List ℕ))
    → first.output.items ≡ []
    → HasEnded first_conn first was mid is
    → AppendsFront is now mid.output.items
    → HasFronted first_conn first was now
ended_front first_conn first mid was is now empty ended front = record {
  put = ended.put ++ take front.0 mid.output.items;
  rest = λ more. drop front.0 mid.output.items;
  written = Appends-trans was is now ended.put (take front.0 mid.output.items) ended.written front.2;
  text = λ more.
      ended.ends.text more
      ∙ sym (moved_text ended.put mid.output.items first.output.items ended.said ended.text empty)
      ∙ ap (λ l. ended.put ++ l) (sym (take-append-drop front.0 mid.output.items))
      ∙ sym (append_assoc ended.put (take front.0 mid.output.items) (drop front.0 mid.output.items));
}

pub answers_all : {R : Type 0} (flow : Flow) (first_conn conn : ConnState) (first mid new : PipeServer R)
    (was is now : Option (List ℕ))
    → first.output.items ≡ []
    → Works (Ok flow) first_conn first was conn mid is
    → IsFlushed mid is new now
    → AnswersAll (Ok flow) first_conn first was conn new now
answers_all Open first_conn conn first mid new was is now empty works flushed =
    all_answered first_conn conn first mid new was is now empty works flushed
answers_all Closed first_conn conn first mid new was is now empty works flushed =
    all_finished first_conn first mid new was is now empty works flushed

pub front_all : {R : Type 0} (flow : Flow) (first_conn conn : ConnState) (first mid : PipeServer R)
    (was is now : Option (List ℕ))
    → first.output.items ≡ []
    → Works (Ok flow) first_conn first was conn mid is
    → AppendsFront is now mid.output.items
    → HasFronted first_conn first was now
front_all Open first_conn conn first mid was is now empty works front =
    starved_front first_conn conn first mid was is now empty works front
front_all Closed first_conn conn first mid was is now empty works front =
    ended_front first_conn first mid was is now empty works front

pub answers_begun : {R : Type 0} (result : Result Flow PipeFault) (first_conn new_conn : ConnState)
    (first new : PipeServer R) (was is : Option (List ℕ))
    → IsErr result
    → HasFronted first_conn first was is
    → AnswersAll result first_conn first was new_conn new is
answers_begun (Ok flow) first_conn new_conn first new was is err begun = let e : false ≡ true = err in absurd (cc)
answers_begun (Err fault) first_conn new_conn first new was is err begun = begun
