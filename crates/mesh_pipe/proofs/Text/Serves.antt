-- A pipe's text so far.
use Rattle.std.proofs.Common.{◌≡◌, ℕ, true, false, List, [], ◌∷◌, ◌++◌, length, Option, Result, Ok, Err, refl, ap, sym, ◌∙◌, subst, arith, append_assoc, append-nil}
use Rattle.std.specs.Result.{IsErrAnd}
use Rattle.std.specs.Io.KnownBytes.{Appends, Consumes}
use Rattle.std.proofs.KnownBytes.{Appends-nil, Appends-trans, Consumes-nil, Consumes-trans}
use Rattle.client_conn.specs.declared.ask.ClientAction.{ClientAction}
use Rattle.client_conn.specs.Asks.{Asking, ConnState, Onward, listens, over, first_asking, asks_after_bytes, read_onward}
use Rattle.client_conn.specs.Feeding.{HasRead as Gains}
use Rattle.client_conn.specs.Shuts.{AsksToShut}
use Rattle.client_conn.proofs.Closing.{shuts_at_the_end, shut_behind}
use Rattle.client_conn.proofs.Following.{fed_twice, settled_fed, settled_first}
use Rattle.mesh_pipe.specs.declared.pipe.PipeEnd.{PipeEnd}
use Rattle.mesh_pipe.specs.declared.faults.PipeFault.{PipeFault}
use Rattle.mesh_pipe.specs.declared.faults.PipeFault.TheVariants.{Read, Write, OutOfMemory}
use Rattle.mesh_pipe.specs.declared.pipe_server.PipeServer.{PipeServer}
use Rattle.mesh_pipe.specs.PipeText.{Served, Output, at_first, text_before, asks_said, pipe_info, pipe_said, pipe_text, pipe_closes}
use Rattle.mesh_pipe.specs.PipeStates.{IsNew, served_state}
use Rattle.mesh_pipe.specs.PipeRuns.{PipeState, said_from, state_of, Waits, GoesOn, IsInStep, HasAnswered, HasFinished, HasFronted, CountsWrites}
use Rattle.mesh_pipe.specs.PipeTheorem.{AppendsBeginning, WritesText, Pipes, CountsReads, CountsFailedWrites}
use Rattle.mesh_pipe.proofs.Text.Said.{waits_there, text_before_twice}

-- ---- what was read tells this text, and then what is said from there

pub record Tells (read text : List ℕ) (at : PipeState) : Type 0 where
  pub whatever_follows : (more : List ℕ) → pipe_said (read ++ more) ≡ text_before text (said_from at more)

tells_further : (read text said : List ℕ) (at to : PipeState)
    → Tells read text at
    → GoesOn at said to
    → Tells read (text ++ said) to
tells_further read text said at to tells goes = record {
  whatever_follows = λ more.
      tells.whatever_follows more
      ∙ ap (text_before text) (goes.whatever_follows more)
      ∙ text_before_twice text said (said_from to more);
}

abbrev fed_at : PipeState → List ℕ → PipeState
fed_at at bytes = record at { asking = asks_after_bytes bytes at.asking }

tells_fed : (read text bytes : List ℕ) (at : PipeState)
    → Tells read text at
    → Tells (read ++ bytes) text (fed_at at bytes)
tells_fed read text bytes at tells = record {
  whatever_follows = λ more. ap pipe_said (append_assoc read bytes more) ∙ tells.whatever_follows (bytes ++ more)
      ∙ ap (λ (s : Asking). text_before text (asks_said s.asks at.served)) (sym (fed_twice at.asking bytes more));
}

tells_all : (read text : List ℕ) (at : PipeState)
    → Tells read text at
    → pipe_said read ≡ text_before text (said_from at [])
tells_all read text at tells = sym (ap pipe_said (append-nil read)) ∙ tells.whatever_follows []

tells_text : (read text : List ℕ) (at : PipeState)
    → Tells read text at
    → pipe_text read ≡ text ++ (said_from at []).text
tells_text read text at tells = ap (λ (r : Output). r.text) (tells_all read text at tells)

waiting_text : (read text : List ℕ) (at : PipeState) → Tells read text at → Waits at → pipe_text read ≡ text
waiting_text read text at tells waits =
    tells_text read text at tells ∙ ap (λ (r : Output). text ++ r.text) waits ∙ append-nil text

waiting_closes : (read text : List ℕ) (at : PipeState) → Tells read text at → Waits at → pipe_closes read ≡ false
waiting_closes read text at tells waits =
    ap (λ (r : Output). r.closed) (tells_all read text at tells) ∙ ap (λ (r : Output). r.closed) waits

-- ---- a pipe that is to answer what was read, and one that has

pub record HasRead {R : Type 0} (conn : ConnState) (server : PipeServer R) (before left was is : Option (List ℕ)) :
    Type 0 where
  pub read : List ℕ
  pub put : List ℕ
  pub consumed : Consumes before left read
  pub written : Appends was is put
  pub empty : server.output.items ≡ []
  pub in_step : IsInStep conn server
  pub tells : Tells read put (state_of conn server)

pub record HasServed {R : Type 0} (conn : ConnState) (server : PipeServer R) (before left was is : Option (List ℕ)) :
    Type 0 where
  pub reads : HasRead conn server before left was is
  pub none : conn.asking.asks ≡ []

waits_now : {R : Type 0} (conn : ConnState) (server : PipeServer R)
    → IsInStep conn server
    → conn.asking.asks ≡ []
    → Waits (state_of conn server)
waits_now conn server step none = waits_there (state_of conn server) step.settled none

-- ---- the start

begins_with : (s t : Served)
    → s ≡ t
    → (let at : PipeState = record { asking = first_asking pipe_info; served = s } in at)
    ≡ record { asking = first_asking pipe_info; served = t }
begins_with s t e = ap (λ u. let at : PipeState = record { asking = first_asking pipe_info; served = u } in at) e

pub read_first : {R : Type 0} (conn : ConnState) (server : PipeServer R) (before was : Option (List ℕ))
    → conn.asking ≡ first_asking pipe_info
    → IsNew server
    → HasRead conn server before before was was
read_first conn server before was begins new = record {
  read = [];
  put = [];
  consumed = Consumes-nil before;
  written = Appends-nil was;
  empty = new.empty;
  in_step = record {
    ready = new.ready;
    settled = ap (asks_after_bytes []) begins ∙ settled_first pipe_info ∙ sym begins;
    shuts = λ ends. absurd (not_over (sym (ap (λ (s : Asking). s.onward) begins) ∙ ends));
  };
  tells = record {
    whatever_follows = λ more.
        ap (λ (s : Asking). asks_said (asks_after_bytes more s).asks at_first) (sym begins)
        ∙ ap (asks_said (asks_after_bytes more conn.asking).asks) (sym new.same);
  };
}
  where
    not_over : (first_asking pipe_info).onward ≡ over → ⊥
    not_over e = cc

-- ---- a read

fed_shuts : (s : Asking) (bytes : List ℕ)
    → (s.onward ≡ over → AsksToShut s.asks)
    → (asks_after_bytes bytes s).onward ≡ over
    → AsksToShut (asks_after_bytes bytes s).asks
fed_shuts s bytes shuts ends = go s.onward refl ends
  where
    go : (onward : Onward)
        → s.onward ≡ onward
        → (read_onward s.onward bytes).onward ≡ over
        → AsksToShut (s.asks ++ (read_onward s.onward bytes).asks)
    go (listens options awaited unread) is e =
        shut_behind s.asks (read_onward s.onward bytes).asks
        (subst (λ (o : Onward). AsksToShut (read_onward o bytes).asks) (sym is)
        (shuts_at_the_end options awaited (unread ++ bytes)
        (ap (λ (o : Onward). (read_onward o bytes).onward) (sym is) ∙ e)))
    go over is e =
        subst (λ (o : Onward). AsksToShut (s.asks ++ (read_onward o bytes).asks)) (sym is)
        (subst AsksToShut (sym (append-nil s.asks)) (shuts is))

pub read_on : {R : Type 0} (conn new : ConnState) (server : PipeServer R) (before left now was is : Option (List ℕ))
    (asked n : ℕ)
    → HasServed conn server before left was is
    → Gains conn.asking new.asking left now asked n
    → HasRead new server before now was is
read_on conn new server before left now was is asked n serves gains =
    let reads = serves.reads in
    record {
      read = reads.read ++ gains.bytes;
      put = reads.put;
      consumed = Consumes-trans before left now reads.read gains.bytes reads.consumed gains.consumed;
      written = reads.written;
      empty = reads.empty;
      in_step = record {
        ready = reads.in_step.ready;
        settled = ap (asks_after_bytes []) gains.came ∙ settled_fed conn.asking gains.bytes ∙ sym gains.came;
        shuts = λ ends.
            subst (λ (s : Asking). AsksToShut s.asks) (sym gains.came)
            (fed_shuts conn.asking gains.bytes reads.in_step.shuts
            (sym (ap (λ (s : Asking). s.onward) gains.came) ∙ ends));
      };
      tells =
          subst (λ (s : Asking).
          Tells (reads.read ++ gains.bytes) reads.put (record { asking = s; served = served_state server }))
          (sym gains.came) (tells_fed reads.read reads.put gains.bytes (state_of conn server) reads.tells);
    }

-- the connection reads on: nothing stands to be asked
pub not_over : {R : Type 0} (conn : ConnState) (server : PipeServer R) (before left was is : Option (List ℕ))
    → HasServed conn server before left was is
    → conn.asking.onward ≡ over
    → ⊥
not_over conn server before left was is serves ends =
    let shuts = serves.reads.in_step.shuts ends in none_shut shuts.behind _ shuts.before (sym serves.none ∙ shuts.are)
  where
    none_shut : (last : List ClientAction) (a : ClientAction) (front : List ClientAction) → [] ≡ front ++ (a ∷ last) → ⊥
    none_shut last a [] e = cc
    none_shut last a (x ∷ front) e = cc

-- ---- behind the answers

pub served_again : {R : Type 0} (conn new_conn : ConnState) (server new : PipeServer R)
    (before left was is now : Option (List ℕ))
    → HasRead conn server before left was is
    → HasAnswered conn server is new_conn new now
    → HasServed new_conn new before left was now
served_again conn new_conn server new before left was is now reads answered = record {
  reads = record {
    read = reads.read;
    put = reads.put ++ answered.said;
    consumed = reads.consumed;
    written = Appends-trans was is now reads.put answered.said reads.written answered.written;
    empty = answered.empty;
    in_step = answered.in_step;
    tells =
        tells_further reads.read reads.put answered.said (state_of conn server) (state_of new_conn new) reads.tells
        answered.goes;
  };
  none = answered.none;
}

pub closed_text : {R : Type 0} (conn : ConnState) (server : PipeServer R) (before left was is now : Option (List ℕ))
    (reads : HasRead conn server before left was is)
    → HasFinished conn server is now
    → WritesText reads.read was now true
closed_text conn server before left was is now reads finished = record {
  written =
      subst (Appends was now)
      (sym (tells_text reads.read reads.put (state_of conn server) reads.tells
      ∙ ap (λ l. reads.put ++ l) (finished.ends.text [])))
      (Appends-trans was is now reads.put finished.said reads.written finished.written);
  closing =
      ap (λ (r : Output). r.closed) (tells_all reads.read reads.put (state_of conn server) reads.tells)
      ∙ finished.ends.closed [];
}

pub begun_text : {R : Type 0} (conn : ConnState) (server : PipeServer R) (before left was is now : Option (List ℕ))
    (reads : HasRead conn server before left was is)
    → HasFronted conn server is now
    → AppendsBeginning was now (pipe_text reads.read)
begun_text conn server before left was is now reads front = record {
  front = reads.put ++ front.put;
  rest = front.rest [];
  written = Appends-trans was is now reads.put front.put reads.written front.written;
  whole =
      tells_text reads.read reads.put (state_of conn server) reads.tells
      ∙ ap (λ l. reads.put ++ l) (front.text [])
      ∙ sym (append_assoc reads.put front.put (front.rest []));
}

-- ---- the end

pub whole_text : {R : Type 0} (conn : ConnState) (server : PipeServer R) (before left was is : Option (List ℕ))
    (serves : HasServed conn server before left was is)
    → WritesText serves.reads.read was is false
whole_text conn server before left was is serves =
    let waits = waits_now conn server serves.reads.in_step serves.none in
    record {
      written =
          subst (Appends was is)
          (sym (waiting_text serves.reads.read serves.reads.put (state_of conn server) serves.reads.tells waits))
          serves.reads.written;
      closing = waiting_closes serves.reads.read serves.reads.put (state_of conn server) serves.reads.tells waits;
    }

no_bytes : (bytes : List ℕ) (n : ℕ) → length bytes ≡ n → n ≡ 0 → bytes ≡ []
no_bytes [] n is none = refl
no_bytes (b ∷ bytes) n is none = absurd (omega arith)

pub read_to_end : {R : Type 0} (conn new : ConnState) (server : PipeServer R) (before left now was is : Option (List ℕ))
    (asked n : ℕ) (serves : HasServed conn server before left was is)
    → Gains conn.asking new.asking left now asked n
    → n ≡ 0
    → Consumes before now serves.reads.read
read_to_end conn new server before left now was is asked n serves gains none =
    subst (Consumes before now)
    (ap (λ l. serves.reads.read ++ l) (no_bytes gains.bytes n gains.count none) ∙ append-nil serves.reads.read)
    (Consumes-trans before left now serves.reads.read gains.bytes serves.reads.consumed gains.consumed)

pub whole_beginning : {R : Type 0} (conn : ConnState) (server : PipeServer R) (before left was is : Option (List ℕ))
    (serves : HasServed conn server before left was is)
    → AppendsBeginning was is (pipe_text serves.reads.read)
whole_beginning conn server before left was is serves = record {
  front = serves.reads.put;
  rest = [];
  written = serves.reads.written;
  whole =
      waiting_text serves.reads.read serves.reads.put (state_of conn server) serves.reads.tells
      (waits_now conn server serves.reads.in_step serves.none)
      ∙ sym (append-nil serves.reads.put);
}

pub nothing_written : (was : Option (List ℕ)) → AppendsBeginning was was (pipe_text [])
nothing_written was = record { front = []; rest = pipe_text []; written = Appends-nil was; whole = refl }

-- ---- faults

broke_by : (fault : PipeFault) (a b : ℕ) (read : List ℕ) (before left was is : Option (List ℕ))
    → CountsWrites {T = Unit {0}} (Err fault) a b
    → Consumes before left read
    → AppendsBeginning was is (pipe_text read)
    → Pipes (Err fault) before left was is
broke_by Read a b read before left was is counts consumed begins = absurd counts
broke_by Write a b read before left was is counts consumed begins = record {
  read = read;
  consumed = consumed;
  answers = begins;
}
broke_by OutOfMemory a b read before left was is counts consumed begins = record {
  read = read;
  consumed = consumed;
  answers = begins;
}

pub broke_off : (result : Result PipeEnd PipeFault) (fault : PipeFault) (a b : ℕ) (read : List ℕ)
    (before left was is : Option (List ℕ))
    → IsErrAnd result (λ e. e ≡ fault)
    → CountsWrites {T = Unit {0}} (Err fault) a b
    → Consumes before left read
    → AppendsBeginning was is (pipe_text read)
    → Pipes result before left was is
broke_off (Ok end) fault a b read before left was is err counts consumed begins = absurd err
broke_off (Err e) fault a b read before left was is err counts consumed begins =
    subst (λ f. Pipes (Err f) before left was is) (sym err)
    (broke_by fault a b read before left was is counts consumed begins)

reads_by : (fault : PipeFault) (a b reads reads_after failures failures_after : ℕ)
    → CountsWrites {T = Unit {0}} (Err fault) a b
    → failures_after ≡ failures
    → CountsReads (Err fault) reads reads_after failures failures_after
reads_by Read a b reads reads_after failures failures_after counts same = absurd counts
reads_by Write a b reads reads_after failures failures_after counts same = same
reads_by OutOfMemory a b reads reads_after failures failures_after counts same = same

pub no_read_failed : (result : Result PipeEnd PipeFault) (fault : PipeFault)
    (a b reads reads_after failures failures_after : ℕ)
    → IsErrAnd result (λ e. e ≡ fault)
    → CountsWrites {T = Unit {0}} (Err fault) a b
    → failures_after ≡ failures
    → CountsReads result reads reads_after failures failures_after
no_read_failed (Ok end) fault a b reads reads_after failures failures_after err counts same = absurd err
no_read_failed (Err e) fault a b reads reads_after failures failures_after err counts same =
    subst (λ f. CountsReads (Err f) reads reads_after failures failures_after) (sym err)
    (reads_by fault a b reads reads_after failures failures_after counts same)

writes_by : (fault : PipeFault) (a b : ℕ)
    → CountsWrites {T = Unit {0}} (Err fault) a b
    → CountsFailedWrites (Err fault) a b
writes_by Read a b counts = absurd counts
writes_by Write a b counts = counts
writes_by OutOfMemory a b counts = counts

pub writes_failed : (result : Result PipeEnd PipeFault) (fault : PipeFault) (first a b : ℕ)
    → IsErrAnd result (λ e. e ≡ fault)
    → CountsWrites {T = Unit {0}} (Err fault) a b
    → a ≡ first
    → CountsFailedWrites result first b
writes_failed (Ok end) fault first a b err counts same = absurd err
writes_failed (Err e) fault first a b err counts same =
    subst (λ f. CountsFailedWrites (Err f) first b) (sym err)
    (subst (λ n. CountsFailedWrites (Err fault) n b) same (writes_by fault a b counts))
