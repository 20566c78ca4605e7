-- What is said of what a connection asks, ask by ask.
use Rattle.std.proofs.Common.{◌≡◌, ℕ, ◌+◌, ◌<◌, true, false, true≢false, cond, List, [], ◌∷◌, ◌++◌, Some, None, Ok, Err, refl, ap, sym, ◌∙◌, subst, arith, append_assoc, append-nil}
use Rattle.std.specs.Prelude.{IsTrue, if◌then◌else◌, slice_get, sum_by}
use Rattle.std.proofs.lemmas.Option.{none-some, same_Some}
use Rattle.std.proofs.lemmas.List.Sums.{sum_by-cons}
use Rattle.client_frames.specs.declared.err_texts.ErrText.{ErrText}
use Rattle.client_frames.specs.declared.err_texts.ErrText.TheVariants as text
use Rattle.client_frames.specs.declared.server_frames.ReplyFrame.TheVariants as reply
use Rattle.client_frames.specs.ErrTexts.{err_line}
use Rattle.client_conn.specs.declared.ask.ClientAction.{ClientAction}
use Rattle.client_conn.specs.declared.ask.ClientAction.TheVariants as ask
use Rattle.client_conn.specs.declared.ask.Refusal.{Refusal}
use Rattle.client_conn.specs.declared.ask.Refusal.TheVariants.{Busy, TooManySubscriptions, NumbersSpent, TooManyQueueGroups, Draining, Other}
use Rattle.client_conn.specs.Asks.{Asking, Answer, ConnState, Onward, asks_after_bytes, read_onward, asks_after_answer, answered_first}
use Rattle.client_conn.specs.Shuts.{AsksToShut}
use Rattle.client_conn.proofs.Following.{in_any_order}
use Rattle.outbox.specs.Views.{reply_entry}
use Rattle.mesh_pipe.specs.declared.pipe_server.Outcome.TheVariants.{Answered, Closed}
use Rattle.mesh_pipe.specs.declared.pipe_server.PipeServer.{PipeServer}
use Rattle.mesh_pipe.specs.PipeText.{Served, Output, at_rest, no_output, text_before, and_then, ask_said, asks_said, error_told}
use Rattle.mesh_pipe.specs.PipeStates.{served_state, asks_of, HasServed, MayBeTold}
use Rattle.mesh_pipe.specs.PipeRuns.{PipeState, said_from, state_of, left_of, Waits, GoesOn, Ends, IsInStep, HasWorked, HasClosed}
use Rattle.mesh_pipe.proofs.Server.Outputs.{alone_at_rest, behind_shut, output_closed}

-- ---- one after the other

pub text_before_twice : (front text : List ℕ) (said : Output)
    → text_before front (text_before text said) ≡ text_before (front ++ text) said
text_before_twice front text said =
    ap (λ t. let r : Output = record said { text = t } in r) (sym (append_assoc front text said.text))

then_open : (first : Output) (rest : Served → Output)
    → first.closed ≡ false
    → and_then first rest ≡ text_before first.text (rest first.served)
then_open first rest is = ap (λ b. cond b first (text_before first.text (rest first.served))) is

then_closed : (first : Output) (rest : Served → Output) → first.closed ≡ true → and_then first rest ≡ first
then_closed first rest is = ap (λ b. cond b first (text_before first.text (rest first.served))) is

said_first : (a : ClientAction) (asks : List ClientAction) (s : Served)
    → asks_said (a ∷ asks) s ≡ and_then (ask_said a s) (asks_said asks)
unfolding asks_said
said_first a asks s = refl

pub said_none : (s : Served) → asks_said [] s ≡ no_output s
unfolding asks_said
said_none s = refl

pub goes_nowhere : (at : PipeState) → GoesOn at [] at
goes_nowhere at = record { whatever_follows = λ more. refl }

pub goes_further : (from mid to : PipeState) (front text : List ℕ)
    → GoesOn from front mid
    → GoesOn mid text to
    → GoesOn from (front ++ text) to
goes_further from mid to front text first second = record {
  whatever_follows = λ more.
      first.whatever_follows more
      ∙ ap (text_before front) (second.whatever_follows more)
      ∙ text_before_twice front text (said_from to more);
}

pub ends_further : (from mid : PipeState) (front text : List ℕ)
    → GoesOn from front mid
    → Ends mid text
    → Ends from (front ++ text)
ends_further from mid front text first second = record {
  text = λ more. ap (λ (r : Output). r.text) (first.whatever_follows more) ∙ ap (λ t. front ++ t) (second.text more);
  closed = λ more. ap (λ (r : Output). r.closed) (first.whatever_follows more) ∙ second.closed more;
}

-- nothing is said where nothing stands to be asked
pub waits_there : (at : PipeState) → asks_after_bytes [] at.asking ≡ at.asking → at.asking.asks ≡ [] → Waits at
waits_there at settled none =
    ap (λ (a : Asking). asks_said a.asks at.served) settled
    ∙ ap (λ (asks : List ClientAction). asks_said asks at.served) none
    ∙ said_none at.served

-- ---- the first ask

record StartsWith (a : ClientAction) (asks : List ClientAction) : Type 0 where
  rest : List ClientAction
  are : asks ≡ a ∷ rest

starts : (a : ClientAction) (asks : List ClientAction) → slice_get asks 0 ≡ Some a → StartsWith a asks
starts a [] is = absurd (none-some a is)
starts a (b ∷ rest) is = record { rest = rest; are = ap (λ (x : ClientAction). x ∷ rest) (same_Some b a is) }

pub none_there : (asks : List ClientAction) → slice_get asks 0 ≡ None → asks ≡ []
none_there [] is = refl
none_there (b ∷ rest) is = absurd (none-some b (sym is))

abbrev at_ask : ClientAction → List ClientAction → Onward → Served → PipeState
at_ask a rest onward s = record { asking = record { asks = a ∷ rest; onward = onward }; served = s }

abbrev behind_ask : List ClientAction → Onward → Served → PipeState
behind_ask rest onward s = record { asking = record { asks = rest; onward = onward }; served = s }

goes_by_ask : (a : ClientAction) (rest : List ClientAction) (onward : Onward) (s : Served)
    → (ask_said a s).closed ≡ false
    → GoesOn (at_ask a rest onward s) (ask_said a s).text (behind_ask rest onward (ask_said a s).served)
goes_by_ask a rest onward s still = record {
  whatever_follows = λ more.
      said_first a (rest ++ (read_onward onward more).asks) s
      ∙ then_open (ask_said a s) (asks_said (rest ++ (read_onward onward more).asks)) still;
}

ends_by_ask : (a : ClientAction) (rest : List ClientAction) (onward : Onward) (s : Served)
    → (ask_said a s).closed ≡ true
    → Ends (at_ask a rest onward s) (ask_said a s).text
ends_by_ask a rest onward s closes =
    let all : (more : List ℕ) → said_from (at_ask a rest onward s) more ≡ ask_said a s = λ more.
    said_first a (rest ++ (read_onward onward more).asks) s
    ∙ then_closed (ask_said a s) (asks_said (rest ++ (read_onward onward more).asks)) closes in
    record {
      text = λ more. ap (λ (r : Output). r.text) (all more);
      closed = λ more. ap (λ (r : Output). r.closed) (all more) ∙ closes;
    }

-- a refusal is told in its place
goes_by_telling : (a : ClientAction) (rest : List ClientAction) (onward : Onward) (s : Served) (why : ErrText)
    → ask_said a s ≡ error_told why s
    → GoesOn (at_ask a rest onward s) [] (behind_ask (ask.Reply (reply.Err why) ∷ rest) onward s)
goes_by_telling a rest onward s why is = record {
  whatever_follows = λ more.
      let others = rest ++ (read_onward onward more).asks in
      said_first a others s
      ∙ ap (λ (r : Output). and_then r (asks_said others)) is
      ∙ sym (said_first (ask.Reply (reply.Err why)) others s);
}

-- ---- the shut that stands to be asked

shut_closes : (why : ErrText) (s : Served) → (ask_said (ask.Shut why) s).closed ≡ true
shut_closes why s =
    output_closed _ (reply_entry (err_line why) ∷ []) true
    (behind_shut (at_rest s) (err_line why) (alone_at_rest (at_rest s) s refl))

abbrev rest_of : List ClientAction → List ClientAction
rest_of [] = []
rest_of (a ∷ asks) = asks

abbrev first_of : ClientAction → List ClientAction → ClientAction
first_of d [] = d
first_of d (a ∷ asks) = a

shuts_later : (a : ClientAction) (rest : List ClientAction)
    → ((why : ErrText) → a ≡ ask.Shut why → ⊥)
    → AsksToShut (a ∷ rest)
    → AsksToShut rest
shuts_later a rest other shuts = go shuts.before shuts.are
  where
    go : (before : List ClientAction) → (a ∷ rest) ≡ before ++ (ask.Shut shuts.text ∷ shuts.behind) → AsksToShut rest
    go [] is = absurd (other shuts.text (ap (first_of a) is))
    go (b ∷ before) is = record { before = before; text = shuts.text; behind = shuts.behind; are = ap rest_of is }

one_more : (a : ClientAction) (rest : List ClientAction) → AsksToShut rest → AsksToShut (a ∷ rest)
one_more a rest shuts = record {
  before = a ∷ shuts.before;
  text = shuts.text;
  behind = shuts.behind;
  are = ap (λ l. a ∷ l) shuts.are;
}

no_shut : (a : ClientAction) (why : ErrText) → asks_of a ≡ 2 → a ≡ ask.Shut why → ⊥
no_shut a why two is = let same = ap asks_of is in absurd (omega (arith, two, same))

-- ---- an answer

record Goes {R : Type 0} (conn : ConnState) (server : PipeServer R) (next : Asking) (new : PipeServer R) : Type 0 where
  said : List ℕ
  put : new.output.items ≡ server.output.items ++ said
  ready : IsInStep (record conn { asking = next }) new
  goes : GoesOn (state_of conn server) said (record { asking = next; served = served_state new })
  fewer : sum_by asks_of next.asks < left_of conn

some_ask : (a : ClientAction) (rest : List ClientAction) → ¬ ((a ∷ rest) ≡ [])
some_ask a rest is = cc

weigh : (a : ClientAction) (rest : List ClientAction) → sum_by asks_of (a ∷ rest) ≡ asks_of a + sum_by asks_of rest
weigh a rest = sum_by-cons asks_of a rest

pos : (a : ClientAction) → 0 < asks_of a
pos (ask.Reply frame) = omega arith
pos (ask.SetHeaders on) = omega arith
pos (ask.Shut why) = omega arith
pos (ask.Subscribe key sid) = omega arith
pos (ask.Unsubscribe sid max) = omega arith
pos (ask.Publish p) = omega arith

settled_behind : (answer : Answer) (a : ClientAction) (rest : List ClientAction) (onward : Onward)
    → (let s : Asking = record { asks = a ∷ rest; onward = onward } in asks_after_bytes [] s ≡ s)
    → asks_after_bytes [] (answered_first answer (a ∷ rest) onward) ≡ answered_first answer (a ∷ rest) onward
settled_behind answer a rest onward settled =
    in_any_order answer (record { asks = a ∷ rest; onward = onward }) [] (some_ask a rest)
    ∙ ap (asks_after_answer answer) settled

-- this connection, where it asks for this first
abbrev conn_at : ClientAction → List ClientAction → Onward → ConnState → ConnState
conn_at a rest onward was = record was { asking = record { asks = a ∷ rest; onward = onward } }

telling_goes : {R : Type 0} (a : ClientAction) (rest : List ClientAction) (onward : Onward) (was : ConnState)
    (server : PipeServer R) (refusal : Refusal) (why : ErrText)
    → IsInStep (conn_at a rest onward was) server
    → asks_of a ≡ 2
    → ask_said a (served_state server) ≡ error_told why (served_state server)
    → asks_after_bytes [] (answered_first (Err refusal) (a ∷ rest) onward)
    ≡ answered_first (Err refusal) (a ∷ rest) onward
    → answered_first (Err refusal) (a ∷ rest) onward
    ≡ record { asks = ask.Reply (reply.Err why) ∷ rest; onward = onward }
    → Goes (conn_at a rest onward was) server (record { asks = ask.Reply (reply.Err why) ∷ rest; onward = onward })
    server
telling_goes a rest onward was server refusal why step two is settled same = record {
  said = [];
  put = sym (append-nil server.output.items);
  ready = record {
    ready = step.ready;
    settled = subst (λ (s : Asking). asks_after_bytes [] s ≡ s) same settled;
    shuts = λ ends.
        one_more (ask.Reply (reply.Err why)) rest
        (shuts_later a rest (λ t shut. no_shut a t two shut) (step.shuts ends));
  };
  goes = goes_by_telling a rest onward (served_state server) why is;
  fewer =
      let before = weigh a rest in
      let after = weigh (ask.Reply (reply.Err why)) rest in
      omega (arith, before, after, two);
}

answer_goes : {R : Type 0} (answer : Answer) (a : ClientAction) (rest : List ClientAction) (onward : Onward)
    (was : ConnState) (old new : PipeServer R)
    → IsInStep (conn_at a rest onward was) old
    → HasServed (Answered answer) (ask_said a (served_state old)) old new
    → MayBeTold (Answered answer) a
    → Goes (conn_at a rest onward was) old (answered_first answer (a ∷ rest) onward) new
answer_goes (Ok done) a rest onward was old new step serves may = record {
  said = (ask_said a (served_state old)).text;
  put = serves.1.text;
  ready = record {
    ready = serves.1.ready;
    settled = settled_behind (Ok done) a rest onward step.settled;
    shuts = λ ends.
        shuts_later a rest
        (λ t shut.
        true≢false
        (sym (ap (λ x. (ask_said x (served_state old)).closed) shut ∙ shut_closes t (served_state old)) ∙ serves.0))
        (step.shuts ends);
  };
  goes =
      subst (λ (s : Served).
      GoesOn (at_ask a rest onward (served_state old)) (ask_said a (served_state old)).text (behind_ask rest onward s))
      (sym serves.1.same) (goes_by_ask a rest onward (served_state old) serves.0);
  fewer = let before = weigh a rest in let some = pos a in omega (arith, before, some);
}
answer_goes (Err Busy) a rest onward was old new step serves may = absurd serves.0
answer_goes (Err TooManySubscriptions) a rest onward was old new step serves may =
    subst
    (Goes (conn_at a rest onward was) old
    (record { asks = ask.Reply (reply.Err text.TooManySubscriptions) ∷ rest; onward = onward }))
    (sym serves.1)
    (telling_goes a rest onward was old TooManySubscriptions text.TooManySubscriptions step may serves.0
    (settled_behind (Err TooManySubscriptions) a rest onward step.settled) refl)
answer_goes (Err NumbersSpent) a rest onward was old new step serves may =
    subst
    (Goes (conn_at a rest onward was) old
    (record { asks = ask.Reply (reply.Err text.NumbersSpent) ∷ rest; onward = onward }))
    (sym serves.1)
    (telling_goes a rest onward was old NumbersSpent text.NumbersSpent step may serves.0
    (settled_behind (Err NumbersSpent) a rest onward step.settled) refl)
answer_goes (Err TooManyQueueGroups) a rest onward was old new step serves may =
    subst
    (Goes (conn_at a rest onward was) old
    (record { asks = ask.Reply (reply.Err text.TooManyQueueGroups) ∷ rest; onward = onward }))
    (sym serves.1)
    (telling_goes a rest onward was old TooManyQueueGroups text.TooManyQueueGroups step may serves.0
    (settled_behind (Err TooManyQueueGroups) a rest onward step.settled) refl)
answer_goes (Err Draining) a rest onward was old new step serves may =
    subst
    (Goes (conn_at a rest onward was) old
    (record { asks = ask.Reply (reply.Err text.Draining) ∷ rest; onward = onward }))
    (sym serves.1)
    (telling_goes a rest onward was old Draining text.Draining step may serves.0
    (settled_behind (Err Draining) a rest onward step.settled) refl)
answer_goes (Err Other) a rest onward was old new step serves may = absurd serves.0

-- a connection that asks for this first
asking_is : (conn : ConnState) (a : ClientAction) (rest : List ClientAction)
    → conn.asking.asks ≡ a ∷ rest
    → conn ≡ conn_at a rest conn.asking.onward conn
asking_is conn a rest is =
    λ k. record conn { asking = record { asks = is k; onward = conn.asking.onward } }

in_step_again : {R : Type 0} (conn : ConnState) (next : Asking) (new_conn : ConnState) (new : PipeServer R)
    → new_conn.asking ≡ next
    → IsInStep (record conn { asking = next }) new
    → IsInStep new_conn new
in_step_again conn next new_conn new is step = record {
  ready = step.ready;
  settled = ap (asks_after_bytes []) is ∙ step.settled ∙ sym is;
  shuts = λ ends.
      subst (λ (s : Asking). AsksToShut s.asks) (sym is) (step.shuts (sym (ap (λ (s : Asking). s.onward) is) ∙ ends));
}

pub ask_worked : {R : Type 0} (answer : Answer) (a : ClientAction) (conn mid new_conn : ConnState)
    (old new : PipeServer R)
    → IsInStep conn old
    → slice_get conn.asking.asks 0 ≡ Some a
    → HasServed (Answered answer) (ask_said a (served_state old)) old new
    → MayBeTold (Answered answer) a
    → mid.asking ≡ conn.asking
    → IsTrue mid.given
    → new_conn.asking ≡ (if mid.given then asks_after_answer answer mid.asking else mid.asking)
    → HasWorked conn old new_conn new
ask_worked answer a conn mid new_conn old new step is serves may same given next =
    let begins = starts a conn.asking.asks is in
    let at = asking_is conn a begins.rest begins.are in
    let goes = answer_goes answer a begins.rest conn.asking.onward conn old new
    (subst (λ (c : ConnState). IsInStep c old) at step) serves may in
    let next_is : new_conn.asking ≡ answered_first answer (a ∷ begins.rest) conn.asking.onward =
    next
    ∙ ap (λ b. if b then asks_after_answer answer mid.asking else mid.asking) given
    ∙ ap (asks_after_answer answer) (same ∙ ap (λ (c : ConnState). c.asking) at) in
    record {
      said = goes.said;
      put = goes.put;
      in_step = in_step_again (conn_at a begins.rest conn.asking.onward conn) _ new_conn new next_is goes.ready;
      goes =
          subst (λ (c : ConnState). GoesOn (state_of c old) goes.said (state_of new_conn new)) (sym at)
          (subst (λ (s : Asking).
          GoesOn (state_of (conn_at a begins.rest conn.asking.onward conn) old) goes.said
          (record { asking = s; served = served_state new }))
          (sym next_is) goes.goes);
      fewer =
          let fewer = goes.fewer in
          let here = ap (λ (s : Asking). sum_by asks_of s.asks) next_is in
          let there = ap left_of at in
          omega (arith, fewer, here, there);
    }

pub ask_closed : {R : Type 0} (a : ClientAction) (conn : ConnState) (old new : PipeServer R)
    → slice_get conn.asking.asks 0 ≡ Some a
    → HasServed Closed (ask_said a (served_state old)) old new
    → HasClosed conn old new
ask_closed a conn old new is serves =
    let begins = starts a conn.asking.asks is in
    let at = asking_is conn a begins.rest begins.are in
    record {
      said = (ask_said a (served_state old)).text;
      put = serves.1;
      ends =
          subst (λ (c : ConnState). Ends (state_of c old) (ask_said a (served_state old)).text) (sym at)
          (ends_by_ask a begins.rest conn.asking.onward (served_state old) serves.0);
    }
