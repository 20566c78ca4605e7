-- The events that move neither the lane nor the race.
use Rattle.std.proofs.Common.{◌≡◌, ℕ, ◌+◌, ◌≤◌, Bool, true, false, true≢false, cond, List, [], ◌∷◌, ◌++◌, length, take, Option, Some, None, Result, Ok, Err, refl, sym, ap, ◌∙◌, subst, append-nil}
use Rattle.std.specs.Prelude.{option_to_list}
use Rattle.sub_table.specs.declared.Subscription.{Subscription}
use Rattle.outbox.specs.Views.{Written}
use Rattle.subj.specs.Answers.{IsAnswered, IsDecided}
use Rattle.subj.specs.declared.failures.Failure.{Failure}
use Rattle.subj.specs.declared.failures.Failure.TheVariants.{Refused, OutOfMemory}
use Rattle.shard_core.specs.Answers as of_shard
use Rattle.shard_core.specs.Held.{Held, DoesStep, IsLeft}
use Rattle.shard_core.specs.ShardEvents.{Event, Attach, Subscribe, Unsubscribe, Reply, SetHeaders, Shut, Detach, Take, Begin, Claim, End, DropJob, Drain, Collect, Answer, Taken}
use Rattle.shard_core.specs.ShardSteps.{IsAsked, sub_called, new_sub, after_subscribe, ended_now, after_unsubscribe, answer_fits, shard_refusal, shard_answer, shard_after}
use Rattle.shard_core.specs.Shards.{State, waits_for}
use Rattle.shard_core.specs.declared.faults.ShardFault.{ShardFault}
use Rattle.node_law.specs.Sound.{tried_of}
use Rattle.node_threads.specs.AtWork.{AtWork, Makes, Does, TakesBytes, IsAtWork, HasDone, at_start, one_if}
use Rattle.node_threads.specs.Steps.{job_in, claimed_in}
use Rattle.node_threads.proofs.Shards.Joining.{makes_join}

-- it is one of a client, or hands the deltas over
abbrev pub is_client : Event → Bool
is_client Attach = true
is_client (Subscribe conn key sid) = true
is_client (Unsubscribe conn sid max) = true
is_client (Reply conn frame) = true
is_client (SetHeaders conn on) = true
is_client (Shut conn text) = true
is_client (Detach conn) = true
is_client (Take conn count) = true
is_client (Begin job) = false
is_client (Claim index won) = false
is_client End = false
is_client (DropJob waiting) = false
is_client Drain = true
is_client Collect = true

record Quiet (s : State) (e : Event) : Type 0 where
  jobs : job_in e ≡ []
  claims : (as_won : Bool) → claimed_in s e as_won ≡ []
  asked : IsAsked s e

quiet : (s : State) (e : Event) → is_client e ≡ true → Quiet s e
quiet s Attach c = record { jobs = refl; claims = λ b. refl; asked = tt }
quiet s (Subscribe conn key sid) c = record { jobs = refl; claims = λ b. refl; asked = tt }
quiet s (Unsubscribe conn sid max) c = record { jobs = refl; claims = λ b. refl; asked = tt }
quiet s (Reply conn frame) c = record { jobs = refl; claims = λ b. refl; asked = tt }
quiet s (SetHeaders conn on) c = record { jobs = refl; claims = λ b. refl; asked = tt }
quiet s (Shut conn text) c = record { jobs = refl; claims = λ b. refl; asked = tt }
quiet s (Detach conn) c = record { jobs = refl; claims = λ b. refl; asked = tt }
quiet s (Take conn count) c = record { jobs = refl; claims = λ b. refl; asked = tt }
quiet s (Begin job) c = absurd (true≢false (sym c))
quiet s (Claim index won) c = absurd (true≢false (sym c))
quiet s End c = absurd (true≢false (sym c))
quiet s (DropJob waiting) c = absurd (true≢false (sym c))
quiet s Drain c = record { jobs = refl; claims = λ b. refl; asked = tt }
quiet s Collect c = record { jobs = refl; claims = λ b. refl; asked = tt }

-- the job in hand, its next index and the finished turn stay
record Rests (s after : State) : Type 0 where
  hand : after.hand ≡ s.hand
  next : after.next_index ≡ s.next_index
  finished : after.finished ≡ s.finished

still : (s after : State)
    → after.hand ≡ s.hand
    → after.next_index ≡ s.next_index
    → after.finished ≡ s.finished
    → Rests s after
still s after h n f = record { hand = h; next = n; finished = f }

either : (s x y : State) (b : Bool) → Rests s x → Rests s y → Rests s (cond b x y)
either s x y true f g = f
either s x y false f g = g

rests : (s : State) (e : Event) → is_client e ≡ true → Rests s (shard_after s e)
rests s Attach c = still s _ refl refl refl
rests s (Subscribe conn key sid) c = go (sub_called conn sid s.subs)
  where
    go : (u : Option Subscription) → Rests s (after_subscribe s (new_sub s conn key sid) u)
    go None = still s _ refl refl refl
    go (Some u) = still s _ refl refl refl
rests s (Unsubscribe conn sid max) c = go (sub_called conn sid s.subs)
  where
    go : (u : Option Subscription) → Rests s (after_unsubscribe s max u)
    go None = still s _ refl refl refl
    go (Some u) = either s _ _ (ended_now max u) (still s _ refl refl refl) (still s _ refl refl refl)
rests s (Reply conn frame) c = either s _ _ (answer_fits s conn _) (still s _ refl refl refl) (still s _ refl refl refl)
rests s (SetHeaders conn on) c = still s _ refl refl refl
rests s (Shut conn text) c = still s _ refl refl refl
rests s (Detach conn) c = still s _ refl refl refl
rests s (Take conn count) c = still s _ refl refl refl
rests s (Begin job) c = absurd (true≢false (sym c))
rests s (Claim index won) c = absurd (true≢false (sym c))
rests s End c = absurd (true≢false (sym c))
rests s (DropJob waiting) c = absurd (true≢false (sym c))
rests s Drain c = still s _ refl refl refl
rests s Collect c = still s _ refl refl refl

-- the shard's step alone
abbrev pub with_state : AtWork → State → AtWork
with_state w s = record w { state = s }

pub client_makes : (w : AtWork) (e : Event)
    → is_client e ≡ true
    → shard_refusal w.state e ≡ None
    → Makes w (record { before = w.state; event = e; answer = shard_answer w.state e } ∷ [])
    (with_state w (shard_after w.state e))
client_makes w e c free = let q = quiet w.state e c in record {
  got = [];
  led = (record { cause = free; asked = q.asked; answered = refl; after = refl }, refl);
  popped = sym (append-nil w.popped);
  taken = append-nil (option_to_list w.waiting) ∙ ap (λ l. l ++ option_to_list w.waiting) (sym q.jobs);
  shard = refl;
  won = sym (append-nil w.part.won) ∙ ap (λ l. w.part.won ++ l) (sym (q.claims true));
  lost = sym (append-nil w.part.lost) ∙ ap (λ l. w.part.lost ++ l) (sym (q.claims false));
}

client_done : (shards : ℕ) (w : AtWork) (e : Event)
    → is_client e ≡ true
    → shard_refusal w.state e ≡ None
    → HasDone shards w
    → HasDone shards (with_state w (shard_after w.state e))
client_done shards w e c free d = (
  _,
  makes_join (at_start w.part.shard shards) w (with_state w (shard_after w.state e)) d.0
      (record { before = w.state; event = e; answer = shard_answer w.state e } ∷ []) d.1 (client_makes w e c free),
)

pub client_at_work : (shards next_index : ℕ) (w : AtWork) (e : Event)
    → is_client e ≡ true
    → shard_refusal w.state e ≡ None
    → IsAtWork shards next_index w
    → IsAtWork shards next_index (with_state w (shard_after w.state e))
client_at_work shards next_index w e c free i =
    let r = rests w.state e c in
    record {
      index = i.index ∙ sym r.next;
      finished = i.finished ∙ sym r.finished;
      next = subst (λ n. w.part.next ≤ n) ((λ k. tried_of (sym r.hand k) (sym r.next k))) i.next;
      hand = λ job h.
          let t = i.hand job (sym r.hand ∙ h) in
          record {
            turn = t.turn ∙ ap (λ f. f + 1) (sym r.finished);
            seen = t.seen;
            tried = subst (λ n. n ≤ length job.queues) (sym r.next) t.tried;
          };
      waits = λ job h.
          let n = i.waits job h in
          record { turn = n.turn ∙ ap (λ f. f + 1) (sym r.finished); alone = r.hand ∙ n.alone };
      count = i.count ∙ (λ k. (sym r.finished k) + one_if (sym r.hand k) + one_if w.waiting);
      done = client_done shards w e c free i.done;
    }

-- what a call of a client comes to
pub record Called (T : Type 0) (shards next_index : ℕ) (w new : AtWork) (e : Event) (answer : T → Answer)
    (r : Result T (Failure ShardFault)) : Type 0 where
  pub works : IsAtWork shards next_index new
  pub answers : IsAnswered (shard_refusal w.state e) (λ x. Does w e (answer x) new) (new ≡ w) r

pub client_call : {T : Type 0} (shards next_index : ℕ) (w : AtWork) (held held' : Held) (e : Event)
    (answer : T → Answer) (r : Result T (Failure ShardFault))
    → is_client e ≡ true
    → w.state ≡ held.state
    → IsAtWork shards next_index w
    → IsAnswered (shard_refusal held.state e) (λ x. DoesStep held e (answer x) held') (IsLeft held held') r
    → Called T shards next_index w (with_state w held'.state) e answer r
client_call {T} shards next_index w held held' e answer r c is i h = go r h
  where
    free : (cause : Option ShardFault) → shard_refusal held.state e ≡ cause → shard_refusal w.state e ≡ cause
    free cause g = ap (λ s. shard_refusal s e) is ∙ g

    left : IsLeft held held' → with_state w held'.state ≡ w
    left l = ap (λ s. with_state w s) (ap (λ (h : Held). h.state) l ∙ sym is)

    stays : (r : Result T (Failure ShardFault))
        → with_state w held'.state ≡ w
        → IsAnswered (shard_refusal w.state e) (λ x. Does w e (answer x) (with_state w held'.state))
        (with_state w held'.state ≡ w) r
        → Called T shards next_index w (with_state w held'.state) e answer r
    stays r l a = record { works = subst (IsAtWork shards next_index) (sym l) i; answers = a }

    go : (r : Result T (Failure ShardFault))
        → IsAnswered (shard_refusal held.state e) (λ x. DoesStep held e (answer x) held') (IsLeft held held') r
        → Called T shards next_index w (with_state w held'.state) e answer r
    go (Ok x) g =
        let after : held'.state ≡ shard_after w.state e =
        ap (λ (h : Held). h.state) g.1.after ∙ ap (λ s. shard_after s e) (sym is) in
        record {
          works =
              subst (λ s. IsAtWork shards next_index (with_state w s)) (sym after)
              (client_at_work shards next_index w e c (free None g.0) i);
          answers = (
            free None g.0,
            record {
              answered = g.1.answered ∙ ap (λ s. shard_answer s e) (sym is);
              after = ap (λ s. with_state w s) after;
            },
          );
        }
    go (Err (Refused why)) g = stays (Err (Refused why)) (left g.1) (free (Some why) g.0, left g.1)
    go (Err OutOfMemory) g = stays (Err OutOfMemory) (left g.1) (free None g.0, left g.1)

-- the same of a call that takes no memory
pub client_decided : {T : Type 0} (shards next_index : ℕ) (w : AtWork) (held held' : Held) (e : Event)
    (answer : T → Answer) (r : Result T ShardFault)
    → is_client e ≡ true
    → w.state ≡ held.state
    → IsAtWork shards next_index w
    → IsDecided (shard_refusal held.state e) (λ x. DoesStep held e (answer x) held') (IsLeft held held') r
    → IsAtWork shards next_index (with_state w held'.state)
client_decided {T} shards next_index w held held' e answer r c is i h = go r h
  where
    go : (r : Result T ShardFault)
        → IsDecided (shard_refusal held.state e) (λ x. DoesStep held e (answer x) held') (IsLeft held held') r
        → IsAtWork shards next_index (with_state w held'.state)
    go (Ok x) g = (client_call shards next_index w held held' e answer (Ok x) c is i g).works
    go (Err why) g = (client_call shards next_index w held held' e answer (Err (Refused why)) c is i g).works

-- the deltas are handed over
pub collected_at_work : (shards next_index : ℕ) (w : AtWork) (held held' : Held) (answer : Answer)
    → w.state ≡ held.state
    → IsAtWork shards next_index w
    → DoesStep held Collect answer held'
    → IsAtWork shards next_index (with_state w held'.state)
collected_at_work shards next_index w held held' answer is i d =
    (client_call {T = Unit {0}} shards next_index w held held' Collect (λ _. answer) (Ok tt) refl is i (refl, d)).works

-- what a take comes to that moves the bytes of the entries
pub record TookBytes (shards next_index : ℕ) (w new : AtWork) (conn count : ℕ) (before bytes : List ℕ)
    (r : Result ℕ (Failure ShardFault)) : Type 0 where
  pub works : IsAtWork shards next_index new
  pub answers : IsAnswered (shard_refusal w.state (Take conn count))
      (λ taken. TakesBytes w conn count taken before bytes new) ((new ≡ w) × (bytes ≡ before)) r

pub took_bytes : (shards next_index : ℕ) (w : AtWork) (held held' : Held) (conn count : ℕ) (before bytes : List ℕ)
    (r : Result ℕ (Failure ShardFault))
    → w.state ≡ held.state
    → IsAtWork shards next_index w
    → IsAnswered (shard_refusal held.state (Take conn count))
    (λ taken. of_shard.TakesBytes held conn count taken before bytes held') (IsLeft held held' × (bytes ≡ before)) r
    → TookBytes shards next_index w (with_state w held'.state) conn count before bytes r
took_bytes shards next_index w held held' conn count before bytes r is i h = go r h
  where
    given : List Written
    given = take count (waits_for conn held.state.clients)

    go : (r : Result ℕ (Failure ShardFault))
        → IsAnswered (shard_refusal held.state (Take conn count))
        (λ taken. of_shard.TakesBytes held conn count taken before bytes held') (IsLeft held held' × (bytes ≡ before)) r
        → TookBytes shards next_index w (with_state w held'.state) conn count before bytes r
    go (Ok n) g =
        let sub_called = client_call {T = Unit {0}} shards next_index w held held' (Take conn count) (λ _. Taken given)
        (Ok tt) refl is i (g.0, record { answered = refl; after = g.1.after }) in
        record {
          works = sub_called.works;
          answers = (
            sub_called.answers.0,
            record { entries = given; does = sub_called.answers.1; told = g.1.told; bytes_are = g.1.bytes_are },
          );
        }
    go (Err (Refused why)) g =
        let sub_called = client_call {T = Unit {0}} shards next_index w held held' (Take conn count) (λ _. Taken given)
        (Err (Refused why)) refl is i (g.0, g.1.0) in
        record { works = sub_called.works; answers = (sub_called.answers.0, (sub_called.answers.1, g.1.1)) }
    go (Err OutOfMemory) g =
        let sub_called = client_call {T = Unit {0}} shards next_index w held held' (Take conn count) (λ _. Taken given)
        (Err OutOfMemory) refl is i (g.0, g.1.0) in
        record { works = sub_called.works; answers = (sub_called.answers.0, (sub_called.answers.1, g.1.1)) }
