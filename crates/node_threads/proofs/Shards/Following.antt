-- Runs of jobs that are worked one behind another.
use Rattle.std.proofs.Common.{◌≡◌, ℕ, zero, suc, ◌+◌, Bool, true, false, List, [], ◌∷◌, ◌++◌, length, take, drop, refl, sym, ap, ◌∙◌, subst, append_assoc, append-nil, length-append, arith}
use Rattle.std.proofs.lemmas.List.{length-map, length-drop, map-append}
use Rattle.subj.specs.declared.jobs.Job.{Job}
use Rattle.claim_cells.specs.declared.parts.ShardPart.{ShardPart}
use Rattle.shard_core.specs.ShardEvents.{Event, Begin, End}
use Rattle.shard_core.specs.Shards.{State}
use Rattle.node_threads.specs.Steps.{Done, claims_of}
use Rattle.node_threads.specs.Turns.{WorksFirst, WorksThrough, claims_from, events_of, worked_through}
use Rattle.node_threads.proofs.Shards.Joining.{leads_join, jobs_join, claims_join}

events_join : (first then : List Done) → events_of (then ++ first) ≡ events_of first ++ events_of then
events_join first [] = sym (append-nil (events_of first))
events_join first (d ∷ earlier) =
    ap (λ l. l ++ d.event ∷ []) (events_join first earlier)
    ∙ append_assoc (events_of first) (events_of earlier) (d.event ∷ [])

worked_join : (jobs more : List Job) (wins later : List (List Bool))
    → length wins ≡ length jobs
    → worked_through (jobs ++ more) (wins ++ later) ≡ worked_through jobs wins ++ worked_through more later
worked_join [] more [] later same = refl
worked_join [] more (won ∷ wins) later same = absurd (omega (arith, same))
worked_join (job ∷ jobs) more [] later same = absurd (omega (arith, same))
worked_join (job ∷ jobs) more (won ∷ wins) later same =
    let rest = worked_through more later in
    ap (λ (l : List Event). Begin job ∷ (claims_from 0 won ++ End ∷ l))
    (worked_join jobs more wins later (omega (arith, same)))
    ∙ ap (λ (l : List Event). Begin job ∷ l)
    (sym (append_assoc (claims_from 0 won) (End ∷ worked_through jobs wins) rest))

take_none : {A : Type 0} (n : ℕ) → take {A = A} n [] ≡ []
take_none zero = refl
take_none (suc n) = refl

-- the first so many, and so many behind these
take_join : {A : Type 0} (n more : ℕ) (xs : List A) → take n xs ++ take more (drop n xs) ≡ take (n + more) xs
take_join zero more xs = let same : more ≡ 0 + more = omega arith in ap (λ m. take m xs) same
take_join (suc n) more [] = take_none more ∙ sym (take_none (suc n + more))
take_join (suc n) more (x ∷ xs) =
    let same : suc (n + more) ≡ suc n + more = omega arith in
    ap (λ l. x ∷ l) (take_join n more xs) ∙ ap (λ m. take m (x ∷ xs)) same

through_join : (jobs more : List Job) (a b c : State) (p q r : ShardPart)
    → WorksThrough jobs a p b q
    → WorksThrough more b q c r
    → WorksThrough (jobs ++ more) a p c r
through_join jobs more a b c p q r one two =
    let claims = λ (job : Job). length job.queues in
    let wins = λ (won : List Bool). length won in
    let counted : length one.wins ≡ length jobs =
    sym (length-map one.wins wins) ∙ ap length one.names ∙ length-map jobs claims in
    let both = length-append jobs more in
    let finished = one.finished in
    let later = two.finished in
    let turns = one.turns in
    let on = two.turns in
    record {
      wins = one.wins ++ two.wins;
      steps = two.steps ++ one.steps;
      led = leads_join a b c one.steps two.steps one.led two.led;
      events =
          events_join one.steps two.steps
          ∙ (λ k. one.events k ++ two.events k)
          ∙ sym (worked_join jobs more one.wins two.wins counted);
      names =
          map-append wins one.wins two.wins
          ∙ (λ k. one.names k ++ two.names k)
          ∙ sym (map-append claims jobs more);
      begun = jobs_join one.steps two.steps ∙ (λ k. one.begun k ++ two.begun k);
      hand = two.hand;
      next_index = two.next_index;
      finished = omega (arith, both, finished, later);
      shard = two.shard ∙ one.shard;
      turns = omega (arith, both, turns, on);
      next = two.next;
      won =
          two.won
          ∙ ap (λ l. l ++ claims_of true two.steps) one.won
          ∙ append_assoc p.won (claims_of true one.steps) (claims_of true two.steps)
          ∙ ap (λ l. p.won ++ l) (sym (claims_join true one.steps two.steps));
      lost =
          two.lost
          ∙ ap (λ l. l ++ claims_of false two.steps) one.lost
          ∙ append_assoc p.lost (claims_of false one.steps) (claims_of false two.steps)
          ∙ ap (λ l. p.lost ++ l) (sym (claims_join false one.steps two.steps));
    }

-- none of these jobs is worked yet
pub first_none : (jobs : List Job) (a : State) (p : ShardPart) → WorksFirst jobs 0 a p a p
first_none jobs a p = record {
  few = omega arith;
  none = λ z. refl;
  left = λ z. refl;
  through = λ some. absurd (omega (arith, some));
}

pub first_join : (jobs : List Job) (done more : ℕ) (a b c : State) (p q r : ShardPart)
    → WorksFirst jobs done a p b q
    → WorksFirst (drop done jobs) more b q c r
    → WorksFirst jobs (done + more) a p c r
first_join jobs zero more a b c p q r one two =
    let same : more ≡ 0 + more = omega arith in
    subst (λ (n : ℕ). WorksFirst jobs n a p c r) same
    (subst (λ (s : State). WorksFirst jobs more s p c r) (one.none refl)
    (subst (λ (part : ShardPart). WorksFirst jobs more b part c r) (one.left refl) two))
first_join jobs (suc done) zero a b c p q r one two =
    let same : suc done ≡ suc done + 0 = omega arith in
    subst (λ (n : ℕ). WorksFirst jobs n a p c r) same
    (subst (λ (s : State). WorksFirst jobs (suc done) a p s r) (sym (two.none refl))
    (subst (λ (part : ShardPart). WorksFirst jobs (suc done) a p b part) (sym (two.left refl)) one))
first_join jobs (suc done) (suc more) a b c p q r one two =
    let left = length-drop (suc done) jobs in
    let few = one.few in
    let fewer = two.few in
    record {
      few = omega (arith, left, few, fewer);
      none = λ z. absurd (omega (arith, z));
      left = λ z. absurd (omega (arith, z));
      through =
          λ some.
          subst (λ (js : List Job). WorksThrough js a p c r) (take_join (suc done) (suc more) jobs)
          (through_join (take (suc done) jobs) (take (suc more) (drop (suc done) jobs)) a b c p q r
          (one.through (omega arith)) (two.through (omega arith)));
    }

-- behind them the shard is at rest, where it was before: its seat has finished the same turns, and no claim is under
-- way
pub rests_at : (jobs : List Job) (count : ℕ) (old new : State) (before after : ShardPart)
    → before.finished ≡ old.finished
    → before.next ≡ 0
    → WorksFirst jobs count old before new after
    → (after.finished ≡ new.finished) × (after.next ≡ 0)
rests_at jobs zero old new before after same next works =
    subst (λ (s : State). (after.finished ≡ s.finished) × (after.next ≡ 0)) (sym (works.none refl))
    (subst (λ (p : ShardPart). (p.finished ≡ old.finished) × (p.next ≡ 0)) (sym (works.left refl)) (same, next))
rests_at jobs (suc count) old new before after same next works =
    let through = works.through (omega arith) in
    let state = through.finished in
    let part = through.turns in
    (omega (arith, same, state, part), through.next)
