-- A run of jobs that are worked in one call: what a shard at work keeps of it.
use Rattle.std.proofs.Common.{◌≡◌, ℕ, zero, suc, ◌+◌, ◌-◌, ◌<◌, ◌≤◌, Bool, true, false, true≢false, cond, List, [], ◌∷◌, ◌++◌, length, take, Option, None, Some, refl, sym, ap, ◌∙◌, subst, append-nil, length-append, arith}
use Rattle.std.specs.Prelude.{option_to_list, is_some}
use Rattle.std.proofs.lemmas.List.{length-take-le}
use Rattle.std.proofs.lemmas.Option.{none-some}
use Rattle.subj.specs.declared.jobs.Job.{Job}
use Rattle.claim_cells.specs.declared.parts.ShardPart.{ShardPart}
use Rattle.node_law.specs.Sound.{tried_of}
use Rattle.shard_core.specs.Shards.{State}
use Rattle.node_threads.specs.AtWork.{AtWork, Makes, IsAtWork, one_if, seen_as}
use Rattle.node_threads.specs.Steps.{Done, jobs_of}
use Rattle.node_threads.specs.Turns.{Turns, HasWorkedRun, WorksFirst, WorksThrough}
use Rattle.node_threads.specs.declared.turned.Turned.{Turned}
use Rattle.node_threads.specs.declared.turned.Turned.TheVariants.{Idle, Worked, WorkedRun, Short}
use Rattle.node_threads.proofs.Shards.Joining.{ended_join, makes_join, works_join, works_nothing}
use Rattle.node_threads.proofs.Shards.Working.{done_join}

-- the jobs behind the one that waits are popped, and none waits; the shard and its seat are these then
abbrev pub with_run : AtWork → List Job → State → ShardPart → AtWork
with_run w more state part = record { state = state; part = part; popped = w.popped ++ more; waiting = None }

module _ (w : AtWork) (job : Job) (more : List Job) (state : State) (part : ShardPart) (waits : w.waiting ≡ Some job)
    (t : WorksThrough (job ∷ more) w.state w.part state part) where
  run_makes : Makes w t.steps (with_run w more state part)
  run_makes = record {
    got = more;
    led = t.led;
    popped = refl;
    taken = ap (λ o. option_to_list o ++ more) waits ∙ sym t.begun ∙ sym (append-nil (jobs_of t.steps));
    shard = t.shard;
    won = t.won;
    lost = t.lost;
  }

  pub run_worked :
      HasWorkedRun w (length (job ∷ more)) (w.state.finished + length (job ∷ more)) (with_run w more state part)
  run_worked = record {
    jobs = job ∷ more;
    wins = t.wins;
    steps = t.steps;
    makes = run_makes;
    events = t.events;
    names = t.names;
    count_is = refl;
    some = omega arith;
    last_is = refl;
  }

  pub run_at_work : (shards next_index : ℕ)
      → IsAtWork shards next_index w
      → w.state.hand ≡ None
      → IsAtWork shards 0 (with_run w more state part)
  run_at_work shards next_index i alone = record {
    index = sym t.next_index;
    finished = t.turns ∙ ap (λ n. n + length (job ∷ more)) i.finished ∙ sym t.finished;
    next = subst (λ n. n ≤ tried_of state.hand state.next_index) (sym t.next) (omega arith);
    hand = λ j e. absurd (none-some j (sym t.hand ∙ e));
    waits = λ j e. absurd (none-some j e);
    count =
        length-append w.popped more
        ∙ sum w.state.finished (length w.popped) (length more)
        (i.count ∙ (λ k. w.state.finished + one_if (alone k) + one_if (waits k)))
        ∙ (λ k. sym t.finished k + one_if (sym t.hand k) + 0);
    done = done_join shards w (with_run w more state part) t.steps i.done run_makes;
  }
    where
      sum : (f p m : ℕ) → p ≡ f + 0 + 1 → p + m ≡ f + suc m + 0 + 0
      sum f p m e = omega arith

-- ---- in the words of the code

-- so many jobs from the one in hand of the lane on, which waits
pub record IsRun (hand : Option Job) (behind : List Job) (count : ℕ) (job : Job) (more : List Job) : Type 0 where
  pub hand_is : hand ≡ Some job
  pub more_is : more ≡ take (count - 1) behind
  pub jobs_are : take count (option_to_list hand ++ behind) ≡ job ∷ more
  pub count_is : count ≡ length (job ∷ more)

pub run_is : (hand : Option Job) (behind : List Job) (count : ℕ)
    → is_some hand ≡ true
    → 0 < count
    → count ≤ length (option_to_list hand ++ behind)
    → (job : Job) × (more : List Job) × IsRun hand behind count job more
run_is None behind count some has few = absurd (true≢false (sym some))
run_is (Some job) behind zero some has few = absurd (omega arith)
run_is (Some job) behind (suc n) some has few = (
  job,
  take n behind,
  record {
    hand_is = refl;
    more_is = ap (λ (k : ℕ). take k behind) {x = n} {y = suc n - 1} (omega arith);
    jobs_are = refl;
    count_is = sym (ap suc (length-take-le n behind (omega arith)));
  },
)

-- the shard with so many jobs worked
module _ (shards next_index : ℕ) (state new_state : State) (part new_part : ShardPart)
    (popped new_popped behind : List Job) (hand new_hand : Option Job) (waits : Bool) (count : ℕ)
    (i : IsAtWork shards next_index (seen_as state part popped hand waits)) (on : waits ≡ true)
    (has : is_some hand ≡ true) (some : 0 < count)
    (works : WorksFirst (option_to_list hand ++ behind) count state part new_state new_part)
    (pops : new_popped ≡ popped ++ take (count - 1) behind) where
  abbrev old : AtWork
  old = seen_as state part popped hand waits

  abbrev new : AtWork
  new = seen_as new_state new_part new_popped new_hand false

  run : (job : Job) × (more : List Job) × IsRun hand behind count job more
  run = run_is hand behind count has some works.few

  abbrev job : Job
  job = run.0

  abbrev more : List Job
  more = run.1

  waits_is : old.waiting ≡ Some job
  waits_is = (λ k. cond (on k) hand None) ∙ run.2.hand_is

  through : WorksThrough (job ∷ more) state part new_state new_part
  through =
      subst (λ (jobs : List Job). WorksThrough jobs state part new_state new_part) run.2.jobs_are (works.through some)

  new_is : new ≡ with_run old more new_state new_part
  new_is =
      let popped_is : new_popped ≡ popped ++ more = pops ∙ ap (λ l. popped ++ l) (sym run.2.more_is) in
      λ k. seen_as new_state new_part (popped_is k) new_hand false

  pub run_done : IsAtWork shards 0 new
  run_done =
      subst (IsAtWork shards 0) (sym new_is)
      (run_at_work old job more new_state new_part waits_is through shards next_index i (i.waits job waits_is).alone)

  pub run_told : HasWorkedRun old count (state.finished + count) new
  run_told =
      subst (HasWorkedRun old count (state.finished + count)) (sym new_is)
      (subst (λ n. HasWorkedRun old n (state.finished + n) (with_run old more new_state new_part)) (sym run.2.count_is)
      (run_worked old job more new_state new_part waits_is through))

  -- of the same shard
  pub same_shard : new_part.shard ≡ part.shard
  same_shard = through.shard

  -- the last turn that is finished
  pub last_turn : new_part.finished ≡ state.finished + count
  last_turn = through.turns ∙ (λ k. i.finished k + sym run.2.count_is k)

-- where the job in hand of the lane waits, the shard may claim first in its turn
pub first_to_claim : (shards next_index : ℕ) (state : State) (part : ShardPart) (popped : List Job) (hand : Option Job)
    (waits : Bool)
    → IsAtWork shards next_index (seen_as state part popped hand waits)
    → waits ≡ true
    → is_some hand ≡ true
    → (state.hand ≡ None) × (part.next ≡ 0)
first_to_claim shards next_index state part popped None waits i on has = absurd (true≢false (sym has))
first_to_claim shards next_index state part popped (Some job) waits i on has =
    let alone = (i.waits job (λ k. cond (on k) (Some job) None)).alone in
    let low : part.next ≤ 0 = subst (λ h. part.next ≤ tried_of h state.next_index) alone i.next in
    (alone, omega (arith, low))

-- what was popped is all told
pub turns_join : (a b c : AtWork) (turned : Turned) → Makes a [] b → Turns b turned c → Turns a turned c
turns_join a b c Idle m t = (makes_join a b c [] [] m t.0, t.1)
turns_join a b c (Worked turn) m t = ended_join a b c turn (works_nothing a b m) t
turns_join a b c (WorkedRun jobs last) m t = record {
  jobs = t.jobs;
  wins = t.wins;
  steps = t.steps;
  makes = subst (λ (steps : List Done). Makes a steps c) (append-nil t.steps) (makes_join a b c [] t.steps m t.makes);
  events = t.events;
  names = t.names;
  count_is = t.count_is;
  some = t.some;
  last_is = t.last_is ∙ ap (λ (s : State). s.finished + jobs) m.led;
}
turns_join a b c Short m t = works_join a b c (works_nothing a b m) t
