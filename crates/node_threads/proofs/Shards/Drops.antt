-- Jobs that are dropped.
use Rattle.std.proofs.Common.{◌≡◌, ℕ, ◌+◌, true≢false, [], ◌∷◌, Option, Some, None, refl, sym, ap, ◌∙◌, subst, append-nil, arith}
use Rattle.std.specs.Prelude.{is_some}
use Rattle.std.specs.Option.{option_or}
use Rattle.std.proofs.lemmas.Option.{none-some}
use Rattle.subj.specs.declared.jobs.Job.{Job}
use Rattle.claim_cells.specs.Seats.{HasTurn}
use Rattle.claim_cells.specs.Steps.{finished_one}
use Rattle.shard_core.specs.Shards.{State}
use Rattle.shard_core.specs.ShardEvents.{DropJob, Dropped}
use Rattle.shard_core.specs.ShardSteps.{IsHanded, shard_after, shard_answer, done_with}
use Rattle.node_threads.specs.AtWork.{AtWork, Makes, IsAtWork, HasDone, one_if}
use Rattle.node_threads.specs.Turns.{HasDropped, MayBegin}
use Rattle.node_threads.proofs.Shards.Joining.{makes_join}
use Rattle.node_threads.proofs.Shards.Working.{step_of, led, done_join}

-- the job that is dropped
pub record IsDropped (w : AtWork) (job : Job) : Type 0 where
  pub job_is : option_or w.state.hand w.waiting ≡ Some job
  pub turn : job.turn ≡ w.state.finished + 1
  pub one : one_if w.state.hand + one_if w.waiting ≡ 1
  pub seen : HasTurn w.part
  pub handed : IsHanded w.state.finished w.state.hand w.waiting

pub dropped_one : (shards next_index : ℕ) (w : AtWork)
    → IsAtWork shards next_index w
    → MayBegin w
    → (job : Job) × IsDropped w job
dropped_one shards next_index w i may = go w.state.hand refl w.waiting refl
  where
    go : (hand : Option Job)
        → w.state.hand ≡ hand
        → (waiting : Option Job)
        → w.waiting ≡ waiting
        → (job : Job) × IsDropped w job
    go (Some job) h (Some next) e = absurd (none-some job (sym (i.waits next e).alone ∙ h))
    go (Some job) h None e = let t = i.hand job h in (
      job,
      record {
        job_is = λ k. option_or (h k) (e k);
        turn = t.turn;
        one = λ k. one_if (h k) + one_if (e k);
        seen = t.seen;
        handed = subst (λ o. IsHanded w.state.finished o w.waiting) (sym h) e;
      },
    )
    go None h (Some job) e =
        let t = i.waits job e in (
          job,
          record {
            job_is = λ k. option_or (h k) (e k);
            turn = t.turn;
            one = λ k. one_if (h k) + one_if (e k);
            seen = (may h).1;
            handed =
                subst (λ o. IsHanded w.state.finished o w.waiting) (sym h)
                (subst (λ o. IsHanded w.state.finished None o) (sym e) t.turn);
          },
        )
    go None h None e = absurd (true≢false (sym (may h).0 ∙ ap is_some e))

abbrev pub with_dropped : AtWork → AtWork
with_dropped w = record w {
  state = shard_after w.state (DropJob w.waiting);
  part = finished_one w.part;
  waiting = None;
}

pub dropped_makes : (w : AtWork) (job : Job)
    → IsDropped w job
    → Makes w (step_of w.state (DropJob w.waiting) ∷ []) (with_dropped w)
dropped_makes w job d = record {
  got = [];
  led = led w.state (shard_after w.state (DropJob w.waiting)) (DropJob w.waiting) refl d.handed refl;
  popped = sym (append-nil w.popped);
  taken = refl;
  shard = refl;
  won = sym (append-nil w.part.won);
  lost = sym (append-nil w.part.lost);
}

pub has_dropped : (w : AtWork) (job : Job) → IsDropped w job → HasDropped w job.turn (with_dropped w)
has_dropped w job d = record {
  last = step_of w.state (DropJob w.waiting);
  job = w.waiting;
  makes = dropped_makes w job d;
  drops = refl;
  turn_is = d.turn;
}

pub dropped_at_work : (shards next_index : ℕ) (w : AtWork) (job : Job)
    → IsAtWork shards next_index w
    → IsDropped w job
    → IsAtWork shards 0 (with_dropped w)
dropped_at_work shards next_index w job i d =
    let done : shard_after w.state (DropJob w.waiting) ≡ done_with w.state (Some job) =
    ap (done_with w.state) d.job_is in
    subst (λ s. IsAtWork shards 0 (record w { state = s; part = finished_one w.part; waiting = None })) (sym done)
    (record {
      index = refl;
      finished = ap (λ n. n + 1) i.finished ∙ sym d.turn;
      next = omega arith;
      hand = λ j e. absurd (none-some j e);
      waits = λ j e. absurd (none-some j e);
      count =
          i.count ∙ sum w.state.finished (one_if w.state.hand) (one_if w.waiting) d.one ∙ (λ k. sym d.turn k + 0 + 0);
      done =
          subst (λ s. HasDone shards (record w { state = s; part = finished_one w.part; waiting = None })) done
          (done_join shards w (with_dropped w) (step_of w.state (DropJob w.waiting) ∷ []) i.done
          (dropped_makes w job d));
    })
  where
    sum : (f a b : ℕ) → a + b ≡ 1 → f + a + b ≡ f + 1 + 0 + 0
    sum f a b e = omega arith

-- it is the job that the shard tells
pub same_job : (s : State) (waits waiting : Option Job) (job told : Job)
    → option_or s.hand waits ≡ Some job
    → waiting ≡ waits
    → Dropped (Some told) ≡ shard_answer s (DropJob waiting)
    → job ≡ told
same_job s waits waiting job told is same answered =
    let e : Dropped (Some told) ≡ Dropped (Some job) =
    answered ∙ (λ k. Dropped (option_or s.hand (same k))) ∙ ap (λ o. Dropped o) is in
    let j : told ≡ job = cc (e) in
    sym j

pub same_drop : (s : State) (waits waiting : Option Job) (job told : Job)
    → option_or s.hand waits ≡ Some job
    → waiting ≡ waits
    → Dropped (Some told) ≡ shard_answer s (DropJob waiting)
    → job.turn ≡ told.turn
same_drop s waits waiting job told is same answered =
    ap (λ (x : Job). x.turn) (same_job s waits waiting job told is same answered)

pub dropped_join : (a b c : AtWork) (turn : ℕ) → Makes a [] b → HasDropped b turn c → HasDropped a turn c
dropped_join a b c turn m d = record {
  last = d.last;
  job = d.job;
  makes = makes_join a b c [] (d.last ∷ []) m d.makes;
  drops = d.drops;
  turn_is = d.turn_is;
}
