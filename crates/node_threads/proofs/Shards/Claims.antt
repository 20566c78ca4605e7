-- The claims and the end of a turn.
use Rattle.std.proofs.Common.{◌≡◌, ℕ, ◌+◌, ◌≤◌, ◌<◌, Bool, true, false, cond, nat_eq, nat_lt, nat_le, ◌&&◌, [], ◌∷◌, ◌++◌, length, Option, Some, None, refl, sym, ap, ◌∙◌, subst, append-nil, arith}
use Rattle.std.specs.Prelude.{option_to_list, is_some}
use Rattle.std.proofs.lemmas.Option.{none-some, same_Some}
use Rattle.list_laws.proofs.Lists.{each_one}
use Rattle.std.proofs.lemmas.Bool.Decides.{nat_tests}
use Rattle.list_laws.proofs.Tests.{true_eq, le_true, and_true}
use Rattle.sub_table.specs.declared.Subscription.{Subscription}
use Rattle.subj.specs.QueueNames.{are_queue_names, are_rising}
use Rattle.subj.specs.declared.jobs.Job.{Job}
use Rattle.subj.specs.declared.limits.TheConstants.{MAX_QUEUE_NAMES}
use Rattle.claim_cells.specs.declared.parts.ShardPart.{ShardPart}
use Rattle.claim_cells.specs.Seats.{HasTurn, last_load}
use Rattle.claim_cells.specs.Steps.{won_by, lost_by, finished_one}
use Rattle.shard_core.specs.declared.calls.Candidate.{Candidate}
use Rattle.shard_core.specs.Held.{Held, Chooses, ClaimsAreWhole, held_at_rest, after_put_chosen, told_of}
use Rattle.shard_core.specs.Owed.{candidate_of, after_claim, after_try}
use Rattle.shard_core.specs.ShardEvents.{Claim, End}
use Rattle.shard_core.specs.ShardSteps.{shard_refusal, shard_after, done_with, claim_refusal, end_refusal}
use Rattle.shard_core.specs.Shards.{State}
use Rattle.shard_core.specs.declared.faults.ShardFault.TheVariants.{BadIndex, NotAllTried}
use Rattle.node_law.specs.Sound.{tried_of}
use Rattle.node_threads.specs.AtWork.{AtWork, Makes, IsAtWork, HasDone, one_if}
use Rattle.node_threads.specs.Steps.{claimed_in, pair_of}
use Rattle.node_threads.specs.Turns.{is_work, HasEnded, MayClaim, ClaimsOne, HasTried, IsTrying}
use Rattle.node_threads.proofs.Shards.Working.{step_of, led, done_join}

abbrev pub with_both : AtWork → State → ShardPart → AtWork
with_both w s part = record w { state = s; part = part }

-- ---- before a claim

true_lt : (a b : ℕ) → a < b → nat_lt a b ≡ true
true_lt a b e = grind (arith, nat_tests, e)

pub may_claim : (s : State) (index : ℕ) → MayClaim index s → shard_refusal s (Claim index false) ≡ None
may_claim s index m =
    subst (λ h. claim_refusal s index h ≡ None) (sym m.hand)
    (ap (λ b. cond b None (Some BadIndex))
    (both (nat_eq index s.next_index) (nat_lt index (length m.job.queues)) (true_eq index s.next_index m.next)
    (true_lt index (length m.job.queues) m.within)))
  where
    both : (b c : Bool) → b ≡ true → c ≡ true → (b && c) ≡ true
    both b c e f = (λ k. e k && f k)

-- the index is one that the seat may claim
pub seat_claims : (shards next_index : ℕ) (w : AtWork) (index : ℕ) (job : Job)
    → IsAtWork shards next_index w
    → MayClaim index w.state
    → w.state.hand ≡ Some job
    → are_queue_names job.queues ≡ true
    → HasTurn w.part × (w.part.next ≤ index) × (index < MAX_QUEUE_NAMES)
seat_claims shards next_index w index job i m hand names =
    let same = same_Some m.job job (sym m.hand ∙ hand) in
    let few = and_true (nat_le (length job.queues) MAX_QUEUE_NAMES) (are_rising job.queues) names in
    let most = le_true (length job.queues) MAX_QUEUE_NAMES few.0 in
    let low : w.part.next ≤ w.state.next_index =
    subst (λ h. w.part.next ≤ tried_of h w.state.next_index) m.hand i.next in
    let within : index < length job.queues = subst (λ (j : Job). index < length j.queues) same m.within in
    ((i.hand m.job m.hand).seen, subst (λ n. w.part.next ≤ n) (sym m.next) low, omega arith)

-- ---- what it comes to

-- the shard after a claim
pub record Tried (old new : State) : Type 0 where
  pub hand : new.hand ≡ old.hand
  pub finished : new.finished ≡ old.finished
  pub next : new.next_index ≡ old.next_index + 1

pub record Claims (index : ℕ) (won : Bool) (w : AtWork) (s : State) (part : ShardPart) : Type 0 where
  pub free : shard_refusal w.state (Claim index won) ≡ None
  pub after : s ≡ shard_after w.state (Claim index won)
  pub tried : Tried w.state s
  pub shard : part.shard ≡ w.part.shard
  pub loads : part.loads ≡ w.part.loads
  pub finished : part.finished ≡ w.part.finished
  pub next : part.next ≤ index + 1
  pub won_is : part.won ≡ w.part.won ++ claimed_in w.state (Claim index won) true
  pub lost_is : part.lost ≡ w.part.lost ++ claimed_in w.state (Claim index won) false

pub claim_makes : (w : AtWork) (index : ℕ) (won : Bool) (s : State) (part : ShardPart)
    → Claims index won w s part
    → Makes w (step_of w.state (Claim index won) ∷ []) (with_both w s part)
claim_makes w index won s part c = record {
  got = [];
  led = led w.state s (Claim index won) c.free tt c.after;
  popped = sym (append-nil w.popped);
  taken = append-nil (option_to_list w.waiting);
  shard = c.shard;
  won = c.won_is;
  lost = c.lost_is;
}

pub claim_works : (w : AtWork) (index : ℕ) (won : Bool) (s : State) (part : ShardPart)
    → MayClaim index w.state
    → Claims index won w s part
    → ClaimsOne index w (with_both w s part)
claim_works w index won s part m c = record {
  works = (
    step_of w.state (Claim index won) ∷ [],
    record {
      makes = claim_makes w index won s part c;
      work = each_one (λ d. is_work d.event ≡ true) (step_of w.state (Claim index won)) refl;
    },
  );
  next = c.tried.next ∙ ap (λ n. n + 1) (sym m.next);
  hand = c.tried.hand;
}

pub claim_at_work : (shards next_index : ℕ) (w : AtWork) (index : ℕ) (won : Bool) (s : State) (part : ShardPart)
    → IsAtWork shards next_index w
    → MayClaim index w.state
    → Claims index won w s part
    → IsAtWork shards (index + 1) (with_both w s part)
claim_at_work shards next_index w index won s part i m c =
    let next : s.next_index ≡ index + 1 = c.tried.next ∙ ap (λ n. n + 1) (sym m.next) in
    record {
      index = sym next;
      finished = c.finished ∙ i.finished ∙ sym c.tried.finished;
      next =
          subst (λ h. part.next ≤ tried_of h s.next_index) (sym (c.tried.hand ∙ m.hand))
          (subst (λ n. part.next ≤ n) (sym next) c.next);
      hand = λ job h.
          let t = i.hand job (sym c.tried.hand ∙ h) in
          record {
            turn = t.turn ∙ ap (λ n. n + 1) (sym c.tried.finished);
            seen = same_turn t.seen;
            tried = subst (λ n. n ≤ length job.queues) (sym next) (within job (sym c.tried.hand ∙ h));
          };
      waits = λ job h.
          let t = i.waits job h in
          record { turn = t.turn ∙ ap (λ n. n + 1) (sym c.tried.finished); alone = c.tried.hand ∙ t.alone };
      count = i.count ∙ (λ k. (sym c.tried.finished k) + one_if (sym c.tried.hand k) + one_if w.waiting);
      done =
          done_join shards w (with_both w s part) (step_of w.state (Claim index won) ∷ []) i.done
          (claim_makes w index won s part c);
    }
  where
    within : (job : Job) → w.state.hand ≡ Some job → index + 1 ≤ length job.queues
    within job h =
        let b = m.within in
        subst (λ (j : Job). index + 1 ≤ length j.queues) (same_Some m.job job (sym m.hand ∙ h)) (omega arith)

    same_turn : HasTurn w.part → HasTurn part
    same_turn h =
        subst (λ f. f < last_load part.loads) (sym c.finished)
        (subst (λ l. w.part.finished < last_load l) (sym c.loads) h)

-- ---- the three outcomes

chooses_none : (copies : Bool) (s : State) (index : ℕ) (job : Job)
    → s.hand ≡ Some job
    → None ≡ told_of copies s.shard s.clients s.hand (candidate_of s s.hand index)
    → candidate_of s s.hand index ≡ None
chooses_none copies s index job hand e =
    go (candidate_of s s.hand index) refl
    (e ∙ ap (λ h. told_of copies s.shard s.clients h (candidate_of s s.hand index)) hand)
  where
    go : (c : Option Subscription)
        → candidate_of s s.hand index ≡ c
        → None ≡ told_of copies s.shard s.clients (Some job) c
        → candidate_of s s.hand index ≡ None
    go None is e = is
    go (Some sub) is e = absurd (none-some _ e)

chooses_some : (copies : Bool) (s : State) (index : ℕ) (job : Job) (told : Candidate)
    → s.hand ≡ Some job
    → Some told ≡ told_of copies s.shard s.clients s.hand (candidate_of s s.hand index)
    → (sub : Subscription) × (candidate_of s s.hand index ≡ Some sub)
chooses_some copies s index job told hand e =
    go (candidate_of s s.hand index) refl
    (e ∙ ap (λ h. told_of copies s.shard s.clients h (candidate_of s s.hand index)) hand)
  where
    go : (c : Option Subscription)
        → candidate_of s s.hand index ≡ c
        → Some told ≡ told_of copies s.shard s.clients (Some job) c
        → (sub : Subscription) × (candidate_of s s.hand index ≡ Some sub)
    go None is e = absurd (none-some told (sym e))
    go (Some sub) is e = (sub, is)

tried_only : (s t : State) → t ≡ after_try s → Tried s t
tried_only s t e = record {
  hand = ap (λ (x : State). x.hand) e;
  finished = ap (λ (x : State). x.finished) e;
  next = ap (λ (x : State). x.next_index) e;
}

mid_tried : (copies : Bool) (old mid : Held) (index : ℕ) (found : Option Candidate)
    → Chooses copies old index found mid
    → mid.state ≡ after_try old.state
mid_tried copies old mid index found c = ap (λ (h : Held). h.state) c.after

pub claims_nobody : ClaimsAreWhole
    → (copies : Bool) (w : AtWork) (old mid : Held) (index : ℕ) (found : Option Candidate)
    → w.state ≡ old.state
    → MayClaim index w.state
    → w.part.next ≤ index
    → Chooses copies old index found mid
    → found ≡ None
    → Claims index false w mid.state w.part
claims_nobody law copies w old mid index found is m low c none =
    let free = may_claim w.state index m in
    let whole = law copies old mid index found (subst (λ s. shard_refusal s (Claim index false) ≡ None) is free) c in
    let nobody : candidate_of w.state w.state.hand index ≡ None = chooses_none copies w.state index m.job m.hand
    (subst (λ (s : State). None ≡ told_of copies s.shard s.clients s.hand (candidate_of s s.hand index)) (sym is)
    (sym none ∙ c.told)) in
    record {
      free = free;
      after = whole.not_won ∙ ap (λ s. shard_after s (Claim index false)) (sym is);
      tried = tried_only w.state mid.state (mid_tried copies old mid index found c ∙ ap after_try (sym is));
      shard = refl;
      loads = refl;
      finished = refl;
      next = omega arith;
      won_is = sym (append-nil w.part.won);
      lost_is =
          sym (append-nil w.part.lost) ∙ ap (λ o. w.part.lost ++ pair_of (w.state.finished + 1) index o) (sym nobody);
    }

pub claims_lost : ClaimsAreWhole
    → (copies : Bool) (w : AtWork) (old mid : Held) (index : ℕ) (found : Option Candidate) (told : Candidate)
    (part : ShardPart)
    → w.state ≡ old.state
    → w.part.finished ≡ w.state.finished
    → MayClaim index w.state
    → Chooses copies old index found mid
    → found ≡ Some told
    → part ≡ lost_by w.part index
    → Claims index false w mid.state part
claims_lost law copies w old mid index found told part is finished m c some lost =
    let free = may_claim w.state index m in
    let whole = law copies old mid index found (subst (λ s. shard_refusal s (Claim index false) ≡ None) is free) c in
    let chosen = chooses_some copies w.state index m.job told m.hand
    (subst (λ (s : State). Some told ≡ told_of copies s.shard s.clients s.hand (candidate_of s s.hand index)) (sym is)
    (sym some ∙ c.told)) in
    record {
      free = free;
      after = whole.not_won ∙ ap (λ s. shard_after s (Claim index false)) (sym is);
      tried = tried_only w.state mid.state (mid_tried copies old mid index found c ∙ ap after_try (sym is));
      shard = ap (λ (p : ShardPart). p.shard) lost;
      loads = ap (λ (p : ShardPart). p.loads) lost;
      finished = ap (λ (p : ShardPart). p.finished) lost;
      next = subst (λ (p : ShardPart). p.next ≤ index + 1) (sym lost) (omega arith);
      won_is = ap (λ (p : ShardPart). p.won) lost ∙ sym (append-nil w.part.won);
      lost_is =
          ap (λ (p : ShardPart). p.lost) lost ∙ (λ k. w.part.lost ++ pair_of (finished k + 1) index (sym chosen.1 k));
    }

-- one that is won
won_tried : (s : State) (index : ℕ) (job : Job) (sub : Subscription)
    → s.hand ≡ Some job
    → candidate_of s s.hand index ≡ Some sub
    → Tried s (shard_after s (Claim index true))
won_tried s index job sub hand chosen =
    subst (Tried s) (sym (λ k. after_claim s (hand k) (chosen k) true))
    (record { hand = refl; finished = refl; next = refl })

pub claims_won : ClaimsAreWhole
    → (copies : Bool) (w : AtWork) (old mid new : Held) (index : ℕ) (found : Option Candidate) (told : Candidate)
    (part : ShardPart)
    → w.state ≡ old.state
    → w.part.finished ≡ w.state.finished
    → MayClaim index w.state
    → Chooses copies old index found mid
    → found ≡ Some told
    → part ≡ won_by w.part index
    → new ≡ held_at_rest (after_put_chosen mid.state mid.state.hand mid.chosen)
    → Claims index true w new.state part
claims_won law copies w old mid new index found told part is finished m c some won placed =
    let free = may_claim w.state index m in
    let whole = law copies old mid index found (subst (λ s. shard_refusal s (Claim index false) ≡ None) is free) c in
    let chosen = chooses_some copies w.state index m.job told m.hand
    (subst (λ (s : State). Some told ≡ told_of copies s.shard s.clients s.hand (candidate_of s s.hand index)) (sym is)
    (sym some ∙ c.told)) in
    let stands : is_some mid.chosen ≡ true = ap (λ (h : Held). is_some h.chosen) c.after
    ∙ ap (λ (s : State). is_some (candidate_of s s.hand index)) (sym is) ∙ ap is_some chosen.1 in
    let after : new.state ≡ shard_after w.state (Claim index true) =
    ap (λ (h : Held). h.state) placed ∙ whole.won stands ∙ ap (λ s. shard_after s (Claim index true)) (sym is) in
    record {
      free = free;
      after = after;
      tried = subst (Tried w.state) (sym after) (won_tried w.state index m.job chosen.0 m.hand chosen.1);
      shard = ap (λ (p : ShardPart). p.shard) won;
      loads = ap (λ (p : ShardPart). p.loads) won;
      finished = ap (λ (p : ShardPart). p.finished) won;
      next = subst (λ (p : ShardPart). p.next ≤ index + 1) (sym won) (omega arith);
      won_is = ap (λ (p : ShardPart). p.won) won ∙ (λ k. w.part.won ++ pair_of (finished k + 1) index (sym chosen.1 k));
      lost_is = ap (λ (p : ShardPart). p.lost) won ∙ sym (append-nil w.part.lost);
    }

-- ---- the end

pub may_end : (s : State) → HasTried s → shard_refusal s End ≡ None
may_end s t =
    subst (λ h. end_refusal s h ≡ None) (sym t.hand)
    (ap (λ b. cond b None (Some NotAllTried)) (true_eq s.next_index (length t.job.queues) t.tried))

pub end_makes : (w : AtWork)
    → shard_refusal w.state End ≡ None
    → Makes w (step_of w.state End ∷ []) (with_both w (shard_after w.state End) (finished_one w.part))
end_makes w free = record {
  got = [];
  led = led w.state (shard_after w.state End) End free tt refl;
  popped = sym (append-nil w.popped);
  taken = append-nil (option_to_list w.waiting);
  shard = refl;
  won = sym (append-nil w.part.won);
  lost = sym (append-nil w.part.lost);
}

pub end_ends : (shards next_index : ℕ) (w : AtWork) (job : Job)
    → IsAtWork shards next_index w
    → w.state.hand ≡ Some job
    → shard_refusal w.state End ≡ None
    → HasEnded w job.turn (with_both w (shard_after w.state End) (finished_one w.part))
end_ends shards next_index w job i hand free = record {
  last = step_of w.state End;
  earlier = [];
  makes = end_makes w free;
  work = λ x h. absurd h;
  ends = refl;
  turn_is = (i.hand job hand).turn;
}

pub end_at_work : (shards next_index : ℕ) (w : AtWork) (job : Job)
    → IsAtWork shards next_index w
    → w.state.hand ≡ Some job
    → shard_refusal w.state End ≡ None
    → IsAtWork shards 0 (with_both w (shard_after w.state End) (finished_one w.part))
end_at_work shards next_index w job i hand free =
    let done : shard_after w.state End ≡ done_with w.state (Some job) = ap (done_with w.state) hand in
    let turn = (i.hand job hand).turn in
    let at = λ (s : State). IsAtWork shards 0 (with_both w s (finished_one w.part)) in
    subst at (sym done) (record {
      index = refl;
      finished = ap (λ n. n + 1) i.finished ∙ sym turn;
      next = omega arith;
      hand = λ j e. absurd (none-some j e);
      waits = λ j e. absurd (none-some job (sym (i.waits j e).alone ∙ hand));
      count =
          i.count
          ∙ (λ k. w.state.finished + one_if (hand k) + one_if w.waiting)
          ∙ more (one_if w.waiting)
          ∙ (λ k. sym turn k + 0 + one_if w.waiting);
      done =
          subst (λ s. HasDone shards (with_both w s (finished_one w.part))) done
          (done_join shards w (with_both w (shard_after w.state End) (finished_one w.part)) (step_of w.state End ∷ [])
          i.done (end_makes w free));
    })
  where
    more : (n : ℕ) → w.state.finished + 1 + n ≡ w.state.finished + 1 + 0 + n
    more n = omega arith

-- ---- all queue names of a job

pub trying_start : (shards next_index : ℕ) (w : AtWork) (job : Job)
    → IsAtWork shards next_index w
    → w.state.hand ≡ Some job
    → IsTrying next_index (length job.queues) w.state
trying_start shards next_index w job i hand = record {
  job = job;
  hand = hand;
  next = sym i.index;
  names = refl;
  within = subst (λ n. n ≤ length job.queues) (sym i.index) (i.hand job hand).tried;
}

pub trying_may : (index count : ℕ) (s : State) → index < count → IsTrying index count s → MayClaim index s
trying_may index count s lt t = record {
  job = t.job;
  hand = t.hand;
  next = sym t.next;
  within = subst (λ n. index < n) (sym t.names) lt;
}

pub trying_next : (index count : ℕ) (old new : AtWork)
    → index < count
    → IsTrying index count old.state
    → ClaimsOne index old new
    → IsTrying (index + 1) count new.state
trying_next index count old new lt t c = record {
  job = t.job;
  hand = c.hand ∙ t.hand;
  next = c.next;
  names = t.names;
  within = omega arith;
}

pub trying_all : (index count : ℕ) (s : State) → count ≤ index → IsTrying index count s → HasTried s
trying_all index count s le t =
    let within = t.within in record { job = t.job; hand = t.hand; tried = t.next ∙ omega arith ∙ sym t.names }
