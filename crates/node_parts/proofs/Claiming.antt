-- A claim: the shard's candidate, the race, and the entry that is placed.
use Rattle.std.proofs.Common.{◌≡◌, ℕ, ◌≤◌, Bool, true, false, ◌&&◌, nat_eq, nat_lt, nat_le, List, length, Option, Some, None, refl, sym, ap, ◌∙◌, subst, arith}
use Rattle.std.specs.Prelude.{is_some, option_to_list}
use Rattle.std.proofs.lemmas.Option.{none-some, same_Some}
use Rattle.list_laws.proofs.Tests.{eq_true, lt_true, le_true, and_true, no_end}
use Rattle.subj.specs.QueueNames.{are_queue_names, are_rising}
use Rattle.subj.specs.declared.identities.SubId.{SubId}
use Rattle.subj.specs.declared.jobs.Job.{Job}
use Rattle.subj.specs.declared.limits.TheConstants.{MAX_QUEUE_NAMES}
use Rattle.sub_table.specs.declared.Subscription.{Subscription}
use Rattle.claim_race.specs.Race.{RaceState, IsNextIndex, IsClaimed, next_of}
use Rattle.shard_core.specs.Shards.{State}
use Rattle.shard_core.specs.Closings.{id_of, ended_ids}
use Rattle.shard_core.specs.Owed.{candidate_of, after_claim, owed_placed, ended_by}
use Rattle.shard_core.specs.declared.calls.Candidate.{Candidate}
use Rattle.shard_core.specs.Held.{Held, Chooses, Stands, ClaimsAreWhole, held_at_rest, after_put_chosen, ended_by_chosen, candidate_told, told_of}
use Rattle.shard_core.specs.ShardEvents as of_shard
use Rattle.shard_core.specs.ShardSteps.{shard_refusal, claim_answer, claim_refusal}
use Rattle.shard_core.specs.declared.faults.ShardFault.TheVariants.{BadIndex}
use Rattle.node_parts.specs.declared.lines.Claimed.TheVariants.{Nobody, Lost, Won}
use Rattle.node_law.specs.Steps.{ClaimRace}
use Rattle.node_law.specs.Sound.{tried_of}
use Rattle.node_parts.specs.Lines.{LineClaims}

-- ---- the candidate

record HasCandidate (copies : Bool) (s : State) (index : ℕ) (turn : ℕ) (told : Candidate) : Type 0 where
  job : Job
  sub : Subscription
  hand : s.hand ≡ Some job
  turn_is : job.turn ≡ turn
  chosen : candidate_of s s.hand index ≡ Some sub
  told_is : told ≡ candidate_told copies s.shard s.clients job sub

candidate : (copies : Bool) (s : State) (index turn : ℕ) (told : Candidate) (job : Job)
    → s.hand ≡ Some job
    → job.turn ≡ turn
    → Some told ≡ told_of copies s.shard s.clients s.hand (candidate_of s s.hand index)
    → HasCandidate copies s index turn told
candidate copies s index turn told job hand turn_is e =
    go (candidate_of s s.hand index) refl
    (e ∙ ap (λ h. told_of copies s.shard s.clients h (candidate_of s s.hand index)) hand)
  where
    go : (c : Option Subscription)
        → candidate_of s s.hand index ≡ c
        → Some told ≡ told_of copies s.shard s.clients (Some job) c
        → HasCandidate copies s index turn told
    go None is e = absurd (none-some told (sym e))
    go (Some sub) is e = record {
      job = job;
      sub = sub;
      hand = hand;
      turn_is = turn_is;
      chosen = is;
      told_is = same_Some told (candidate_told copies s.shard s.clients job sub) e;
    }

-- ---- before the race

pub next_index : (s : State) (race : RaceState) (shard index : ℕ) (job : Job)
    → s.hand ≡ Some job
    → are_queue_names job.queues ≡ true
    → next_of race shard ≤ tried_of s.hand s.next_index
    → claim_refusal s index s.hand ≡ None
    → IsNextIndex race shard index
next_index s race shard index job hand names next cause =
    let free = and_true (nat_eq index s.next_index) (nat_lt index (length job.queues))
    (no_end (nat_eq index s.next_index && nat_lt index (length job.queues)) BadIndex
    (subst (λ h. claim_refusal s index h ≡ None) hand cause)) in
    let few = and_true (nat_le (length job.queues) MAX_QUEUE_NAMES) (are_rising job.queues) names in
    let n : next_of race shard ≤ s.next_index = subst (λ h. next_of race shard ≤ tried_of h s.next_index) hand next in
    let at = eq_true index s.next_index free.0 in
    let within = lt_true index (length job.queues) free.1 in
    let most = le_true (length job.queues) MAX_QUEUE_NAMES few.0 in
    record { least = omega arith; most = omega arith }

pub chosen_some : (copies : Bool) (old mid : Held) (index : ℕ) (found : Option Candidate) (told : Candidate)
    → Chooses copies old index found mid
    → found ≡ Some told
    → is_some mid.chosen ≡ true
chosen_some copies old mid index found told chooses is =
    ap (λ (h : Held). is_some h.chosen) chooses.after
    ∙ go old.state.hand (candidate_of old.state old.state.hand index) (sym is ∙ chooses.told)
  where
    go : (hand : Option Job) (c : Option Subscription)
        → Some told ≡ told_of copies old.state.shard old.state.clients hand c
        → is_some c ≡ true
    go None c e = absurd (none-some told (sym e))
    go (Some job) None e = absurd (none-some told (sym e))
    go (Some job) (Some sub) e = refl

pub stands : ClaimsAreWhole
    → (copies : Bool) (old mid : Held) (index : ℕ) (found : Option Candidate) (told : Candidate)
    → shard_refusal old.state (of_shard.Claim index false) ≡ None
    → Chooses copies old index found mid
    → found ≡ Some told
    → Stands index mid
stands law copies old mid index found told cause chooses is =
    (law copies old mid index found cause chooses).stands (chosen_some copies old mid index found told chooses is)

-- ---- what it comes to

pub claim_nobody : (copies : Bool) (old mid : Held) (waiting : List Job) (index shard : ℕ) (found : Option Candidate)
    (race : RaceState) (job : Job)
    → old.state.hand ≡ Some job
    → Chooses copies old index found mid
    → found ≡ None
    → LineClaims copies (record { shard = old.state; waiting = waiting }) race shard index Nobody
    (record { shard = mid.state; waiting = waiting }) race
claim_nobody copies old mid waiting index shard found race job hand chooses is =
    go (candidate_of s s.hand index) refl
    (sym is ∙ chooses.told ∙ ap (λ h. told_of copies s.shard s.clients h (candidate_of s s.hand index)) hand)
  where
    s : State
    s = old.state

    go : (c : Option Subscription)
        → candidate_of s s.hand index ≡ c
        → None ≡ told_of copies s.shard s.clients (Some job) c
        → LineClaims copies (record { shard = s; waiting = waiting }) race shard index Nobody
        (record { shard = mid.state; waiting = waiting }) race
    go (Some sub) at e = absurd (none-some _ e)
    go None at e = record {
      told = λ k. claim_answer s (hand k) (at k) false;
      after = λ k. record {
        shard = (ap (λ (h : Held). h.state) chooses.after ∙ sym (λ j. after_claim s (hand j) (at j) false)) k;
        waiting = waiting;
      };
      moves =
          subst (λ h. ClaimRace race shard index h (candidate_of s s.hand index) false race) (sym hand)
          (subst (λ c. ClaimRace race shard index (Some job) c false race) (sym at) refl);
    }

pub claim_lost : (copies : Bool) (old mid : Held) (waiting : List Job) (index shard turn : ℕ) (found : Option Candidate)
    (told : Candidate) (race new_race : RaceState) (job : Job)
    → old.state.hand ≡ Some job
    → job.turn ≡ turn
    → Chooses copies old index found mid
    → found ≡ Some told
    → IsClaimed race shard turn index false new_race
    → LineClaims copies (record { shard = old.state; waiting = waiting }) race shard index Lost
    (record { shard = mid.state; waiting = waiting }) new_race
claim_lost copies old mid waiting index shard turn found told race new_race job hand turn_is chooses is lost =
    let s = old.state in
    let h = candidate copies s index turn told job hand turn_is (sym is ∙ chooses.told) in
    record {
      told = λ k. claim_answer s (h.hand k) (h.chosen k) false;
      after = λ k. record {
        shard = (ap (λ (h : Held). h.state) chooses.after ∙ sym (λ j. after_claim s (h.hand j) (h.chosen j) false)) k;
        waiting = waiting;
      };
      moves =
          subst (λ o. ClaimRace race shard index o (candidate_of s s.hand index) false new_race) (sym h.hand)
          (subst (λ c. ClaimRace race shard index (Some h.job) c false new_race) (sym h.chosen)
          (subst (λ t. IsClaimed race shard t index false new_race) (sym h.turn_is) lost));
    }

pub claim_won : ClaimsAreWhole
    → (copies : Bool) (old mid new : Held) (waiting : List Job) (index shard turn : ℕ) (found : Option Candidate)
    (told : Candidate) (ended : Option SubId) (race new_race : RaceState) (job : Job)
    → old.state.hand ≡ Some job
    → job.turn ≡ turn
    → shard_refusal old.state (of_shard.Claim index false) ≡ None
    → Chooses copies old index found mid
    → found ≡ Some told
    → IsClaimed race shard turn index true new_race
    → new ≡ held_at_rest (after_put_chosen mid.state mid.state.hand mid.chosen)
    → option_to_list ended ≡ ended_ids mid.state.shard (ended_by_chosen mid.chosen)
    → LineClaims copies (record { shard = old.state; waiting = waiting }) race shard index
    (Won told.sub told.placed ended) (record { shard = new.state; waiting = waiting }) new_race
claim_won law copies old mid new waiting index shard turn found told ended race new_race job hand turn_is cause chooses
    is won placed closed =
    let s = old.state in
    let h = candidate copies s index turn told job hand turn_is (sym is ∙ chooses.told) in
    let whole = law copies old mid index found cause chooses in
    let shard_is =
    ap (λ (h : Held). h.state) placed ∙ whole.won (chosen_some copies old mid index found told chooses is) in
    let entry = owed_placed s.shard s.clients h.job h.sub.key.queue h.sub in
    let named : told.sub ≡ id_of s.shard h.sub.serial = ap (λ (c : Candidate). c.sub) h.told_is in
    let ended_is : option_to_list ended ≡ ended_ids s.shard (ended_by h.sub) = closed
    ∙ ap (λ (m : Held). ended_ids m.state.shard (ended_by_chosen m.chosen)) chooses.after
    ∙ ap (λ c. ended_ids s.shard (ended_by_chosen c)) h.chosen in
    record {
      told = (
        entry,
        ap (λ (c : Candidate). c.placed) h.told_is,
        (λ k. claim_answer s (h.hand k) (h.chosen k) true) ∙ (λ k. of_shard.Won (sym named k) entry (sym ended_is k)),
      );
      after = λ k. record { shard = shard_is k; waiting = waiting };
      moves =
          subst (λ o. ClaimRace race shard index o (candidate_of s s.hand index) true new_race) (sym h.hand)
          (subst (λ c. ClaimRace race shard index (Some h.job) c true new_race) (sym h.chosen)
          (subst (λ t. IsClaimed race shard t index true new_race) (sym h.turn_is) won));
    }
