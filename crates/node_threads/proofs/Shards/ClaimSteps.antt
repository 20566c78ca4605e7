-- Jobs that claim one queue name each and are worked in one call: the steps that these are.
use Rattle.std.proofs.Common.{◌≡◌, ℕ, zero, suc, ◌+◌, ◌<◌, ◌≤◌, Bool, true, false, not, cond, List, [], ◌∷◌, ◌++◌, length, map, take, Option, Some, None, refl, sym, ap, ◌∙◌, subst, append-nil, append_assoc, arith}
use Rattle.std.specs.Prelude.{is_some, nat_eq}
use Rattle.std.proofs.lemmas.List.{length-take-le}
use Rattle.std.proofs.lemmas.Option.{none-some}
use Rattle.list_laws.proofs.Tests.{eq_true, no_end}
use Rattle.sub_table.specs.declared.Subscription.{Subscription}
use Rattle.subj.specs.declared.jobs.Job.{Job}
use Rattle.claim_cells.specs.Seats.{HasTurn, ShardShown, turns_seen}
use Rattle.claim_cells.specs.declared.parts.ShardPart.{ShardPart}
use Rattle.shard_core.specs.ClaimRuns.{AreClaimed, ClaimPart, IsClaimed, MayClaimRun, WorksClaims, begun_by, ended_after, pair_with, pairs_by, pairs_of, tried_by, with_claims}
use Rattle.shard_core.specs.Held.{Held}
use Rattle.shard_core.specs.Owed.{after_claim, candidate_of}
use Rattle.shard_core.specs.ShardEvents.{Begin, Claim, End, Began, Finished}
use Rattle.shard_core.specs.ShardSteps.{done_with, end_refusal, shard_answer}
use Rattle.shard_core.specs.Shards.{State}
use Rattle.shard_core.specs.declared.faults.ShardFault.TheVariants.{JobInHand, NotAllTried, WrongTurn}
use Rattle.node_threads.specs.Steps.{Done, Leads, claimed_in, claims_of, jobs_of, pair_of}
use Rattle.node_threads.specs.Turns.{WorksFirst, WorksThrough, claim_part, events_of, seat_kept, worked_through}

-- a job's three steps, before others
abbrev three_steps : State → Job → Bool → List Done → List Done
three_steps s job won earlier =
    record { before = tried_by s job won; event = End; answer = Finished }
    ∷ record {
      before = begun_by s job;
      event = Claim 0 won;
      answer = shard_answer (begun_by s job) (Claim 0 won);
    }
    ∷ record { before = s; event = Begin job; answer = Began [] [] [] }
    ∷ earlier

-- those of a run
abbrev claim_steps : State → List Job → List Bool → List Done → List Done
claim_steps s [] wins earlier = earlier
claim_steps s (job ∷ jobs) [] earlier = earlier
claim_steps s (job ∷ jobs) (won ∷ wins) earlier =
    claim_steps (ended_after s job won) jobs wins (three_steps s job won earlier)

claim_leads : (from s to : State) (jobs : List Job) (wins : List Bool) (earlier : List Done)
    → AreClaimed s jobs wins to
    → Leads from earlier s
    → Leads from (claim_steps s jobs wins earlier) to
claim_leads from s to [] [] earlier claimed leads =
    subst (λ (end : State). Leads from earlier end) (sym claimed) leads
claim_leads from s to [] (won ∷ wins) earlier claimed leads = absurd claimed
claim_leads from s to (job ∷ jobs) [] earlier claimed leads = absurd claimed
claim_leads from s to (job ∷ jobs) (won ∷ wins) earlier claimed leads =
    claim_leads from (ended_after s job won) to jobs wins (three_steps s job won earlier) claimed.1
    (claimed.0.ended, (claimed.0.tried, (claimed.0.begun, leads)))

claim_begins : (s to : State) (jobs : List Job) (wins : List Bool) (earlier : List Done)
    → AreClaimed s jobs wins to
    → jobs_of (claim_steps s jobs wins earlier) ≡ jobs_of earlier ++ jobs
claim_begins s to [] wins earlier claimed = sym (append-nil (jobs_of earlier))
claim_begins s to (job ∷ jobs) [] earlier claimed = absurd claimed
claim_begins s to (job ∷ jobs) (won ∷ wins) earlier claimed =
    claim_begins (ended_after s job won) to jobs wins (three_steps s job won earlier) claimed.1
    ∙ ap (λ (l : List Job). l ++ jobs)
    (append-nil ((jobs_of earlier ++ job ∷ []) ++ []) ∙ append-nil (jobs_of earlier ++ job ∷ []))
    ∙ append_assoc (jobs_of earlier) (job ∷ []) jobs

-- each was won or not by its one name
abbrev each_won : List Bool → List (List Bool)
each_won wins = map (λ (won : Bool). won ∷ []) wins

claim_events : (s to : State) (jobs : List Job) (wins : List Bool) (earlier : List Done)
    → AreClaimed s jobs wins to
    → events_of (claim_steps s jobs wins earlier) ≡ events_of earlier ++ worked_through jobs (each_won wins)
claim_events s to [] wins earlier claimed = sym (append-nil (events_of earlier))
claim_events s to (job ∷ jobs) [] earlier claimed = absurd claimed
claim_events s to (job ∷ jobs) (won ∷ wins) earlier claimed =
    let rest = worked_through jobs (each_won wins) in
    let begun = events_of earlier ++ Begin job ∷ [] in
    claim_events (ended_after s job won) to jobs wins (three_steps s job won earlier) claimed.1
    ∙ append_assoc (begun ++ Claim 0 won ∷ []) (End ∷ []) rest
    ∙ append_assoc begun (Claim 0 won ∷ []) (End ∷ rest)
    ∙ append_assoc (events_of earlier) (Begin job ∷ []) (Claim 0 won ∷ End ∷ rest)

-- ---- the pairs that they claim

same_pair : (turn : ℕ) (chosen : Option Subscription) → pair_of turn 0 chosen ≡ pair_with turn chosen
same_pair turn None = refl
same_pair turn (Some sub) = refl

same_pairs : (as_won : Bool) (s : State) (job : Job) (won : Bool)
    → claimed_in (begun_by s job) (Claim 0 won) as_won ≡ pairs_by as_won s job won
same_pairs as_won s job won =
    ap (λ (l : List (ℕ × ℕ)). cond (cond as_won won (not won)) l [])
    (same_pair (s.finished + 1) (candidate_of (begun_by s job) (Some job) 0))

claim_pairs : (as_won : Bool) (s : State) (jobs : List Job) (wins : List Bool) (earlier : List Done)
    → claims_of as_won (claim_steps s jobs wins earlier) ≡ claims_of as_won earlier ++ pairs_of as_won s jobs wins
claim_pairs as_won s [] wins earlier = sym (append-nil (claims_of as_won earlier))
claim_pairs as_won s (job ∷ jobs) [] earlier = sym (append-nil (claims_of as_won earlier))
claim_pairs as_won s (job ∷ jobs) (won ∷ wins) earlier =
    let rest = pairs_of as_won (ended_after s job won) jobs wins in
    let claimed = claimed_in (begun_by s job) (Claim 0 won) as_won in
    claim_pairs as_won (ended_after s job won) jobs wins (three_steps s job won earlier)
    ∙ ap (λ (l : List (ℕ × ℕ)). l ++ rest)
    (append-nil ((claims_of as_won earlier ++ []) ++ claimed)
    ∙ (λ k. append-nil (claims_of as_won earlier) k ++ same_pairs as_won s job won k))
    ∙ append_assoc (claims_of as_won earlier) (pairs_by as_won s job won) rest

-- ---- what each of them leaves

-- a claim leaves the job in hand, and one more index tried
record OneTried (s t : State) : Type 0 where
  hand : t.hand ≡ s.hand
  index : t.next_index ≡ s.next_index + 1

tried_one : (s : State) (job : Job) (chosen : Option Subscription) (won : Bool)
    → OneTried s (after_claim s (Some job) chosen won)
tried_one s job None won = record { hand = refl; index = refl }
tried_one s job (Some sub) true = record { hand = refl; index = refl }
tried_one s job (Some sub) false = record { hand = refl; index = refl }

is_tried : (s : State) (job : Job) (won : Bool) → OneTried (begun_by s job) (tried_by s job won)
is_tried s job won =
    tried_one (begun_by s job) job (candidate_of (begun_by s job) (begun_by s job).hand 0) won

-- so it claimed one queue name
one_name : (s : State) (job : Job) (won : Bool) → IsClaimed s job won → length job.queues ≡ 1
one_name s job won claimed =
    let t = tried_by s job won in
    let tried = is_tried s job won in
    let free : end_refusal t (Some job) ≡ None = ap (end_refusal t) (sym tried.hand) ∙ claimed.ended.cause in
    sym (eq_true t.next_index (length job.queues) (no_end (nat_eq t.next_index (length job.queues)) NotAllTried free))
    ∙ tried.index

claim_names : (s to : State) (jobs : List Job) (wins : List Bool)
    → AreClaimed s jobs wins to
    → map length (each_won wins) ≡ map (λ (job : Job). length job.queues) jobs
claim_names s to [] [] claimed = refl
claim_names s to [] (won ∷ wins) claimed = absurd claimed
claim_names s to (job ∷ jobs) [] claimed = absurd claimed
claim_names s to (job ∷ jobs) (won ∷ wins) claimed =
    λ k. sym (one_name s job won claimed.0) k ∷ claim_names (ended_after s job won) to jobs wins claimed.1 k

-- its turn was the next one
next_turn_of : (hand : Option Job) (b : Bool)
    → cond (is_some hand) (Some JobInHand) (cond b None (Some WrongTurn)) ≡ None
    → b ≡ true
next_turn_of None b free = no_end b WrongTurn free
next_turn_of (Some job) b free = absurd (none-some JobInHand (sym free))

-- nothing is in hand behind the last turn that was finished
record IsAtRest (finished : ℕ) (s : State) : Type 0 where
  hand : s.hand ≡ None
  next_index : s.next_index ≡ 0
  finished_is : s.finished ≡ finished

rests_behind : (s : State) (job : Job) (won : Bool)
    → IsClaimed s job won
    → IsAtRest (s.finished + 1) (ended_after s job won)
rests_behind s job won claimed =
    let turn = eq_true job.turn (s.finished + 1)
    (next_turn_of s.hand (nat_eq job.turn (s.finished + 1)) claimed.begun.cause) in
    subst (λ (h : Option Job). IsAtRest (s.finished + 1) (done_with (tried_by s job won) h))
    (sym (is_tried s job won).hand) (record { hand = refl; next_index = refl; finished_is = turn })

one_more : (n m : ℕ) → n + 1 + m ≡ n + suc m
one_more n m = omega arith

rests_on : (n : ℕ) (s to : State) (jobs : List Job) (wins : List Bool)
    → AreClaimed s jobs wins to
    → IsAtRest n s
    → IsAtRest (n + length jobs) to
rests_on n s to [] [] claimed rest = record {
  hand = ap (λ (t : State). t.hand) claimed ∙ rest.hand;
  next_index = ap (λ (t : State). t.next_index) claimed ∙ rest.next_index;
  finished_is =
      ap (λ (t : State). t.finished) claimed ∙ rest.finished_is ∙ (let same : n ≡ n + 0 = omega arith in same);
}
rests_on n s to [] (won ∷ wins) claimed rest = absurd claimed
rests_on n s to (job ∷ jobs) [] claimed rest = absurd claimed
rests_on n s to (job ∷ jobs) (won ∷ wins) claimed rest =
    subst (λ m. IsAtRest m to) (one_more n (length jobs))
    (rests_on (n + 1) (ended_after s job won) to jobs wins claimed.1
    (subst (λ m. IsAtRest (m + 1) (ended_after s job won)) rest.finished_is (rests_behind s job won claimed.0)))

rests_behind_all : (s to : State) (jobs : List Job) (wins : List Bool)
    → AreClaimed s jobs wins to
    → 0 < length jobs
    → IsAtRest (s.finished + length jobs) to
rests_behind_all s to [] wins claimed some = absurd (omega (arith, some))
rests_behind_all s to (job ∷ jobs) [] claimed some = absurd claimed
rests_behind_all s to (job ∷ jobs) (won ∷ wins) claimed some =
    subst (λ m. IsAtRest m to) (one_more s.finished (length jobs))
    (rests_on (s.finished + 1) (ended_after s job won) to jobs wins claimed.1 (rests_behind s job won claimed.0))

-- ---- as a whole

claimed_through : (jobs : List Job) (wins : List Bool) (old new : State) (before after : ShardPart)
    → 0 < length jobs
    → AreClaimed old jobs wins new
    → after.shard ≡ before.shard
    → claim_part after ≡ with_claims old jobs wins (claim_part before)
    → before.next ≡ 0
    → WorksThrough jobs old before new after
claimed_through jobs wins old new before after some claimed shard part first =
    let rest = rests_behind_all old new jobs wins claimed some in
    record {
      wins = each_won wins;
      steps = claim_steps old jobs wins [];
      led = claim_leads old old new jobs wins [] claimed refl;
      events = claim_events old new jobs wins [] claimed;
      names = claim_names old new jobs wins claimed;
      begun = claim_begins old new jobs wins [] claimed;
      hand = rest.hand;
      next_index = rest.next_index;
      finished = rest.finished_is;
      shard = shard;
      turns = ap (λ (p : ClaimPart). p.finished) part;
      next = ap (λ (p : ClaimPart). p.next) part ∙ first;
      won =
          ap (λ (p : ClaimPart). p.won) part
          ∙ ap (λ (l : List (ℕ × ℕ)). before.won ++ l) (sym (claim_pairs true old jobs wins []));
      lost =
          ap (λ (p : ClaimPart). p.lost) part
          ∙ ap (λ (l : List (ℕ × ℕ)). before.lost ++ l) (sym (claim_pairs false old jobs wins []));
    }

-- the first of the first
take_fewer : {A : Type 0} (count most : ℕ) (xs : List A) → count ≤ most → take count (take most xs) ≡ take count xs
take_fewer zero most xs few = refl
take_fewer (suc n) zero xs few = absurd (omega (arith, few))
take_fewer (suc n) (suc m) [] few = refl
take_fewer (suc n) (suc m) (x ∷ xs) few = ap (λ l. x ∷ l) (take_fewer n m xs (omega (arith, few)))

-- a seat that has the same race, shard and loads, and knows the same else, is the same
same_part : (before after : ShardShown)
    → seat_kept after ≡ seat_kept before
    → claim_part after.part ≡ claim_part before.part
    → after.part ≡ before.part
same_part before after kept part = λ k. record {
  shard = (kept k).shard;
  loads = (kept k).loads;
  finished = (part k).finished;
  next = (part k).next;
  won = (part k).won;
  lost = (part k).lost;
}

-- the shard may claim first in the turns of the first so many jobs, where it has seen that so many are issued
pub may_claim_first : (jobs first : List Job) (most finished : ℕ) (part : ShardPart)
    → HasTurn part
    → part.finished ≡ finished
    → part.next ≡ 0
    → most ≤ length jobs
    → most ≤ turns_seen part
    → first ≡ take most jobs
    → MayClaimRun finished (length first) (claim_part part)
may_claim_first jobs first most finished part has same next within seen is =
    let long : length first ≡ most = ap (λ (js : List Job). length js) is ∙ length-take-le most jobs within in
    record { finished_is = same; first = next; issued = omega (arith, has, same, seen, long) }

-- so many of these jobs were claimed, of the first ones that were tried
pub claimed_first : (jobs : List Job) (most count : ℕ) (old new : Held) (before after : ShardShown)
    → most ≤ length jobs
    → before.part.next ≡ 0
    → seat_kept after ≡ seat_kept before
    → WorksClaims (take most jobs) count old new (claim_part before.part) (claim_part after.part)
    → WorksFirst jobs count old.state before.part new.state after.part
claimed_first jobs most count old new before after within first kept works =
    let long = length-take-le most jobs within in
    let few : count ≤ most = subst (λ n. count ≤ n) long works.few in
    let same = take_fewer count most jobs few in
    let all : count ≤ length jobs = omega (arith, few, within) in
    let counted = length-take-le count jobs all in
    record {
      few = all;
      none = λ e. ap (λ (h : Held). h.state) (works.none e);
      left = λ e. same_part before after kept (works.part_left e);
      through = λ some.
          claimed_through (take count jobs) works.wins old.state new.state before.part after.part
          (omega (arith, some, counted))
          (subst (λ (js : List Job). AreClaimed old.state js works.wins new.state) same works.claimed)
          (λ k. (kept k).shard)
          (works.part ∙ ap (λ (js : List Job). with_claims old.state js works.wins (claim_part before.part)) same)
          first;
    }
