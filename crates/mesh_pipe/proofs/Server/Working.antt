-- A job of a pipe's server, from its Begin to its End.
use Rattle.std.proofs.Common.{◌≡◌, ◌≢◌, ℕ, suc, ◌+◌, ◌<◌, ◌≤◌, Bool, true, false, true≢false, cond, not, nat_eq, nat_lt, ◌&&◌, ◌==◌, List, [], ◌∷◌, length, Option, Some, None, refl, sym, ap, ◌∙◌, subst, arith, ⊎_elim, eq-or-lt_of_le}
use Rattle.std.specs.Prelude.{is_some, is_none}
use Rattle.std.specs.Option.{option_map}
use Rattle.std.proofs.lemmas.Bool.Decides.{nat_tests}
use Rattle.std.proofs.lemmas.Option.{none-some, same_Some}
use Rattle.list_laws.proofs.Tests.{false_eq, true_eq, eq_true, eq_false}
use Rattle.subj.specs.declared.jobs.Job.{Job}
use Rattle.sub_table.specs.declared.Subscription.{Subscription}
use Rattle.claim_race.specs.Race.{RaceState, IsClaimed, winner, winner_after}
use Rattle.shard_core.specs.declared.calls.Begun.{Begun}
use Rattle.shard_core.specs.declared.faults.ShardFault.{ShardFault}
use Rattle.shard_core.specs.declared.faults.ShardFault.TheVariants.{BadIndex, NotAllTried}
use Rattle.shard_core.specs.Lines.{first_of, begun_turn, Turns}
use Rattle.shard_core.specs.Owed.{candidate_of, after_claim}
use Rattle.shard_core.specs.ShardEvents as of_shard
use Rattle.shard_core.specs.ShardEvents.{Event}
use Rattle.shard_core.specs.ShardSteps.{shard_refusal, shard_after, claim_refusal, end_refusal}
use Rattle.shard_core.specs.Shards.{State}
use Rattle.node_law.specs.declared.faults.NodeFault.{NodeFault}
use Rattle.node_law.specs.declared.faults.NodeFault.TheVariants.{Shard}
use Rattle.node_parts.specs.declared.lines.Claimed.{Claimed}
use Rattle.node_law.specs.declared.events.ShardWork.{ShardWork}
use Rattle.node_law.specs.declared.events.ShardWork.TheVariants.{Begin, Claim, End}
use Rattle.node_law.specs.Events.{AtShard, Own}
use Rattle.node_core.specs.Served.{Served, DoesStep, BeginStep, ClaimStep, IsToldAt, refusal}
use Rattle.node_parts.specs.Lines.{is_won}
use Rattle.node_law.specs.State.{ShardWithJobs, Node}
use Rattle.node_law.specs.Steps.{work_event, begin_of, event_refusal, line_after, line_after_if, WorkRace, ClaimRace}
use Rattle.node_law.proofs.Moves.LineEvents.{same_refusal}
use Rattle.node_law.proofs.Interest.CountsOpen.{is_collect}
use Rattle.mesh_pipe.specs.PipeText.{after_claims}
use Rattle.mesh_pipe.specs.PipeServing.{line_in, shard_in, waiting_in, queues_in, queues_of, IsServing, Steps, AreFree, HasBegun, HasClaimed, HasClaimedAll, HasEnded, has_any}
use Rattle.mesh_pipe.proofs.Server.Balance.{event_balance}
use Rattle.mesh_pipe.proofs.Server.Outputs.{claimed_hand, claimed_index}
use Rattle.mesh_pipe.proofs.Server.Alone.{sound_line, apart, shard_there, work_refuses, work_becomes, line_becomes, serves_on, no_map, Becomes}

-- ---- any work

-- a step of this event, with the race that it left
pub record Works (old : Served) (event : Event) (race : RaceState) (new : Served) : Type 0 where
  pub steps : Steps old event new
  pub race_is : new.node.race ≡ race

pub works : (old new : Served) (work : ShardWork) (won : Bool) (event : Event)
    → IsServing old
    → work_event work won (line_in old) ≡ Some event
    → is_collect event ≡ false
    → (does : DoesStep old (Own (AtShard 1 work)) won new)
    → Works old event does.race new
works old new work won event serving is tells does =
    let becomes : Becomes old (line_after event (line_in old)) does.race new = record {
      node =
          (work_becomes old new work won serving does).node
          ∙ ap (λ (o : Option Event).
          let a : Node = record old.node { lines = line_after_if o (line_in old) ∷ []; race = does.race } in a)
          is;
    } in
    let here = line_becomes old new _ _ becomes in
    let refused = sym (work_refuses old work serving) ∙ does.step.cause in
    let cause = no_map (shard_refusal (shard_in old) event)
    (sym (ap (event_refusal (line_in old)) is) ∙ sym (same_refusal work (line_in old) won) ∙ refused) in
    record {
      steps = record {
        serving =
            serves_on old new (Own (AtShard 1 work)) won _ _ serving does becomes
            (event_balance (shard_in old) event (apart old serving) cause tells serving.opened);
        shard = ap (λ (l : ShardWithJobs). l.shard) here;
        waiting = ap (λ (l : ShardWithJobs). l.waiting) here;
      };
      race_is = ap (λ (a : Node). a.race) becomes.node;
    }

-- ---- Begin

one_job : (waiting : List Job) (job : Job) → length waiting ≡ 1 → first_of waiting ≡ Some job → waiting ≡ job ∷ []
one_job [] job one first = absurd (none-some job first)
one_job (j ∷ []) job one first = ap (λ (k : Job). k ∷ []) (same_Some j job first)
one_job (j ∷ k ∷ more) job one first = absurd (omega (arith, one))

begin_race : (old new : Served) (event : Event)
    → IsServing old
    → (does : DoesStep old (Own (AtShard 1 Begin)) false new)
    → does.race ≡ old.node.race
begin_race old new event serving does =
    subst (λ (o : Option ShardWithJobs). WorkRace old.node.race 1 Begin o false does.race) (shard_there old serving)
    does.step.moves

more_than_none : (n : ℕ) → (suc n == 0) ≡ false
more_than_none n = grind (arith, nat_tests)

pub shut_told : (closed : List ℕ) (len : ℕ) (empty : Bool)
    → len ≡ length closed
    → empty ≡ (len == 0)
    → not empty ≡ has_any closed
shut_told [] len empty count is = ap not (is ∙ ap (λ m. m == 0) count)
shut_told (x ∷ xs) len empty count is = ap not (is ∙ ap (λ m. m == 0) count ∙ more_than_none (length xs))

pub has_begun : (old new : Served) (begun : Begun) (shut : Bool)
    → IsServing old
    → length (waiting_in old) ≡ 1
    → BeginStep false old 1 begun new
    → shut ≡ has_any begun.closed.items
    → HasBegun old shut new
has_begun old new begun shut serving one begins is =
    let told = subst (λ (o : Option ShardWithJobs). IsToldAt false o begun) (shard_there old serving) begins.told in
    let job = told.0 in
    let first = one_job (waiting_in old) job one told.1 in
    let w = works old new Begin false (of_shard.Begin job) serving (ap begin_of told.1) refl begins.step in
    record {
      job = job;
      first = first;
      steps = w.steps;
      is_shut = is ∙ ap has_any told.2.closed;
      race = w.race_is ∙ begin_race old new (of_shard.Begin job) serving begins.step;
    }

-- ---- Claim

-- where the hand is empty or nobody is a candidate, winning changes nothing
abbrev Decided : State → Option Job → Option Subscription → Bool → Type 0
Decided t hand sub won = after_claim t hand sub won ≡ after_claim t hand sub true

turn_is : (old : Served) (serving : IsServing old) (job : Job)
    → waiting_in old ≡ []
    → (shard_in old).hand ≡ Some job
    → job.turn ≡ old.node.race.issued
turn_is old serving job none hand =
    let line = sound_line old serving in
    let turns = subst
    (λ (w : List Job). Turns (begun_turn (shard_in old).hand (shard_in old).finished) w old.node.race.issued) none
    line.sound.turns in
    line.sound.hand job hand ∙ sym (ap (λ (h : Option Job). begun_turn h (shard_in old).finished) hand) ∙ turns

free_still : (index : ℕ) (race : RaceState) → AreFree index race → AreFree (index + 1) race
free_still index race free i above = free i (omega (arith, above))

-- the pairs behind the one that was claimed
free_behind : (race after : RaceState) (turn index : ℕ) (won : Bool)
    → turn ≡ race.issued
    → AreFree index race
    → IsClaimed race 1 turn index won after
    → AreFree (index + 1) after
free_behind race after turn index won newest free claims i above =
    let issued = claims.issued in
    let here = claims.winners after.issued i (omega arith) in
    here ∙ go won
  where
    same : winner race after.issued i ≡ None
    same = ap (λ t. winner race t i) claims.issued ∙ free i (omega (arith, above))

    other : nat_eq i index ≡ false
    other = false_eq i index (λ e. absurd (omega (arith, above, e)))

    apart_pair : (a b : Bool) → b ≡ false → (a && b) ≡ false
    apart_pair true b e = e
    apart_pair false b e = refl

    go : (b : Bool) → cond b (winner_after race 1 turn index after.issued i) (winner race after.issued i) ≡ None
    go true =
        ap (λ b. cond b (Some 1) (winner race after.issued i))
        (apart_pair (nat_eq after.issued turn) (nat_eq i index) other)
        ∙ same
    go false = same

claim_decided : (old : Served) (t : State) (hand : Option Job) (sub : Option Subscription) (index : ℕ) (won : Bool)
    (after : RaceState)
    → ((job : Job) → hand ≡ Some job → job.turn ≡ old.node.race.issued)
    → AreFree index old.node.race
    → ClaimRace old.node.race 1 index hand sub won after
    → Decided t hand sub won × AreFree (index + 1) after
claim_decided old t None sub index won after newest free moves = (
  refl,
  subst (AreFree (index + 1)) (sym moves) (free_still index old.node.race free),
)
claim_decided old t (Some job) None index won after newest free moves = (
  refl,
  subst (AreFree (index + 1)) (sym moves) (free_still index old.node.race free),
)
claim_decided old t (Some job) (Some sub) index won after newest free moves =
    let turn = newest job refl in
    let wins : won ≡ true =
    moves.decided ∙ ap (λ n. is_none (winner old.node.race n index)) turn ∙ ap is_none (free index (omega arith)) in
    (ap (after_claim t (Some job) (Some sub)) wins, free_behind old.node.race after job.turn index won turn free moves)

pub has_claimed : (old new : Served) (index : ℕ) (claimed_as : Claimed)
    → IsServing old
    → waiting_in old ≡ []
    → AreFree index old.node.race
    → ClaimStep false old 1 index claimed_as new
    → HasClaimed index old new
has_claimed old new index claimed_as serving none free claims =
    let won = is_won claimed_as in
    let does = claims.step in
    let w = works old new (Claim index) won (of_shard.Claim index won) serving refl refl does in
    let moves = subst (λ (o : Option ShardWithJobs). WorkRace old.node.race 1 (Claim index) o won does.race)
    (shard_there old serving) does.step.moves in
    let t = shard_in old in
    let both = claim_decided old t t.hand (candidate_of t t.hand index) index won does.race
    (λ job hand. turn_is old serving job none hand) free moves in
    record {
      steps = record { serving = w.steps.serving; shard = w.steps.shard ∙ both.0; waiting = w.steps.waiting };
      free = subst (AreFree (index + 1)) (sym w.race_is) both.1;
    }

-- ---- End

pub some_map : (o : Option ShardFault) (fault : NodeFault)
    → option_map Shard o ≡ Some fault
    → (why : ShardFault) × (o ≡ Some why)
some_map None fault e = absurd (none-some fault e)
some_map (Some why) fault e = (why, refl)

pub has_ended : (old new : Served)
    → IsServing old
    → refusal old (Own (AtShard 1 End)) ≡ None
    → DoesStep old (Own (AtShard 1 End)) false new
    → HasEnded (shard_refusal (shard_in old) of_shard.End) old true new
has_ended old new serving free does =
    let w = works old new End false of_shard.End serving refl refl does in
    (no_map (shard_refusal (shard_in old) of_shard.End) (sym (work_refuses old End serving) ∙ free), w.steps)

pub not_ended : (old new : Served) (fault : NodeFault)
    → IsServing old
    → refusal old (Own (AtShard 1 End)) ≡ Some fault
    → new ≡ old
    → HasEnded (shard_refusal (shard_in old) of_shard.End) old false new
not_ended old new fault serving why same =
    let told = some_map (shard_refusal (shard_in old) of_shard.End) fault (sym (work_refuses old End serving) ∙ why) in
    (told.0, told.1, same)

-- ---- claims one after the other

-- what an End that was tried says of the next claim
pub record Due (index : ℕ) (t : State) (queues : ℕ) : Type 0 where
  pub free : shard_refusal t (of_shard.Claim index true) ≡ None
  pub below : index < queues

not_all : (index len : ℕ) (b : Bool) (fault : ShardFault)
    → nat_eq index len ≡ b
    → cond b None (Some NotAllTried) ≡ Some fault
    → nat_eq index len ≡ false
not_all index len true fault is e = absurd (none-some fault e)
not_all index len false fault is e = is

all_there : (index len : ℕ) (b : Bool) → nat_eq index len ≡ b → cond b None (Some NotAllTried) ≡ None → index ≡ len
all_there index len true is e = eq_true index len is
all_there index len false is e = absurd (none-some NotAllTried (sym e))

pub claim_due : (index : ℕ) (t0 t : State) (fault : ShardFault)
    → is_some t0.hand ≡ true
    → t0.next_index ≡ 0
    → t ≡ after_claims index t0
    → index ≤ queues_of t0.hand
    → shard_refusal t of_shard.End ≡ Some fault
    → Due index t (queues_of t0.hand)
claim_due index t0 t fault some fresh is within tried = go t0.hand refl some within
  where
    lt_true_is : (a b : ℕ) → a < b → nat_lt a b ≡ true
    lt_true_is a b lt = grind (arith, nat_tests, lt)

    strict : (a b : ℕ) → a ≤ b → a ≢ b → a < b
    strict a b le ne = ⊎_elim (λ (e : a ≡ b). absurd (ne e)) (λ (l : a < b). l) (eq-or-lt_of_le le)

    go : (h : Option Job) → t0.hand ≡ h → is_some h ≡ true → index ≤ queues_of h → Due index t (queues_of h)
    go None e f lt = absurd (true≢false (sym f))
    go (Some job) e f lt =
        let hand : t.hand ≡ Some job = ap (λ (u : State). u.hand) is ∙ claimed_hand index t0 ∙ e in
        let next : t.next_index ≡ index = ap (λ (u : State). u.next_index) is ∙ claimed_index index t0 job e fresh in
        let ends : shard_refusal t of_shard.End ≡ end_refusal (record t { next_index = index }) (Some job) =
        λ k. end_refusal (record t { next_index = next k }) (hand k) in
        let claims :
        shard_refusal t (of_shard.Claim index true) ≡ claim_refusal (record t { next_index = index }) index (Some job) =
        λ k. claim_refusal (record t { next_index = next k }) index (hand k) in
        let left = not_all index (length job.queues) (nat_eq index (length job.queues)) fault refl (sym ends ∙ tried) in
        let below = strict index (length job.queues) lt (eq_false index (length job.queues) left) in
        let here = true_eq index index refl in
        let within = lt_true_is index (length job.queues) below in
        record { free = claims ∙ (λ k. cond (here k && within k) None (Some BadIndex)); below = below }

pub all_claimed : (index : ℕ) (t0 t : State)
    → is_some t0.hand ≡ true
    → t0.next_index ≡ 0
    → t ≡ after_claims index t0
    → shard_refusal t of_shard.End ≡ None
    → index ≡ queues_of t0.hand
all_claimed index t0 t some fresh is done = go t0.hand refl some
  where
    go : (h : Option Job) → t0.hand ≡ h → is_some h ≡ true → index ≡ queues_of h
    go None e f = absurd (true≢false (sym f))
    go (Some job) e f =
        let hand : t.hand ≡ Some job = ap (λ (u : State). u.hand) is ∙ claimed_hand index t0 ∙ e in
        let next : t.next_index ≡ index = ap (λ (u : State). u.next_index) is ∙ claimed_index index t0 job e fresh in
        let ends : shard_refusal t of_shard.End ≡ end_refusal (record t { next_index = index }) (Some job) =
        λ k. end_refusal (record t { next_index = next k }) (hand k) in
        all_there index (length job.queues) (nat_eq index (length job.queues)) refl (sym ends ∙ done)

-- what an End says by its answer
pub record WasNotEnded (cause : Option ShardFault) (old new : Served) : Type 0 where
  pub fault : ShardFault
  pub why : cause ≡ Some fault
  pub same : new ≡ old

pub still_in_hand : (cause : Option ShardFault) (old new : Served) (ended : Bool)
    → ended ≡ false
    → HasEnded cause old ended new
    → WasNotEnded cause old new
still_in_hand cause old new true is ends = absurd (true≢false is)
still_in_hand cause old new false is ends = record { fault = ends.0; why = ends.1; same = ends.2 }

pub record WasEnded (cause : Option ShardFault) (old new : Served) : Type 0 where
  pub free : cause ≡ None
  pub steps : Steps old of_shard.End new

pub ended_now : (cause : Option ShardFault) (old new : Served) (ended : Bool)
    → ended ≡ true
    → HasEnded cause old ended new
    → WasEnded cause old new
ended_now cause old new true is ends = record { free = ends.0; steps = ends.1 }
ended_now cause old new false is ends = absurd (true≢false (sym is))

-- the loop's steps
pub record IsClaiming (first : Served) (index : ℕ) (node : Served) : Type 0 where
  pub serving : IsServing node
  pub shard : shard_in node ≡ after_claims index (shard_in first)
  pub waiting : waiting_in node ≡ []
  pub free : AreFree index node.node.race
  pub within : index ≤ queues_in first

pub claims_next : (first node tried new : Served) (index : ℕ) (ended : Bool)
    → is_some (shard_in first).hand ≡ true
    → (shard_in first).next_index ≡ 0
    → IsClaiming first index node
    → ended ≡ false
    → HasEnded (shard_refusal (shard_in node) of_shard.End) node ended tried
    → HasClaimed index tried new
    → IsClaiming first (index + 1) new
claims_next first node tried new index ended some fresh at is ends claims =
    let was = still_in_hand _ node tried ended is ends in
    let due = claim_due index (shard_in first) (shard_in node) was.fault some fresh at.shard at.within was.why in
    let tried_is : shard_in tried ≡ after_claims index (shard_in first) = ap shard_in was.same ∙ at.shard in
    record {
      serving = claims.steps.serving;
      shard =
          claims.steps.shard
          ∙ ap (λ (t : State). shard_after t (of_shard.Claim index true)) tried_is
          ∙ one_more index (shard_in first);
      waiting = claims.steps.waiting ∙ ap waiting_in was.same ∙ at.waiting;
      free = claims.free;
      within = let below = due.below in omega (arith, below);
    }
  where
    one_more : (n : ℕ) (t : State) → shard_after (after_claims n t) (of_shard.Claim n true) ≡ after_claims (n + 1) t
    one_more n t = let e : suc n ≡ n + 1 = omega arith in ap (λ m. after_claims m t) e

pub claims_all : (first node new : Served) (index : ℕ) (ended : Bool)
    → is_some (shard_in first).hand ≡ true
    → (shard_in first).next_index ≡ 0
    → IsClaiming first index node
    → ended ≡ true
    → HasEnded (shard_refusal (shard_in node) of_shard.End) node ended new
    → HasClaimedAll first new
claims_all first node new index ended some fresh at is ends =
    let was = ended_now _ node new ended is ends in
    let all = all_claimed index (shard_in first) (shard_in node) some fresh at.shard was.free in
    record {
      serving = was.steps.serving;
      shard =
          was.steps.shard
          ∙ ap (λ (t : State). shard_after t of_shard.End) (at.shard ∙ ap (λ n. after_claims n (shard_in first)) all);
      waiting = was.steps.waiting ∙ at.waiting;
    }
