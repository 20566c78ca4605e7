-- Of the Claims of one turn and index exactly one wins where any has a candidate.
use Rattle.std.proofs.Common.{◌≡◌, ◌↔◌, ℕ, suc, ◌+◌, ◌-◌, ◌<◌, ◌≤◌, Bool, true, false, true≢false, cond, nat_eq, ◌&&◌, ◌||◌, List, [], ◌∷◌, ◌++◌, length, Option, Some, None, refl, sym, ap, ◌∙◌, subst, inl, inr, ⊎_elim, arith}
use Rattle.std.specs.Prelude.{filter, slice_get}
use Rattle.std.specs.List.{list_any}
use Rattle.list_laws.specs.Lists.{In}
use Rattle.list_laws.proofs.Tests.{eq_true, true_eq, and_true}
use Rattle.cluster_law.specs.Race.{Race, KeptOver, Keeps}
use Rattle.subj.specs.Servers.{ServerIdentity, IsListed}
use Rattle.subj.specs.declared.jobs.Job.{Job}
use Rattle.subj.specs.declared.limits.TheConstants.{WINDOW}
use Rattle.sub_table.specs.declared.Subscription.{Subscription}
use Rattle.claim_race.specs.Race.{RaceState}
use Rattle.route_values.specs.declared.bodies.Body.{Body}
use Rattle.route_values.specs.declared.bodies.Body.TheVariants.{Plus, Minus, Snapshot, Msg}
use Rattle.shard_core.specs.Owed.{candidate_of}
use Rattle.shard_core.specs.Lines.{SoundLine, Turns, begun_turn}
use Rattle.node_law.specs.Race.{race_of, IssuesNext, Decides}
use Rattle.node_law.specs.State.{ShardWithJobs, Node}
use Rattle.node_law.specs.Events.{ShardWork, Attach, Begin, Claim, End, DropJob, DrainShard, OfConn, AtShard, Publish, Collect, Drain, Dial, Accept, CutSession, TakeFrames, NodeEvent, Own, Receive, OnInfo, OnConnect}
use Rattle.node_law.specs.Steps.{shard_line, ClaimRace, WorkRace, BodyRace, NodeRace, node_after}
use Rattle.node_law.specs.Sound.{SoundNode}
use Rattle.node_law.specs.Runs.{Done, Ran}
use Rattle.node_law.specs.OneServer.{Claimed, claims_by, claims_of, work_claims, claimed_at, claimed_with, option_for, is_tried, is_win, HasOneWinner}
use Rattle.node_law.proofs.Moves.LineEvents.{found}
use Rattle.node_law.proofs.Runs.Sound.{run_sound}
use Rattle.node_law.proofs.Claims.Winners.{races_follow_the_law}

-- over the window a pair is won just where a Claim of it had a candidate
abbrev RaceSays : Race → List Claimed → Type 0
RaceSays race claims =
    (t i : ℕ) → race.issued < t + WINDOW → In (t, i) race.won ↔ (list_any (is_tried t i) claims ≡ true)

record Winners (race : Race) (claims : List Claimed) : Type 0 where
  one : HasOneWinner claims
  says : RaceSays race claims

kept_says : (old new : Race) (claims : List Claimed)
    → old.issued ≤ new.issued
    → KeptOver WINDOW new.issued old.won new.won
    → Winners old claims
    → Winners new claims
kept_says old new claims le kept w = record {
  one = w.one;
  says = λ t i lt.
      let near : old.issued < t + WINDOW = omega arith in
      ((λ x. (w.says t i near).0 ((kept t i lt).1 x)), (λ x. (kept t i lt).0 ((w.says t i near).1 x)));
}

keeps_says : (old new : Race) (claims : List Claimed) → Keeps WINDOW old new → Winners old claims → Winners new claims
keeps_says old new claims k w =
    kept_says old new claims (let e = k.issued in omega arith)
    (subst (λ n. KeptOver WINDOW n old.won new.won) (sym k.issued) k.kept) w

issues_says : (old new : Race) (claims : List Claimed) → IssuesNext old new → Winners old claims → Winners new claims
issues_says old new claims k w = kept_says old new claims (let e = k.issued in omega arith) k.kept w

same_says : (old new : RaceState) (claims : List Claimed)
    → new ≡ old
    → Winners (race_of old) claims
    → Winners (race_of new) claims
same_says old new claims e w = subst (λ x. Winners (race_of x) claims) (sym e) w

-- ---- one Claim

none_claimed : (race : Race) (s index : ℕ) (headers won : Bool) (job : Job) (claims : List Claimed)
    → Winners race claims
    → Winners race
    (record { shard = s; job = job; index = index; candidate = None; headers = headers; won = won } ∷ claims)
none_claimed race s index headers true job claims w = record { one = w.one; says = w.says }
none_claimed race s index headers false job claims w = record { one = w.one; says = w.says }

lost : (old new : Race) (s index : ℕ) (headers : Bool) (job : Job) (u : Subscription) (claims : List Claimed)
    → old.issued < job.turn + WINDOW
    → Decides old job.turn index false new
    → Winners old claims
    → Winners new
    (record { shard = s; job = job; index = index; candidate = Some u; headers = headers; won = false } ∷ claims)
lost old new s index headers job u claims near d w = record {
  one = λ t i. w.one t i ∙ ap (λ b. cond b 1 0) (sym (tried t i));
  says = λ t i lt.
      let g = keeps_says old new claims d.1 w in
      ((λ x. tried t i ∙ (g.says t i lt).0 x), (λ x. (g.says t i lt).1 (sym (tried t i) ∙ x)));
}
  where
    was : list_any (is_tried job.turn index) claims ≡ true
    was = (w.says job.turn index near).0 d.0

    tried : (t i : ℕ)
        → ((nat_eq job.turn t && nat_eq index i) || list_any (is_tried t i) claims) ≡ list_any (is_tried t i) claims
    tried t i = go (nat_eq job.turn t && nat_eq index i) refl
      where
        go : (b : Bool)
            → (nat_eq job.turn t && nat_eq index i) ≡ b
            → (b || list_any (is_tried t i) claims) ≡ list_any (is_tried t i) claims
        go true e =
            let p = and_true (nat_eq job.turn t) (nat_eq index i) e in
            sym (subst (λ x. list_any (is_tried t x) claims ≡ true) (eq_true index i p.1)
            (subst (λ x. list_any (is_tried x index) claims ≡ true) (eq_true job.turn t p.0) was))
        go false e = refl

won : (old new : Race) (s index : ℕ) (headers : Bool) (job : Job) (u : Subscription) (claims : List Claimed)
    → old.issued < job.turn + WINDOW
    → Decides old job.turn index true new
    → Winners old claims
    → Winners new
    (record { shard = s; job = job; index = index; candidate = Some u; headers = headers; won = true } ∷ claims)
won old new s index headers job u claims near d w = record {
  one = λ t i. first t i (nat_eq job.turn t && nat_eq index i) refl;
  says = λ t i lt. (
    (λ x. there t i lt (nat_eq job.turn t && nat_eq index i) refl x),
    (λ x. back t i lt (nat_eq job.turn t && nat_eq index i) refl x),
  );
}
  where
    was_not : (b : Bool)
        → list_any (is_tried job.turn index) claims ≡ b
        → list_any (is_tried job.turn index) claims ≡ false
    was_not true e = absurd (d.unwon ((w.says job.turn index near).1 e))
    was_not false e = e

    here : (t i : ℕ) → (nat_eq job.turn t && nat_eq index i) ≡ true → (t ≡ job.turn) × (i ≡ index)
    here t i e =
        let p = and_true (nat_eq job.turn t) (nat_eq index i) e in
        (sym (eq_true job.turn t p.0), sym (eq_true index i p.1))

    first : (t i : ℕ) (b : Bool)
        → (nat_eq job.turn t && nat_eq index i) ≡ b
        → length (cond b
        (record { shard = s; job = job; index = index; candidate = Some u; headers = headers; won = true }
        ∷ filter (is_win t i) claims)
        (filter (is_win t i) claims)) ≡ cond (b || list_any (is_tried t i) claims) 1 0
    first t i true e =
        let at = here t i e in
        ap suc (w.one t i
        ∙ ap (λ x. cond x 1 0)
        ((λ k. list_any (is_tried (at.0 k) (at.1 k)) claims)
        ∙ was_not (list_any (is_tried job.turn index) claims) refl))
    first t i false e = w.one t i

    old_near : (t : ℕ) → new.issued < t + WINDOW → old.issued < t + WINDOW
    old_near t lt = let e = d.issued in omega arith

    there : (t i : ℕ)
        → new.issued < t + WINDOW
        → (b : Bool)
        → (nat_eq job.turn t && nat_eq index i) ≡ b
        → In (t, i) new.won
        → (b || list_any (is_tried t i) claims) ≡ true
    there t i lt true e x = refl
    there t i lt false e x =
        ⊎_elim (λ (y : In (t, i) old.won). (w.says t i (old_near t lt)).0 y)
        (λ (y : (t ≡ job.turn) × (i ≡ index)).
        absurd (true≢false
        (sym (ap (λ m. m && nat_eq index i) (true_eq job.turn t (sym y.0)) ∙ true_eq index i (sym y.1)) ∙ e)))
        ((d.gains t i (old_near t lt)).0 x)

    back : (t i : ℕ)
        → new.issued < t + WINDOW
        → (b : Bool)
        → (nat_eq job.turn t && nat_eq index i) ≡ b
        → (b || list_any (is_tried t i) claims) ≡ true
        → In (t, i) new.won
    back t i lt true e x = (d.gains t i (old_near t lt)).1 (inr (here t i e))
    back t i lt false e x = (d.gains t i (old_near t lt)).1 (inl ((w.says t i (old_near t lt)).1 x))

-- ---- the step

claim_case : (s index : ℕ) (b : Bool) (old new : RaceState) (claims : List Claimed) (o : Option ShardWithJobs)
    → ((line : ShardWithJobs) → o ≡ Some line → SoundLine WINDOW old.issued line.shard line.waiting)
    → WorkRace old s (Claim index) o b new
    → Winners (race_of old) claims
    → Winners (race_of new) (claimed_at s index b o ++ claims)
claim_case s index b old new claims None sound is w = same_says old new claims is w
claim_case s index b old new claims (Some line) sound is w =
    go line.shard.hand (candidate_of line.shard line.shard.hand index) b (λ job e. near (sound line refl) job e) is
  where
    near : SoundLine WINDOW old.issued line.shard line.waiting
        → (job : Job)
        → line.shard.hand ≡ Some job
        → old.issued < job.turn + WINDOW
    near so job e = let h = so.hand job e in let r = so.room in omega arith

    go : (hand : Option Job) (u : Option Subscription) (b : Bool)
        → ((job : Job) → hand ≡ Some job → old.issued < job.turn + WINDOW)
        → ClaimRace old s index hand u b new
        → Winners (race_of new) (claimed_with s index b line.shard.clients hand u ++ claims)
    go None u b lt k = same_says old new claims k w
    go (Some job) None b lt k =
        none_claimed (race_of new) s index (option_for line.shard.clients None) b job claims
        (same_says old new claims k w)
    go (Some job) (Some u) true lt k =
        won (race_of old) (race_of new) s index (option_for line.shard.clients (Some u)) job u claims (lt job refl)
        (races_follow_the_law.claims old s job.turn index true new k) w
    go (Some job) (Some u) false lt k =
        lost (race_of old) (race_of new) s index (option_for line.shard.clients (Some u)) job u claims (lt job refl)
        (races_follow_the_law.claims old s job.turn index false new k) w

pub line_sound : (server : ServerIdentity) (a : Node)
    → SoundNode server a
    → (shard : ℕ) (line : ShardWithJobs)
    → shard_line a shard ≡ Some line
    → SoundLine WINDOW a.race.issued line.shard line.waiting
line_sound server a sound shard line e =
    (sound.lines (shard - 1) line (found (nat_eq shard 0) (slice_get a.lines (shard - 1)) line e)).sound

work_case : (s : ℕ) (work : ShardWork) (b : Bool) (a : Node) (new : RaceState) (claims : List Claimed)
    (o : Option ShardWithJobs)
    → shard_line a s ≡ o
    → ((line : ShardWithJobs) → shard_line a s ≡ Some line → SoundLine WINDOW a.race.issued line.shard line.waiting)
    → WorkRace a.race s work o b new
    → Winners (race_of a.race) claims
    → Winners (race_of new) (work_claims a s work b ++ claims)
work_case s (Claim index) b a new claims o at sound is w =
    claim_case s index b a.race new claims (shard_line a s) sound
    (subst (λ x. WorkRace a.race s (Claim index) x b new) (sym at) is) w
work_case s Attach b a new claims None at sound is w = same_says a.race new claims is w
work_case s Begin b a new claims None at sound is w = same_says a.race new claims is w
work_case s End b a new claims None at sound is w = same_says a.race new claims is w
work_case s DropJob b a new claims None at sound is w = same_says a.race new claims is w
work_case s Attach b a new claims (Some line) at sound is w = same_says a.race new claims is w
work_case s Begin b a new claims (Some line) at sound is w = same_says a.race new claims is w
work_case s End b a new claims (Some line) at sound is w =
    keeps_says (race_of a.race) (race_of new) claims
    (races_follow_the_law.finishes a.race s (line.shard.finished + 1) new is) w
work_case s DropJob b a new claims (Some line) at sound is w =
    keeps_says (race_of a.race) (race_of new) claims
    (races_follow_the_law.finishes a.race s (line.shard.finished + 1) new is) w
work_case s DrainShard b a new claims None at sound is w = same_says a.race new claims is w
work_case s DrainShard b a new claims (Some line) at sound is w = same_says a.race new claims is w

body_case : (a : Node) (body : Body) (r : RaceState) (claims : List Claimed)
    → BodyRace a body r
    → Winners (race_of a.race) claims
    → Winners (race_of r) claims
body_case a (Plus weighted) r claims is w = same_says a.race r claims is w
body_case a (Minus key) r claims is w = same_says a.race r claims is w
body_case a (Snapshot keys) r claims is w = same_says a.race r claims is w
body_case a (Msg content queues) r claims is w =
    issues_says (race_of a.race) (race_of r) claims (races_follow_the_law.issues a.race (a.race.issued + 1) r is) w

step_winners : (server : ServerIdentity) (a : Node) (e : NodeEvent) (b : Bool) (r : RaceState) (claims : List Claimed)
    → SoundNode server a
    → NodeRace a e b r
    → Winners (race_of a.race) claims
    → Winners (race_of (node_after server a e b r).race) (claims_by a e b ++ claims)
step_winners server a (Own (OfConn conn event)) b r claims sound race w = w
step_winners server a (Own (AtShard s work)) b r claims sound race w =
    work_case s work b a r claims (shard_line a s) refl (line_sound server a sound s) race w
step_winners server a (Own (Publish p)) b r claims sound race w =
    issues_says (race_of a.race) (race_of r) claims (races_follow_the_law.issues a.race (a.race.issued + 1) r race) w
step_winners server a (Own (Collect s)) b r claims sound race w = w
step_winners server a (Own Drain) b r claims sound race w = w
step_winners server a (Own (Dial q)) b r claims sound race w = w
step_winners server a (Own Accept) b r claims sound race w = w
step_winners server a (Own (CutSession k)) b r claims sound race w = w
step_winners server a (Own (TakeFrames q count)) b r claims sound race w = w
step_winners server a (Receive frame) b r claims sound race w = body_case a frame.body r claims race w
step_winners server a (OnInfo k info) b r claims sound race w = w
step_winners server a (OnConnect k connect) b r claims sound race w = w

run_winners : (server : ServerIdentity) (h : List Done) (a : Node)
    → IsListed server
    → Ran server h a
    → Winners (race_of a.race) (claims_of h)
run_winners server [] a listed is =
    subst (λ (x : Node). Winners (race_of x.race) []) (sym is)
    (record { one = λ t i. refl; says = λ t i lt. ((λ x. absurd x), (λ x. absurd (true≢false (sym x)))) })
run_winners server (d ∷ earlier) a listed ran =
    subst (λ (x : Node). Winners (race_of x.race) (claims_of (d ∷ earlier))) (sym ran.0.after)
    (step_winners server d.before d.event d.won d.race (claims_of earlier)
    (run_sound server earlier d.before listed ran.1) ran.0.moves (run_winners server earlier d.before listed ran.1))

pub queue_names_have_one_winner : (server : ServerIdentity) (h : List Done) (a : Node)
    → IsListed server
    → Ran server h a
    → HasOneWinner (claims_of h)
queue_names_have_one_winner server h a listed ran = (run_winners server h a listed ran).one

-- ---- no Claim is of a turn that was not issued

turns_le : (begun : ℕ) (jobs : List Job) (issued : ℕ) → Turns begun jobs issued → begun ≤ issued
turns_le begun [] issued t = omega arith
turns_le begun (job ∷ jobs) issued t = let h = turns_le (suc begun) jobs issued t.1 in omega arith

hand_le : (issued : ℕ) (line : ShardWithJobs)
    → SoundLine WINDOW issued line.shard line.waiting
    → (job : Job)
    → line.shard.hand ≡ Some job
    → job.turn ≤ issued
hand_le issued line so job e =
    let h = so.hand job e in
    let t = turns_le (suc line.shard.finished) line.waiting issued
    (subst (λ x. Turns (begun_turn x line.shard.finished) line.waiting issued) e so.turns) in
    omega arith

abbrev Below : ℕ → List Claimed → Type 0
Below issued claims = (t i : ℕ) → list_any (is_tried t i) claims ≡ true → t ≤ issued

below_more : (m n : ℕ) (claims : List Claimed) → m ≤ n → Below m claims → Below n claims
below_more m n claims le b = λ t i e. let h = b t i e in omega arith

claim_below : (s index : ℕ) (b : Bool) (issued : ℕ) (claims : List Claimed) (o : Option ShardWithJobs)
    → ((line : ShardWithJobs) → o ≡ Some line → SoundLine WINDOW issued line.shard line.waiting)
    → Below issued claims
    → Below issued (claimed_at s index b o ++ claims)
claim_below s index b issued claims None sound below = below
claim_below s index b issued claims (Some line) sound below =
    go line.shard.hand (candidate_of line.shard line.shard.hand index) (hand_le issued line (sound line refl))
  where
    go : (hand : Option Job) (u : Option Subscription)
        → ((job : Job) → hand ≡ Some job → job.turn ≤ issued)
        → Below issued (claimed_with s index b line.shard.clients hand u ++ claims)
    go None u le = below
    go (Some job) None le = below
    go (Some job) (Some u) le = λ t i e. by t i (nat_eq job.turn t && nat_eq index i) refl e
      where
        by : (t i : ℕ) (x : Bool)
            → (nat_eq job.turn t && nat_eq index i) ≡ x
            → (x || list_any (is_tried t i) claims) ≡ true
            → t ≤ issued
        by t i true f g =
            subst (λ m. m ≤ issued) (eq_true job.turn t (and_true (nat_eq job.turn t) (nat_eq index i) f).0)
            (le job refl)
        by t i false f g = below t i g

work_below : (server : ServerIdentity) (a : Node) (s : ℕ) (work : ShardWork) (b : Bool) (claims : List Claimed)
    → SoundNode server a
    → Below a.race.issued claims
    → Below a.race.issued (work_claims a s work b ++ claims)
work_below server a s Attach b claims sound below = below
work_below server a s Begin b claims sound below = below
work_below server a s (Claim index) b claims sound below =
    claim_below s index b a.race.issued claims (shard_line a s) (line_sound server a sound s) below
work_below server a s End b claims sound below = below
work_below server a s DropJob b claims sound below = below
work_below server a s DrainShard b claims sound below = below

step_below : (server : ServerIdentity) (a : Node) (e : NodeEvent) (b : Bool) (claims : List Claimed)
    → SoundNode server a
    → Below a.race.issued claims
    → Below a.race.issued (claims_by a e b ++ claims)
step_below server a (Own (OfConn conn event)) b claims sound below = below
step_below server a (Own (AtShard s work)) b claims sound below = work_below server a s work b claims sound below
step_below server a (Own (Publish p)) b claims sound below = below
step_below server a (Own (Collect s)) b claims sound below = below
step_below server a (Own Drain) b claims sound below = below
step_below server a (Own (Dial q)) b claims sound below = below
step_below server a (Own Accept) b claims sound below = below
step_below server a (Own (CutSession k)) b claims sound below = below
step_below server a (Own (TakeFrames q count)) b claims sound below = below
step_below server a (Receive frame) b claims sound below = below
step_below server a (OnInfo k info) b claims sound below = below
step_below server a (OnConnect k connect) b claims sound below = below

claim_issued : (old : RaceState) (s index : ℕ) (hand : Option Job) (u : Option Subscription) (b : Bool)
    (new : RaceState)
    → ClaimRace old s index hand u b new
    → old.issued ≤ new.issued
claim_issued old s index None u b new k = let h = ap (λ (x : RaceState). x.issued) k in omega arith
claim_issued old s index (Some job) None b new k = let h = ap (λ (x : RaceState). x.issued) k in omega arith
claim_issued old s index (Some job) (Some u) b new k = let h = k.issued in omega arith

pub work_issued : (old : RaceState) (s : ℕ) (work : ShardWork) (o : Option ShardWithJobs) (b : Bool) (new : RaceState)
    → WorkRace old s work o b new
    → old.issued ≤ new.issued
work_issued old s work None b new k = let h = ap (λ (x : RaceState). x.issued) k in omega arith
work_issued old s Attach (Some line) b new k = let h = ap (λ (x : RaceState). x.issued) k in omega arith
work_issued old s Begin (Some line) b new k = let h = ap (λ (x : RaceState). x.issued) k in omega arith
work_issued old s (Claim index) (Some line) b new k =
    claim_issued old s index line.shard.hand (candidate_of line.shard line.shard.hand index) b new k
work_issued old s End (Some line) b new k = let h = k.issued in omega arith
work_issued old s DropJob (Some line) b new k = let h = k.issued in omega arith
work_issued old s DrainShard (Some line) b new k = let h = ap (λ (x : RaceState). x.issued) k in omega arith

body_issued : (a : Node) (body : Body) (r : RaceState) → BodyRace a body r → a.race.issued ≤ r.issued
body_issued a (Plus weighted) r k = let h = ap (λ (x : RaceState). x.issued) k in omega arith
body_issued a (Minus key) r k = let h = ap (λ (x : RaceState). x.issued) k in omega arith
body_issued a (Snapshot keys) r k = let h = ap (λ (x : RaceState). x.issued) k in omega arith
body_issued a (Msg content queues) r k = let h = k.issued in let g = k.after in omega arith

issued_after : (server : ServerIdentity) (a : Node) (e : NodeEvent) (b : Bool) (r : RaceState)
    → NodeRace a e b r
    → a.race.issued ≤ (node_after server a e b r).race.issued
issued_after server a (Own (OfConn conn event)) b r race = omega arith
issued_after server a (Own (AtShard s work)) b r race = work_issued a.race s work (shard_line a s) b r race
issued_after server a (Own (Publish p)) b r race = let h = race.issued in let g = race.after in omega arith
issued_after server a (Own (Collect s)) b r race = omega arith
issued_after server a (Own Drain) b r race = omega arith
issued_after server a (Own (Dial q)) b r race = omega arith
issued_after server a (Own Accept) b r race = omega arith
issued_after server a (Own (CutSession k)) b r race = omega arith
issued_after server a (Own (TakeFrames q count)) b r race = omega arith
issued_after server a (Receive frame) b r race = body_issued a frame.body r race
issued_after server a (OnInfo k info) b r race = omega arith
issued_after server a (OnConnect k connect) b r race = omega arith

run_below : (server : ServerIdentity) (h : List Done) (a : Node)
    → IsListed server
    → Ran server h a
    → Below a.race.issued (claims_of h)
run_below server [] a listed is = λ t i e. absurd (true≢false (sym e))
run_below server (d ∷ earlier) a listed ran =
    subst (λ (x : Node). Below x.race.issued (claims_of (d ∷ earlier))) (sym ran.0.after)
    (below_more d.before.race.issued _ (claims_of (d ∷ earlier))
    (issued_after server d.before d.event d.won d.race ran.0.moves)
    (step_below server d.before d.event d.won (claims_of earlier) (run_sound server earlier d.before listed ran.1)
    (run_below server earlier d.before listed ran.1)))

pub turns_are_fresh : (server : ServerIdentity) (h : List Done) (a : Node)
    → IsListed server
    → Ran server h a
    → (turn index : ℕ)
    → a.race.issued < turn
    → In (turn, index) (race_of a.race).won
    → ⊥
turns_are_fresh server h a listed ran turn index lt i =
    let w = run_winners server h a listed ran in
    let b = run_below server h a listed ran turn index ((w.says turn index (omega arith)).0 i) in absurd (omega arith)
