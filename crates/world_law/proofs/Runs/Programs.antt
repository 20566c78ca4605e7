-- In the worlds that runs reach nothing is won in a turn that is not issued, so the program on lists makes runs.
use Rattle.std.proofs.Common.{◌≡◌, ◌≢◌, ℕ, suc, ◌<◌, ◌≤◌, ◌+◌, ◌-◌, arith, Bool, true, false, cond, nat_eq, ◌&&◌, List, [], ◌∷◌, ◌++◌, length, set, Option, Some, None, refl, sym, ap, ◌∙◌, subst}
use Rattle.std.specs.Prelude.{slice_get}
use Rattle.std.proofs.lemmas.Option.{none-some, same_Some}
use Rattle.cluster_law.specs.Cluster as cluster
use Rattle.list_laws.proofs.Lists.{read_set, read_replicate}
use Rattle.list_laws.proofs.Tests.{false_eq}
use Rattle.claim_race.specs.Race.{RaceState, winner, winner_after, IsIssued, IsClaimed, IsFinished}
use Rattle.sub_table.specs.declared.Subscription.{Subscription}
use Rattle.subj.specs.declared.jobs.Job.{Job}
use Rattle.subj.specs.Servers.{ServerIdentity}
use Rattle.route_values.specs.declared.bodies.Body.{Body}
use Rattle.route_values.specs.declared.bodies.Body.TheVariants.{Plus, Minus, Snapshot, Msg}
use Rattle.shard_core.specs.Lines.{Turns, begun_turn}
use Rattle.shard_core.specs.Owed.{candidate_of}
use Rattle.node_law.specs.declared.events.ShardWork.{ShardWork}
use Rattle.node_law.specs.declared.events.ShardWork.TheVariants.{Attach, Begin, Claim, End, DropJob, DrainShard}
use Rattle.node_law.specs.Events.{OfConn, AtShard, Publish, Collect, Drain, Dial, Accept, CutSession, TakeFrames, NodeEvent, Own, Receive, OnInfo, OnConnect}
use Rattle.node_law.specs.Sound.{SoundNode}
use Rattle.node_law.proofs.Moves.LineEvents.{found}
use Rattle.node_law.specs.State.{ShardWithJobs, Node, new_race}
use Rattle.node_law.specs.Steps.{NodeRace, WorkRace, ClaimRace, BodyRace, shard_line, node_after}
use Rattle.world_law.specs.declared.faults.WorldFault.{WorldFault}
use Rattle.world_law.specs.State.{Cluster, Running, World, new_world, server_at}
use Rattle.world_law.specs.Events.{Event, Start, Stop, At, event_for}
use Rattle.world_law.specs.Events as of_world
use Rattle.world_law.specs.Refusals.{world_refusal}
use Rattle.world_law.specs.Steps.{Acts, Happens, Decided, WorldStep, Run, Answers}
use Rattle.world_law.specs.Headline.{IsCluster, EachUp}
use Rattle.world_law.specs.Play.{NoneAhead, next, outcome, outcomes_of_events, world_after_events}
use Rattle.world_law.specs.Outcomes.{Outcome}
use Rattle.world_law.proofs.Runs.Plays.{Puts, has_step}
use Rattle.world_law.proofs.Seen.Worlds.{NodeLaws}
use Rattle.world_law.proofs.Seen.Machine.{law_for, Sees}
use Rattle.world_law.proofs.Seen.Whole.{step_next, first_seen, sound_of}

-- ---- a race

ahead_issued : (old new : RaceState) → IsIssued old (old.issued + 1) new → NoneAhead old → NoneAhead new
ahead_issued old new r ahead t i lt = r.kept.winners t i (omega arith) ∙ ahead t i (let is = r.issued in omega arith)

ahead_claimed : (old new : RaceState) (shard turn index : ℕ) (won : Bool)
    → turn ≤ old.issued
    → IsClaimed old shard turn index won new
    → NoneAhead old
    → NoneAhead new
ahead_claimed old new shard turn index won le r ahead t i lt = r.winners t i (omega arith) ∙ go won
  where
    below : old.issued < t
    below = let is = r.issued in omega arith

    apart : t ≢ turn
    apart e = let lt = below in omega arith

    go : (b : Bool) → cond b (winner_after old shard turn index t i) (winner old t i) ≡ None
    go true =
        ap (λ q. cond (q && nat_eq i index) (Some shard) (winner old t i)) (false_eq t turn apart) ∙ ahead t i below
    go false = ahead t i below

ahead_finished : (old new : RaceState) (shard turn : ℕ) → IsFinished old shard turn new → NoneAhead old → NoneAhead new
ahead_finished old new shard turn r ahead t i lt =
    r.kept.winners t i (omega arith) ∙ ahead t i (let is = r.issued in omega arith)

-- ---- a server

issued_turn : (begun : ℕ) (jobs : List Job) (issued : ℕ) → Turns begun jobs issued → begun ≤ issued
issued_turn begun [] issued h = omega arith
issued_turn begun (job ∷ jobs) issued h = let le = issued_turn (suc begun) jobs issued h.1 in omega arith

hand_issued : (server : ServerIdentity) (a : Node)
    → SoundNode server a
    → (shard : ℕ) (line : ShardWithJobs)
    → shard_line a shard ≡ Some line
    → (job : Job)
    → line.shard.hand ≡ Some job
    → job.turn ≤ a.race.issued
hand_issued server a sound shard line at job hand =
    let l = (sound.lines (shard - 1) line (found (nat_eq shard 0) (slice_get a.lines (shard - 1)) line at)).sound in
    let is = l.hand job hand in
    let le = issued_turn (suc line.shard.finished) line.waiting a.race.issued
    (subst (λ h. Turns (begun_turn h line.shard.finished) line.waiting a.race.issued) hand l.turns) in
    omega arith

claim_ahead : (race after : RaceState) (shard index : ℕ) (hand : Option Job) (u : Option Subscription) (won : Bool)
    → ((job : Job) → hand ≡ Some job → job.turn ≤ race.issued)
    → ClaimRace race shard index hand u won after
    → NoneAhead race
    → NoneAhead after
claim_ahead race after shard index None None won le r ahead = subst NoneAhead (sym r) ahead
claim_ahead race after shard index None (Some u) won le r ahead = subst NoneAhead (sym r) ahead
claim_ahead race after shard index (Some job) None won le r ahead = subst NoneAhead (sym r) ahead
claim_ahead race after shard index (Some job) (Some u) won le r ahead =
    ahead_claimed race after shard job.turn index won (le job refl) r ahead

work_ahead : (race after : RaceState) (shard : ℕ) (work : ShardWork) (o : Option ShardWithJobs) (won : Bool)
    → ((line : ShardWithJobs) → o ≡ Some line → (job : Job) → line.shard.hand ≡ Some job → job.turn ≤ race.issued)
    → WorkRace race shard work o won after
    → NoneAhead race
    → NoneAhead after
work_ahead race after shard work None won le r ahead = subst NoneAhead (sym r) ahead
work_ahead race after shard Attach (Some line) won le r ahead = subst NoneAhead (sym r) ahead
work_ahead race after shard Begin (Some line) won le r ahead = subst NoneAhead (sym r) ahead
work_ahead race after shard (Claim index) (Some line) won le r ahead =
    claim_ahead race after shard index line.shard.hand (candidate_of line.shard line.shard.hand index) won
    (le line refl) r ahead
work_ahead race after shard End (Some line) won le r ahead =
    ahead_finished race after shard (line.shard.finished + 1) r ahead
work_ahead race after shard DropJob (Some line) won le r ahead =
    ahead_finished race after shard (line.shard.finished + 1) r ahead
work_ahead race after shard DrainShard (Some line) won le r ahead = subst NoneAhead (sym r) ahead

body_ahead : (a : Node) (after : RaceState) (body : Body) → BodyRace a body after → NoneAhead a.race → NoneAhead after
body_ahead a after (Plus weighted) r ahead = subst NoneAhead (sym r) ahead
body_ahead a after (Minus key) r ahead = subst NoneAhead (sym r) ahead
body_ahead a after (Snapshot keys) r ahead = subst NoneAhead (sym r) ahead
body_ahead a after (Msg content queues) r ahead = ahead_issued a.race after r ahead

after_ahead : (server : ServerIdentity) (a : Node) (e : NodeEvent) (won : Bool) (race : RaceState) → SoundNode server a
    → NodeRace a e won race → NoneAhead a.race → NoneAhead (node_after server a e won race).race
after_ahead server a (Own (OfConn conn event)) won race sound r ahead = ahead
after_ahead server a (Own (AtShard shard work)) won race sound r ahead =
    work_ahead a.race race shard work (shard_line a shard) won (hand_issued server a sound shard) r ahead
after_ahead server a (Own (Publish p)) won race sound r ahead = ahead_issued a.race race r ahead
after_ahead server a (Own (Collect shard)) won race sound r ahead = ahead
after_ahead server a (Own Drain) won race sound r ahead = ahead
after_ahead server a (Own (Dial q)) won race sound r ahead = ahead
after_ahead server a (Own Accept) won race sound r ahead = ahead
after_ahead server a (Own (CutSession session)) won race sound r ahead = ahead
after_ahead server a (Own (TakeFrames q count)) won race sound r ahead = ahead
after_ahead server a (Receive frame) won race sound r ahead = body_ahead a race frame.body r ahead
after_ahead server a (OnInfo session info) won race sound r ahead = ahead
after_ahead server a (OnConnect session connect) won race sound r ahead = ahead

-- ---- a cluster

abbrev pub Ahead : List (Option Running) → Type 0
Ahead nodes = (n : ℕ) (a : Running) → slice_get nodes n ≡ Some (Some a) → NoneAhead a.node.race

ahead_set : (nodes : List (Option Running)) (n : ℕ) (new : Option Running)
    → Ahead nodes
    → ((a : Running) → new ≡ Some a → NoneAhead a.node.race)
    → Ahead (set nodes n new)
ahead_set nodes n new h here k a e =
    read_set (λ k o. (a : Running) → o ≡ Some a → NoneAhead a.node.race) nodes n new
    (λ k o apart f a is. h k a (f ∙ ap Some is)) here k (Some a) e a refl

new_ahead : (shards : ℕ) → NoneAhead (new_race shards)
unfolding winner
new_ahead shards t i lt = refl

acts_ahead : (c : Cluster) (w w' : World) (n : ℕ) (event : Option NodeEvent) (told : Outcome)
    → EachUp (λ k a. SoundNode (server_at c k a.inc) a.node) w
    → Ahead w.nodes
    → Acts c w n event told w'
    → Ahead w'.nodes
acts_ahead c w w' n event told sound ahead s =
    subst (λ (x : World). Ahead x.nodes) (sym s.after)
    (ahead_set w.nodes n (Some (record { inc = s.a.inc; node = s.b })) ahead
    (λ a e. subst (λ (x : Running). NoneAhead x.node.race) (same_Some _ a e) here))
  where
    here : NoneAhead s.b.race
    here =
        subst (λ (x : Node). NoneAhead x.race) (sym s.steps.after)
        (after_ahead (server_at c n s.a.inc) s.a.node s.e s.won s.race (sound n s.a s.a_is) s.steps.moves
        (ahead n s.a s.a_is))

happens_ahead : (c : Cluster) (w w' : World) (e : Event) (told : Outcome)
    → EachUp (λ k a. SoundNode (server_at c k a.inc) a.node) w → Ahead w.nodes → Happens c w e told w' → Ahead w'.nodes
happens_ahead c w w' (Start n inc) told sound ahead s =
    subst (λ (x : World). Ahead x.nodes) (sym s.after)
    (ahead_set w.nodes n _ ahead
    (λ a e. subst (λ (x : Running). NoneAhead x.node.race) (same_Some _ a e) (new_ahead c.shards)))
happens_ahead c w w' (Stop n) told sound ahead s =
    subst (λ (x : World). Ahead x.nodes) (sym s.after) (ahead_set w.nodes n None ahead (λ a e. absurd (none-some a e)))
happens_ahead c w w' (of_world.Receive n k) told sound ahead s =
    acts_ahead c w w' n (event_for w (of_world.Receive n k)) told sound ahead s
happens_ahead c w w' (of_world.OnInfo n session k) told sound ahead s =
    acts_ahead c w w' n (event_for w (of_world.OnInfo n session k)) told sound ahead s
happens_ahead c w w' (of_world.OnConnect n session k) told sound ahead s =
    acts_ahead c w w' n (event_for w (of_world.OnConnect n session k)) told sound ahead s
happens_ahead c w w' (At n event) told sound ahead s = acts_ahead c w w' n (event_for w (At n event)) told sound ahead s

pub step_ahead : (c : Cluster) (w w' : World) (e : Event) (told : Outcome)
    → EachUp (λ k a. SoundNode (server_at c k a.inc) a.node) w → Ahead w.nodes → WorldStep c w e told w'
    → Ahead w'.nodes
step_ahead c w w' e told sound ahead s = go (world_refusal c w e) s
  where
    go : (o : Option WorldFault) → Decided c w e o told w' → Ahead w'.nodes
    go None d = happens_ahead c w w' e told sound ahead d
    go (Some why) d = subst (λ (x : World). Ahead x.nodes) (sym d.1) ahead

first_ahead : (c : Cluster) → Ahead (new_world c).nodes
first_ahead c n a e = absurd (none-some a (sym (read_replicate (length c.names) None (Some a) n e)))

-- ---- runs

-- one more step at the end
pub one_more : (c : Cluster) (w : World) (es : List Event) (w' : World) (e : Event) (told : Outcome) (w'' : World)
    → Run c w es w'
    → WorldStep c w' e told w''
    → Run c w (es ++ e ∷ []) w''
one_more c w [] w' e told w'' r step = (w'', told, subst (λ (x : World). WorldStep c x e told w'') r step, refl)
one_more c w (x ∷ es) w' e told w'' r step = (r.0, r.1, r.2, one_more c r.0 es w' e told w'' r.3 step)

over_ahead : NodeLaws
    → (c : Cluster)
    → IsCluster c
    → (w : World) (v : cluster.World) (es : List Event) (w' : World)
    → Run c w es w'
    → Sees c w v
    → Ahead w.nodes
    → Ahead w'.nodes
over_ahead laws c set_up w v [] w' r h ahead = subst (λ (x : World). Ahead x.nodes) (sym r) ahead
over_ahead laws c set_up w v (e ∷ es) w' r h ahead =
    let first = step_next laws c set_up w v e r.1 r.0 r.2 h in
    over_ahead laws c set_up r.0 first.seen es w' r.3 first.sees (step_ahead c w r.0 e r.1 (sound_of c w v h) ahead r.2)

pub reached_step : Puts
    → NodeLaws
    → (c : Cluster)
    → IsCluster c
    → (es : List Event) (w : World)
    → Run c (new_world c) es w
    → (e : Event)
    → WorldStep c w e (outcome c w e) (next c w e)
reached_step puts laws c set_up es w r e =
    has_step puts c w e
    (over_ahead laws c set_up (new_world c) (cluster.begin (law_for c)) es w r (first_seen c) (first_ahead c))

over_played : Puts
    → NodeLaws
    → (c : Cluster)
    → IsCluster c
    → (w : World) (v : cluster.World) (es : List Event)
    → Sees c w v
    → Ahead w.nodes
    → Answers c w es (outcomes_of_events c w es) (world_after_events c w es)
over_played puts laws c set_up w v [] h ahead = (refl, refl)
over_played puts laws c set_up w v (e ∷ es) h ahead =
    let step = has_step puts c w e ahead in
    let first = step_next laws c set_up w v e (outcome c w e) (next c w e) step h in
    let rest = over_played puts laws c set_up (next c w e) first.seen es first.sees
    (step_ahead c w (next c w e) e (outcome c w e) (sound_of c w v h) ahead step) in
    ((next c w e, outcome c w e, step, rest.0), ap (λ t. outcome c w e ∷ t) rest.1)

pub played_run : Puts
    → NodeLaws
    → (c : Cluster)
    → IsCluster c
    → (es : List Event)
    → Answers c (new_world c) es (outcomes_of_events c (new_world c) es) (world_after_events c (new_world c) es)
played_run puts laws c set_up es =
    over_played puts laws c set_up (new_world c) (cluster.begin (law_for c)) es (first_seen c) (first_ahead c)
