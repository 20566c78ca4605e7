-- A whole order: each server that has a job works it off.
use Rattle.std.proofs.Common.{◌≡◌, ◌≢◌, ◌⊎◌, ℕ, zero, suc, ◌+◌, ◌<◌, Bool, true, false, true≢false, ◌&&◌, nat_eq, List, [], ◌∷◌, ◌++◌, length, Option, Some, None, refl, sym, ap, ◌∙◌, subst, inl, inr, ⊎_elim, arith}
use Rattle.std.specs.Prelude.{filter, slice_get, is_some}
use Rattle.std.proofs.lemmas.Option.{same_Some, slice_get_within}
use Rattle.list_laws.specs.Lists.{In, Each}
use Rattle.list_laws.proofs.Lists.{read_map, get_some}
use Rattle.list_laws.proofs.Tests.{true_eq, false_eq, eq_true, eq_false, and_true}
use Rattle.subj.specs.Messages.{Content}
use Rattle.subj.specs.declared.jobs.Job.{Job}
use Rattle.claim_race.specs.Race.{winner}
use Rattle.route_values.specs.Frames.{Frame}
use Rattle.route_values.specs.declared.bodies.Body.TheVariants.{Msg}
use Rattle.route_values.specs.declared.frames.RouteFrame.TheVariants as route
use Rattle.hub_core.specs.Receiving.{receive_refusal, routed_job}
use Rattle.node_law.specs.EachShard.{ShardsAreHeld}
use Rattle.node_law.specs.Sound.{SoundNode}
use Rattle.node_law.specs.State.{ShardWithJobs, finished_turns}
use Rattle.node_law.specs.Steps.{line_with_job}
use Rattle.world_law.specs.Changes.{PlacementsAreOne}
use Rattle.world_law.specs.Events.{Event, Start, Stop, Receive, OnInfo, OnConnect, At, frame_at}
use Rattle.world_law.specs.Headline.{EachUp}
use Rattle.world_law.specs.Outcomes.{Outcome}
use Rattle.world_law.specs.Play.{PutsArePlaced}
use Rattle.world_law.specs.State.{Cluster, World, Running, Placement, new_world, server_at}
use Rattle.world_law.specs.Steps.{WorldStep, Run, outcomes_of}
use Rattle.settled_law.specs.Delivered.{IsDone}
use Rattle.settled_law.specs.Orders.{is_for, is_work_of, work_events, claims_from, HasLine}
use Rattle.settled_law.proofs.Works.Steps.{JobComes, receives}
use Rattle.settled_law.proofs.Works.Stages.{Goals, Waits, Working, Over, Stage, Errand, Busy, stage_more, head_is, not_empty, skips, busy_step}

-- ---- events of other servers

pub elsewhere : (m o place other : ℕ) (e : Event) → o ≢ m → is_for m place e ≡ true → is_for o other e ≡ false
elsewhere m o place other (Start n inc) apart e = refl
elsewhere m o place other (Stop n) apart e = refl
elsewhere m o place other (Receive n k) apart e = false_eq n o (λ f. apart (sym f ∙ eq_true n m e))
elsewhere m o place other (OnInfo n session k) apart e = refl
elsewhere m o place other (OnConnect n session k) apart e = refl
elsewhere m o place other (At n event) apart e =
    ap (λ b. b && is_work_of other event)
    (false_eq n o (λ f. apart (sym f ∙ eq_true n m (and_true (nat_eq n m) (is_work_of place event) e).0)))

-- ---- a run goes on

pub run_on : (c : Cluster) (w : World) (events : List Event) (w' : World) (e : Event) (outcome : Outcome) (w'' : World)
    → Run c w events w'
    → WorldStep c w' e outcome w''
    → Run c w (events ++ e ∷ []) w''
run_on c w [] w' e outcome w'' run step = (w'', outcome, subst (λ x. WorldStep c x e outcome w'') run step, refl)
run_on c w (x ∷ events) w' e outcome w'' run step = (
  run.0,
  run.1,
  run.2,
  run_on c run.0 events w' e outcome w'' run.3 step,
)

pub record Reached (c : Cluster) (w : World) : Type 0 where
  pub events : List Event
  pub run : Run c (new_world c) events w

-- ---- what each server has to do

pub record Task : Type 0 where
  pub inc : ℕ
  pub job : Job
  pub starts : List ShardWithJobs

pub record Comes (c : Cluster) (w : World) (m : ℕ) (t : Task) (left : List Event) : Type 0 where
  pub a : Running
  pub up : slice_get w.nodes m ≡ Some (Some a)
  pub k : ℕ
  pub frame : Frame
  pub content : Content
  pub queues : List (List ℕ)
  pub at : frame_at k w.sent ≡ Some (route.Numbered frame)
  pub body : frame.body ≡ Msg content queues
  pub taken : receive_refusal (server_at c m a.inc) a.node.hub (finished_turns a.node.lines) frame ≡ None
  pub task : t ≡ record { inc = a.inc; job = routed_job a.node.hub frame content queues; starts = a.node.lines }
  pub left_is : (place : ℕ)
      → place < c.shards
      → filter (is_for m (suc place)) left ≡ Receive m k ∷ work_events m (suc place) (length queues)

abbrev pub NodeStage : Cluster → World → ℕ → List Event → Option Task → Type 0
NodeStage c w m left None = (place : ℕ) → place < c.shards → filter (is_for m (suc place)) left ≡ []
NodeStage c w m left (Some t) = Comes c w m t left ⊎ Busy w m t.inc t.job t.starts left

-- a server that gets its job
pub comes : (c : Cluster) (w : World) (m : ℕ) (a : Running) (job : Job) (w' : World) (es : List Event)
    → SoundNode (server_at c m a.inc) a.node
    → job.turn ≡ a.node.hub.issued + 1
    → Errand c job a.node.lines
    → JobComes w m a job w'
    → ((place : ℕ) → place < c.shards
    → filter (is_for m (suc place)) es ≡ work_events m (suc place) (length job.queues))
    → Busy w' m a.inc job a.node.lines es
comes c w m a job w' es sound turn errand j left = record {
  a = j.b;
  up = j.up;
  inc_is = j.inc;
  issued = j.moves.issued ∙ now;
  lines = λ place start line s l.
      let e = read_map (line_with_job job) a.node.lines place line (ap (λ ls. slice_get ls place) (sym j.lines) ∙ l) in
      let f : start ≡ e.0 = same_Some start e.0 (sym s ∙ e.1) in
      let g : line ≡ line_with_job job start = e.2 ∙ ap (line_with_job job) (sym f) in
      inl (record {
        left_is = left place (below place start s);
        shard = ap (λ (x : ShardWithJobs). x.shard) g;
        waiting = ap (λ (x : ShardWithJobs). x.waiting) g ∙ ap (λ l. l ++ job ∷ []) (errand.rest place start s).waiting;
      });
  won = λ i name some q.
      absurd (true≢false (sym some ∙ ap is_some (ap (λ t. winner j.b.node.race t i) (sym now) ∙ j.moves.fresh i)));
}
  where
    now : a.node.race.issued + 1 ≡ job.turn
    now = let e = sound.issued in omega (arith, turn, e)

    below : (place : ℕ) (start : ShardWithJobs) → slice_get a.node.lines place ≡ Some start → place < c.shards
    below place start s =
        let size = errand.size in let lt = slice_get_within a.node.lines place start s in omega (arith, size, lt)

-- ---- a step of an order, and a whole order

module _ (one : PlacementsAreOne) (placed : PutsArePlaced) (c : Cluster)
    (sound : (events : List Event) (w : World) → Run c (new_world c) events w
    → EachUp (λ n a. SoundNode (server_at c n a.inc) a.node) w)
    (held : (events : List Event) (w : World) → Run c (new_world c) events w
    → EachUp (λ n a. ShardsAreHeld (server_at c n a.inc) a.node) w)
    (tasks : ℕ → Option Task) (errands : (m : ℕ) (t : Task) → tasks m ≡ Some t → Errand c t.job t.starts) where
  abbrev pub Inv : World → List Event → Type 0
  Inv w left = (m : ℕ) → m < length c.names → NodeStage c w m left (tasks m)

  -- other servers go on as they were
  others_stay : (w w' : World) (m o : ℕ) (place : ℕ) (e : Event) (es : List Event) (gained : List Placement)
      → o ≢ m
      → is_for m (suc place) e ≡ true
      → slice_get w'.nodes o ≡ slice_get w.nodes o
      → w'.sent ≡ w.sent
      → w'.placements ≡ w.placements ++ gained
      → (t : Option Task)
      → NodeStage c w o (e ∷ es) t
      → NodeStage c w' o es t
  others_stay w w' m o place e es gained apart is nodes sent placements None s =
      λ p lt. sym (skips e es (is_for o (suc p)) (elsewhere m o (suc place) (suc p) e apart is)) ∙ s p lt
  others_stay w w' m o place e es gained apart is nodes sent placements (Some t) s =
      ⊎_elim (λ (x : Comes c w o t (e ∷ es)).
      inl (record {
        a = x.a;
        up = nodes ∙ x.up;
        k = x.k;
        frame = x.frame;
        content = x.content;
        queues = x.queues;
        at = ap (frame_at x.k) sent ∙ x.at;
        body = x.body;
        taken = x.taken;
        task = x.task;
        left_is =
            λ p lt. sym (skips e es (is_for o (suc p)) (elsewhere m o (suc place) (suc p) e apart is)) ∙ x.left_is p lt;
      }))
      (λ (x : Busy w o t.inc t.job t.starts (e ∷ es)).
      inr (record {
        a = x.a;
        up = nodes ∙ x.up;
        inc_is = x.inc_is;
        issued = x.issued;
        lines = λ p start line sl l.
            subst (Stage w' o t.inc p t.job start line)
            (skips e es (is_for o (suc p)) (elsewhere m o (suc place) (suc p) e apart is))
            (stage_more w w' gained placements o t.inc p t.job start line (filter (is_for o (suc p)) (e ∷ es))
            (x.lines p start line sl l));
        won = λ i name some q.
            Rattle.settled_law.proofs.Works.Steps.more_served w w' gained placements t.job.id name
            (x.won i name some q);
      }))
      s

  record Stepped (w : World) (m : ℕ) (es : List Event) (outcome : Outcome) (w' : World) : Type 0 where
    done : IsDone outcome
    stage : NodeStage c w' m es (tasks m)
    others : (o : ℕ) → o ≢ m → slice_get w'.nodes o ≡ slice_get w.nodes o
    sent : w'.sent ≡ w.sent
    gained : List Placement
    placements : w'.placements ≡ w.placements ++ gained

  receive_step : (w : World)
      → Reached c w
      → (m place : ℕ) (t : Task)
      → tasks m ≡ Some t
      → place < c.shards
      → (e : Event) (es : List Event)
      → is_for m (suc place) e ≡ true
      → Comes c w m t (e ∷ es)
      → (outcome : Outcome) (w' : World)
      → WorldStep c w e outcome w'
      → Stepped w m es outcome w'
  receive_step w reached m place t is lt e es passes x outcome w' step =
      let h = head_is e es (is_for m (suc place)) (Receive m x.k) (work_events m (suc place) (length x.queues)) passes
      (x.left_is place lt) in
      let s : SoundNode (server_at c m x.a.inc) x.a.node = sound reached.events w reached.run m x.a x.up in
      let r = receives one placed c w m x.a x.up s x.k x.frame x.content x.queues outcome w' x.at x.body x.taken
      (subst (λ v. WorldStep c w v outcome w') h.0 step) in
      let err : Errand c (routed_job x.a.node.hub x.frame x.content x.queues) x.a.node.lines =
      subst (λ (t : Task). Errand c t.job t.starts) x.task (errands m t is) in
      let b : Busy w' m x.a.inc (routed_job x.a.node.hub x.frame x.content x.queues) x.a.node.lines es =
      comes c w m x.a (routed_job x.a.node.hub x.frame x.content x.queues) w' es s refl err r.1.1 (λ p below.
      (head_is e es (is_for m (suc p)) (Receive m x.k) (work_events m (suc p) (length x.queues))
      (ap (is_for m (suc p)) h.0 ∙ true_eq m m refl) (x.left_is p below)).1) in
      record {
        done = r.0;
        stage =
            subst (NodeStage c w' m es) (sym is)
            (inr (subst (λ (t : Task). Busy w' m t.inc t.job t.starts es) (sym x.task) b));
        others = r.1.1.others;
        sent = r.1.0;
        gained = [];
        placements = r.1.1.placements ∙ sym (Rattle.list_laws.proofs.Changes.append_nil w.placements);
      }

  work_step : (w : World)
      → Reached c w
      → (m place : ℕ) (t : Task)
      → tasks m ≡ Some t
      → place < c.shards
      → (e : Event) (es : List Event)
      → is_for m (suc place) e ≡ true
      → Busy w m t.inc t.job t.starts (e ∷ es)
      → (outcome : Outcome) (w' : World)
      → WorldStep c w e outcome w'
      → Stepped w m es outcome w'
  work_step w reached m place t is lt e es passes x outcome w' step =
      let s : SoundNode (server_at c m x.a.inc) x.a.node = sound reached.events w reached.run m x.a x.up in
      let err : Errand c t.job t.starts = errands m t is in
      let size1 = err.size in
      let size2 : length x.a.node.lines ≡ c.shards = s.size in
      let start = get_some t.starts place (omega (arith, lt, size1)) in
      let line = get_some x.a.node.lines place (omega (arith, lt, size2)) in
      let h = busy_step one placed c w m t.inc t.job t.starts err place start.0 line.0 x.a start.1 x.up line.1 x.inc_is
      x.issued s (held reached.events w reached.run m x.a x.up place line.0 line.1).subs e es passes outcome w' step
      x.lines x.won (x.lines place start.0 line.0 start.1 line.1) in
      record {
        done = h.0;
        stage = subst (NodeStage c w' m es) (sym is) (inr h.1.0);
        others = h.1.1.0;
        sent = h.1.1.1.0;
        gained = h.1.1.1.1.0;
        placements = h.1.1.1.1.1;
      }

  step_at : (w : World)
      → Reached c w
      → (m place : ℕ)
      → place < c.shards
      → (e : Event) (es : List Event)
      → is_for m (suc place) e ≡ true
      → (o : Option Task)
      → tasks m ≡ o
      → NodeStage c w m (e ∷ es) o
      → (outcome : Outcome) (w' : World)
      → WorldStep c w e outcome w'
      → Stepped w m es outcome w'
  step_at w reached m place lt e es passes None is s outcome w' step =
      absurd (not_empty e es (is_for m (suc place)) passes (s place lt))
  step_at w reached m place lt e es passes (Some t) is s outcome w' step = ⊎_elim
      (λ x. receive_step w reached m place t is lt e es passes x outcome w' step)
      (λ x. work_step w reached m place t is lt e es passes x outcome w' step) s

  pub ordered : (order : List Event) (w : World)
      → Reached c w
      → Inv w order
      → Each (HasLine c) order
      → (w' : World) (run : Run c w order w')
      → Each IsDone (outcomes_of c w order w' run) × (Inv w' [] × Reached c w')
  ordered [] w reached inv only w' run = (
    (λ x i. absurd i),
    (subst (λ x. Inv x []) (sym run) inv, subst (Reached c) (sym run) reached),
  )
  ordered (e ∷ es) w reached inv only w' run =
      let line = only e (inl refl) in
      let s = step_at w reached line.node line.place line.shard e es line.is (tasks line.node) refl
      (inv line.node line.listed) run.1 run.0 run.2 in
      let inv2 : Inv run.0 es = λ o below. by o below s (inv o below) (nat_eq o line.node) refl in
      let rest = ordered es run.0
      (record {
        events = reached.events ++ e ∷ [];
        run = run_on c (new_world c) reached.events w e run.1 run.0 reached.run run.2;
      })
      inv2 (λ x i. only x (inr i)) w' run.3 in (
        (λ x i.
            ⊎_elim (λ (f : x ≡ run.1). subst IsDone (sym f) s.done)
            (λ (j : In x (outcomes_of c run.0 es w' run.3)). rest.0 x j) i),
        rest.1,
      )
    where
      by : (o : ℕ)
          → o < length c.names
          → Stepped w (only e (inl refl)).node es run.1 run.0
          → NodeStage c w o (e ∷ es) (tasks o)
          → (b : Bool)
          → nat_eq o (only e (inl refl)).node ≡ b
          → NodeStage c run.0 o es (tasks o)
      by o below s x true same =
          subst (λ n. NodeStage c run.0 n es (tasks n)) (sym (eq_true o (only e (inl refl)).node same)) s.stage
      by o below s x false apart =
          others_stay w run.0 (only e (inl refl)).node o (only e (inl refl)).place e es s.gained
          (eq_false o (only e (inl refl)).node apart) (only e (inl refl)).is
          (s.others o (eq_false o (only e (inl refl)).node apart)) s.sent s.placements (tasks o) x

  -- at the end all is placed
  pub all_placed : (w : World)
      → Reached c w
      → Inv w []
      → (m : ℕ)
      → m < length c.names
      → (t : Task)
      → tasks m ≡ Some t
      → (place : ℕ) (start : ShardWithJobs)
      → slice_get t.starts place ≡ Some start
      → Goals w m t.inc t.job start (length t.job.queues)
  all_placed w reached inv m below t is place start at = ⊎_elim never busy (subst (NodeStage c w m []) is (inv m below))
    where
      lt : place < c.shards
      lt =
          let size = (errands m t is).size in let b = slice_get_within t.starts place start at in omega (arith, size, b)

      never : Comes c w m t [] → Goals w m t.inc t.job start (length t.job.queues)
      never x = absurd (empty (Receive m x.k) (work_events m (suc place) (length x.queues)) (x.left_is place lt))
        where
          empty : (e : Event) (es : List Event) → ◌≡◌ {A = List Event} [] (e ∷ es) → ⊥
          empty e es f = cc

      busy : Busy w m t.inc t.job t.starts [] → Goals w m t.inc t.job start (length t.job.queues)
      busy x =
          let s : SoundNode (server_at c m x.a.inc) x.a.node = sound reached.events w reached.run m x.a x.up in
          let size : length x.a.node.lines ≡ c.shards = s.size in
          let line = get_some x.a.node.lines place (let b = lt in omega (arith, size, b)) in
          ⊎_elim (λ (y : Waits m place t.job start line.0 []). absurd (waits y.left_is))
          (λ z.
          ⊎_elim (λ (y : Working w m t.inc place t.job start line.0 []). absurd (works y.i y.count y.left_is))
          (λ (y : Over w m t.inc place t.job start line.0 []). y.goals) z)
          (x.lines place start line.0 at line.1)
        where
          waits : ◌≡◌ {A = List Event} [] (work_events m (suc place) (length t.job.queues)) → ⊥
          waits f = cc

          works : (i count : ℕ) → ◌≡◌ {A = List Event} [] (claims_from m (suc place) i count) → ⊥
          works i zero f = cc
          works i (suc count) f = cc
