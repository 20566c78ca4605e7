-- Steps of the cluster that an order makes, one by one.
use Rattle.std.proofs.Common.{◌≡◌, ◌≢◌, ℕ, suc, ◌+◌, ◌-◌, Bool, false, cond, nat_eq, List, [], ◌++◌, map, set, Option, Some, None, refl, sym, ap, ◌∙◌, subst, arith}
use Rattle.std.specs.Prelude.{slice_get}
use Rattle.std.specs.Option.{option_map}
use Rattle.std.proofs.lemmas.Option.{same_Some}
use Rattle.list_laws.specs.Lists.{In}
use Rattle.list_laws.proofs.Lists.{in_left}
use Rattle.list_laws.proofs.Changes.{append_nil, get_set_here, get_set_there}
use Rattle.list_laws.proofs.Tests.{false_eq}
use Rattle.subj.specs.declared.identities.PubId.{PubId}
use Rattle.subj.specs.declared.jobs.Job.{Job}
use Rattle.claim_race.specs.Race.{RaceState, IsIssued}
use Rattle.node_law.specs.declared.events.ShardWork.{ShardWork}
use Rattle.node_law.specs.Events.{AtShard, Publish, NodeEvent, Own, Receive}
use Rattle.node_law.specs.declared.faults.NodeFault.TheVariants.{Hub}
use Rattle.hub_core.specs.Publishing.{Publication, publish_refusal, own_job, frames_of}
use Rattle.hub_core.specs.Receiving.{receive_refusal, routed_job}
use Rattle.route_values.specs.Frames.{Frame}
use Rattle.route_values.specs.declared.bodies.Body.TheVariants.{Msg}
use Rattle.route_values.specs.declared.frames.RouteFrame.TheVariants as route
use Rattle.subj.specs.Messages.{Content}
use Rattle.world_law.specs.declared.faults.WorldFault.TheVariants as fault
use Rattle.world_law.specs.Events as of_world
use Rattle.node_law.specs.Sound.{SoundNode}
use Rattle.node_law.specs.State.{ShardWithJobs, Node, finished_turns}
use Rattle.node_law.specs.Steps.{NodeStep, NodeRace, WorkRace, shard_line, set_line, line_after_if, work_event, own_after, node_after, work_refusal, line_with_job, lines_after_body, node_frames, BodyRace}
use Rattle.world_law.specs.Changes.{AreGained, PlacementsAreOne}
use Rattle.world_law.specs.Events.{At, frame_at, numbered_event}
use Rattle.world_law.specs.Outcomes.{Outcome, Done}
use Rattle.world_law.specs.Play.{PutsArePlaced, placements_put, puts, put_if, put_at}
use Rattle.world_law.specs.Refusals.{world_refusal, refusal_at}
use Rattle.world_law.specs.State.{Cluster, World, Running, Placement, LifeId, server_at}
use Rattle.world_law.specs.Steps.{WorldStep, Decided, Acts, world_after_step}
use Rattle.settled_law.specs.Delivered.{IsPlaced, IsServed}

-- ---- a line

pub line_at : (a : Node) (place : ℕ) → shard_line a (suc place) ≡ slice_get a.lines place
line_at a place =
    let e : nat_eq (suc place) 0 ≡ false = false_eq (suc place) 0 (omega arith) in
    let f : suc place - 1 ≡ place = omega arith in
    λ i. cond (e i) None (slice_get a.lines (f i))

-- ---- what was placed stays

pub more_placed : (w w' : World) (gained : List Placement)
    → w'.placements ≡ w.placements ++ gained
    → (id : PubId) (life : LifeId)
    → IsPlaced w id life
    → IsPlaced w' id life
more_placed w w' gained e id life p = record {
  placement = p.placement;
  there = subst (λ l. In p.placement l) (sym e) (in_left p.placement w.placements gained p.there);
  is = p.is;
  life_is = p.life_is;
  plain = p.plain;
}

pub more_served : (w w' : World) (gained : List Placement)
    → w'.placements ≡ w.placements ++ gained
    → (id : PubId) (name : List ℕ)
    → IsServed w id name
    → IsServed w' id name
more_served w w' gained e id name p = record {
  placement = p.placement;
  there = subst (λ l. In p.placement l) (sym e) (in_left p.placement w.placements gained p.there);
  is = p.is;
  mode = p.mode;
}

-- ---- what a step of work does

pub record WorksAt (c : Cluster) (w : World) (m place : ℕ) (work : ShardWork) (a : Running) (line : ShardWithJobs)
    (won : Bool) (w' : World) : Type 0 where
  pub race : RaceState
  pub moves : WorkRace a.node.race (suc place) work (Some line) won race
  pub nodes : slice_get w'.nodes m
      ≡ Some (Some (record {
        inc = a.inc;
        node = record a.node {
          lines = set a.node.lines place (line_after_if (work_event work won line) line);
          race = race;
        };
      }))
  pub others : (o : ℕ) → o ≢ m → slice_get w'.nodes o ≡ slice_get w.nodes o
  pub sent : w'.sent ≡ w.sent
  pub placements : w'.placements
      ≡ w.placements ++ placements_put (server_at c m a.inc) (suc w.step) (put_if line (work_event work won line))

module _ (one : PlacementsAreOne) (placed : PutsArePlaced) (c : Cluster) (w : World) (m place : ℕ) (work : ShardWork)
    (a : Running) (line : ShardWithJobs) (up : slice_get w.nodes m ≡ Some (Some a))
    (at : slice_get a.node.lines place ≡ Some line) (sound : SoundNode (server_at c m a.inc) a.node) where
  not_refused : work_refusal work (Some line) ≡ None → world_refusal c w (At m (AtShard (suc place) work)) ≡ None
  not_refused none =
      ap (refusal_at c m (Some (Own (AtShard (suc place) work)))) up
      ∙ ap (option_map fault.Node) (ap (work_refusal work) (line_at a.node place ∙ at) ∙ none)

  pub works_at : (outcome : Outcome) (w' : World)
      → work_refusal work (Some line) ≡ None
      → WorldStep c w (At m (AtShard (suc place) work)) outcome w'
      → ((told : _) × (outcome ≡ Done told)) × ((won : Bool) × WorksAt c w m place work a line won w')
  works_at outcome w' none step =
      by (subst (λ r. Decided c w (At m (AtShard (suc place) work)) r outcome w') (not_refused none) step)
    where
      by : Acts c w m (Some (Own (AtShard (suc place) work))) outcome w'
          → ((told : _) × (outcome ≡ Done told)) × ((won : Bool) × WorksAt c w m place work a line won w')
      by acts = (
        (_, acts.told),
        (
          acts.won,
          record {
            race = acts.race;
            moves =
                subst (λ o. WorkRace a.node.race (suc place) work o acts.won acts.race) (line_at a.node place ∙ at)
                steps.moves;
            nodes =
                ap (λ (x : World). slice_get x.nodes m) after
                ∙ get_set_here w.nodes m (Some a) (Some (record { inc = a.inc; node = acts.b })) up
                ∙ ap (λ (b : Node). Some (Some (record { inc = a.inc; node = b }))) (steps.after ∙ same_node);
            others = λ o apart.
                ap (λ (x : World). slice_get x.nodes o) after
                ∙ get_set_there w.nodes m o (Some (record { inc = a.inc; node = acts.b })) apart;
            sent = ap (λ (x : World). x.sent) after ∙ append_nil w.sent;
            placements =
                ap (λ (x : World). x.placements) after
                ∙ ap (λ l. w.placements ++ l)
                (one (server_at c m a.inc) (suc w.step) a.node acts.b.lines acts.gained
                (placements_put (server_at c m a.inc) (suc w.step) (puts (server_at c m a.inc) a.node e acts.won)) sound
                gained (placed (server_at c m a.inc) (suc w.step) a.node e acts.won acts.race acts.b steps)
                ∙ ap (placements_put (server_at c m a.inc) (suc w.step))
                (ap (λ o. put_at o (work_event work acts.won)) (line_at a.node place ∙ at)));
          },
        ),
      )
        where
          e : NodeEvent
          e = Own (AtShard (suc place) work)

          e_is : acts.e ≡ Own (AtShard (suc place) work)
          e_is = sym (same_Some (Own (AtShard (suc place) work)) acts.e acts.is)

          a_is : acts.a ≡ a
          a_is = same_Some acts.a a (same_Some (Some acts.a) (Some a) (sym acts.a_is ∙ up))

          steps : NodeStep (server_at c m a.inc) a.node (Own (AtShard (suc place) work)) acts.won acts.race acts.b
          steps =
              subst (λ x. NodeStep (server_at c m a.inc) a.node x acts.won acts.race acts.b) e_is
              (subst (λ (x : Running). NodeStep (server_at c m x.inc) x.node acts.e acts.won acts.race acts.b) a_is
              acts.steps)

          gained : AreGained (server_at c m a.inc) (suc w.step) a.node.lines acts.b.lines acts.gained
          gained =
              subst
              (λ (x : Running). AreGained (server_at c m x.inc) (suc w.step) x.node.lines acts.b.lines acts.gained) a_is
              acts.are_gained

          after : w' ≡ world_after_step c w m a (Own (AtShard (suc place) work)) acts.b acts.gained
          after =
              acts.after
              ∙ ap (λ (x : Running). world_after_step c w m x acts.e acts.b acts.gained) a_is
              ∙ ap (λ x. world_after_step c w m a x acts.b acts.gained) e_is

          same_node : own_after (server_at c m a.inc) a.node (AtShard (suc place) work) acts.won acts.race
              ≡ record a.node {
                lines = set a.node.lines place (line_after_if (work_event work acts.won line) line);
                race = acts.race;
              }
          same_node =
              let f : suc place - 1 ≡ place = omega arith in
              let g : shard_line a.node (suc place) ≡ Some line = line_at a.node place ∙ at in
              λ i. record a.node {
                lines = set_line a.node.lines (f i) (λ l. line_after_if (work_event work acts.won l) l) (g i);
                race = acts.race;
              }

-- ---- a step that makes a job

-- each line of the server has the job behind what waits there; nothing is placed
pub record JobComes (w : World) (m : ℕ) (a : Running) (job : Job) (w' : World) : Type 0 where
  pub b : Running
  pub inc : b.inc ≡ a.inc
  pub up : slice_get w'.nodes m ≡ Some (Some b)
  pub lines : b.node.lines ≡ map (line_with_job job) a.node.lines
  pub moves : IsIssued a.node.race (a.node.race.issued + 1) b.node.race
  pub others : (o : ℕ) → o ≢ m → slice_get w'.nodes o ≡ slice_get w.nodes o
  pub placements : w'.placements ≡ w.placements

module _ (one : PlacementsAreOne) (placed : PutsArePlaced) (c : Cluster) (w : World) (m : ℕ) (a : Running)
    (up : slice_get w.nodes m ≡ Some (Some a)) (sound : SoundNode (server_at c m a.inc) a.node) where
  module _ (job : Job) (e : NodeEvent) (none_put : (won : Bool) → puts (server_at c m a.inc) a.node e won ≡ [])
      (lines : (won : Bool) (race : RaceState)
      → (node_after (server_at c m a.inc) a.node e won race).lines ≡ map (line_with_job job) a.node.lines)
      (races : (won : Bool) (race : RaceState) → (node_after (server_at c m a.inc) a.node e won race).race ≡ race)
      (moves : (won : Bool) (race : RaceState) → NodeRace a.node e won race
      → IsIssued a.node.race (a.node.race.issued + 1) race) where
    acts_with_job : (event : Option NodeEvent) (outcome : Outcome) (w' : World)
        → event ≡ Some e
        → Acts c w m event outcome w'
        → ((told : _) × (outcome ≡ Done told))
        × ((w'.sent ≡ w.sent ++ node_frames (server_at c m a.inc) a.node e) × JobComes w m a job w')
    acts_with_job event outcome w' is acts = (
      (_, acts.told),
      (
        ap (λ (x : World). x.sent) after,
        record {
          b = record { inc = a.inc; node = acts.b };
          inc = refl;
          up =
              ap (λ (x : World). slice_get x.nodes m) after
              ∙ get_set_here w.nodes m (Some a) (Some (record { inc = a.inc; node = acts.b })) up;
          lines = ap (λ (x : Node). x.lines) steps.after ∙ lines acts.won acts.race;
          moves =
              subst (IsIssued a.node.race (a.node.race.issued + 1))
              (sym (ap (λ (x : Node). x.race) steps.after ∙ races acts.won acts.race))
              (moves acts.won acts.race steps.moves);
          others = λ o apart.
              ap (λ (x : World). slice_get x.nodes o) after
              ∙ get_set_there w.nodes m o (Some (record { inc = a.inc; node = acts.b })) apart;
          placements =
              ap (λ (x : World). x.placements) after
              ∙ ap (λ l. w.placements ++ l)
              (one (server_at c m a.inc) (suc w.step) a.node acts.b.lines acts.gained
              (placements_put (server_at c m a.inc) (suc w.step) (puts (server_at c m a.inc) a.node e acts.won)) sound
              gained (placed (server_at c m a.inc) (suc w.step) a.node e acts.won acts.race acts.b steps)
              ∙ ap (placements_put (server_at c m a.inc) (suc w.step)) (none_put acts.won))
              ∙ append_nil w.placements;
        },
      ),
    )
      where
        e_is : acts.e ≡ e
        e_is = same_Some acts.e e (sym acts.is ∙ is)

        a_is : acts.a ≡ a
        a_is = same_Some acts.a a (same_Some (Some acts.a) (Some a) (sym acts.a_is ∙ up))

        steps : NodeStep (server_at c m a.inc) a.node e acts.won acts.race acts.b
        steps =
            subst (λ x. NodeStep (server_at c m a.inc) a.node x acts.won acts.race acts.b) e_is
            (subst (λ (x : Running). NodeStep (server_at c m x.inc) x.node acts.e acts.won acts.race acts.b) a_is
            acts.steps)

        gained : AreGained (server_at c m a.inc) (suc w.step) a.node.lines acts.b.lines acts.gained
        gained =
            subst (λ (x : Running). AreGained (server_at c m x.inc) (suc w.step) x.node.lines acts.b.lines acts.gained)
            a_is acts.are_gained

        after : w' ≡ world_after_step c w m a e acts.b acts.gained
        after =
            acts.after
            ∙ ap (λ (x : Running). world_after_step c w m x acts.e acts.b acts.gained) a_is
            ∙ ap (λ x. world_after_step c w m a x acts.b acts.gained) e_is

  -- a Publish
  pub publishes : (p : Publication) (outcome : Outcome) (w' : World)
      → publish_refusal (server_at c m a.inc) a.node.hub p (finished_turns a.node.lines) ≡ None
      → WorldStep c w (At m (Publish p)) outcome w'
      → ((told : _) × (outcome ≡ Done told))
      × ((w'.sent ≡ w.sent ++ map route.Numbered (frames_of (server_at c m a.inc) a.node.hub p))
      × JobComes w m a (own_job (server_at c m a.inc) a.node.hub p) w')
  publishes p outcome w' none step =
      let not_refused : world_refusal c w (At m (Publish p)) ≡ None =
      ap (refusal_at c m (Some (Own (Publish p)))) up ∙ ap (λ o. option_map fault.Node (option_map Hub o)) none in
      acts_with_job (own_job (server_at c m a.inc) a.node.hub p) (Own (Publish p)) (λ won. refl) (λ won race. refl)
      (λ won race. refl) (λ won race r. r) (Some (Own (Publish p))) outcome w' refl
      (subst (λ r. Decided c w (At m (Publish p)) r outcome w') not_refused step)

  -- a message
  pub receives : (k : ℕ) (frame : Frame) (content : Content) (queues : List (List ℕ)) (outcome : Outcome) (w' : World)
      → frame_at k w.sent ≡ Some (route.Numbered frame)
      → frame.body ≡ Msg content queues
      → receive_refusal (server_at c m a.inc) a.node.hub (finished_turns a.node.lines) frame ≡ None
      → WorldStep c w (of_world.Receive m k) outcome w'
      → ((told : _) × (outcome ≡ Done told))
      × ((w'.sent ≡ w.sent) × JobComes w m a (routed_job a.node.hub frame content queues) w')
  receives k frame content queues outcome w' at body none step =
      let not_refused : world_refusal c w (of_world.Receive m k) ≡ None =
      (λ i. refusal_at c m (numbered_event (at i)) (up i)) ∙ ap (λ o. option_map fault.Node (option_map Hub o)) none in
      let h = acts_with_job (routed_job a.node.hub frame content queues) (Receive frame) (λ won. refl)
      (λ won race. ap (lines_after_body a.node frame) body) (λ won race. refl)
      (λ won race r. subst (λ b. BodyRace a.node b race) body r) (numbered_event (frame_at k w.sent)) outcome w'
      (ap numbered_event at) (subst (λ r. Decided c w (of_world.Receive m k) r outcome w') not_refused step) in
      (h.0, (h.1.0 ∙ append_nil w.sent, h.1.1))
