-- Each step adds as many placements as its outcome tells.
use Rattle.std.proofs.Common.{◌≡◌, ℕ, suc, ◌+◌, cond, Bool, true, false, List, [], ◌∷◌, ◌++◌, length, length-append, map, Option, Some, None, refl, sym, ap, ◌∙◌, arith}
use Rattle.list_laws.proofs.Changes.{append_assoc, append_nil}
use Rattle.hub_core.proofs.Neighbours.Known.{map_length}
use Rattle.sub_table.specs.declared.Subscription.{Subscription}
use Rattle.subj.specs.declared.jobs.Job.{Job}
use Rattle.subj.specs.Servers.{ServerIdentity}
use Rattle.client_frames.specs.declared.server_frames.ReplyFrame.{ReplyFrame}
use Rattle.client_frames.specs.Frames.{reply_line}
use Rattle.hub_core.specs.Steps.{received_answer}
use Rattle.route_values.specs.Frames.{Frame}
use Rattle.route_values.specs.declared.bodies.Body.{Body}
use Rattle.route_values.specs.declared.bodies.Body.TheVariants.{Plus, Minus, Snapshot, Msg}
use Rattle.shard_core.specs.declared.calls.Placed.{Placed}
use Rattle.shard_core.specs.Owed.{owed_placed, candidate_of, whole_walk, slow_consumer}
use Rattle.shard_core.specs.Puts.{put_by, put_by_claim, put_line}
use Rattle.shard_core.specs.ShardEvents as part
use Rattle.shard_core.specs.Shards.{State, Client}
use Rattle.shard_core.specs.ShardSteps.{shard_answer, claim_answer, subscribe_answer, answer_fits, sub_called}
use Rattle.node_law.specs.Answers.{node_answer, told_at, told_of_line, told_of_shard, told_of_hub}
use Rattle.node_law.specs.Events.{OfConn, AtShard, Publish, Collect, Drain, Dial, Accept, CutSession, TakeFrames, NodeEvent, Own, Receive, OnInfo, OnConnect}
use Rattle.node_law.specs.Sound.{SoundNode}
use Rattle.node_law.specs.State.{ShardWithJobs, Node}
use Rattle.node_law.specs.Steps.{conn_line, shard_line, conn_event, work_event}
use Rattle.world_law.specs.Changes.{placement_of, PlacementsAreOne}
use Rattle.world_law.specs.declared.faults.WorldFault.{WorldFault}
use Rattle.world_law.specs.Events as of_world
use Rattle.world_law.specs.Events.{Event, Start, Stop, At}
use Rattle.world_law.specs.Headline.{EachUp}
use Rattle.world_law.specs.Outcomes.{Outcome}
use Rattle.world_law.specs.Play.{placements_put, put_if, put_at, puts, PutsArePlaced}
use Rattle.world_law.specs.Refusals.{world_refusal}
use Rattle.world_law.specs.State.{Cluster, World, server_at}
use Rattle.world_law.specs.Steps.{Acts, Happens, Decided, WorldStep}
use Rattle.mesh_script.specs.Counted.{placed_by_answer, placed_by}

-- ---- what a shard puts

module _ (server : ServerIdentity) (now : ℕ) where
  behind : (xs ys : List Placed)
      → placements_put server now (xs ++ ys) ≡ placements_put server now xs ++ placements_put server now ys
  behind [] ys = refl
  behind (x ∷ xs) ys =
      ap (λ l. placement_of server now x.conn x.headers x.entry.bytes x.entry.tag ++ l) (behind xs ys)
      ∙ sym (append_assoc (placement_of server now x.conn x.headers x.entry.bytes x.entry.tag)
      (placements_put server now xs) (placements_put server now ys))

  messages : (of_shard : ℕ) (clients : List Client) (job : Job) (queue : Option (List ℕ)) (subs : List Subscription)
      → length (placements_put server now (map (owed_placed of_shard clients job queue) subs)) ≡ length subs
  messages of_shard clients job queue [] = refl
  messages of_shard clients job queue (sub ∷ subs) = ap suc (messages of_shard clients job queue subs)

  lines : (line : List ℕ) (conns : List ℕ) → placements_put server now (map (put_line line) conns) ≡ []
  lines line [] = refl
  lines line (conn ∷ conns) = lines line conns

  claimed : (s : State) (hand : Option Job) (sub : Option Subscription) (won : Bool)
      → length (placements_put server now (put_by_claim s hand sub won))
      ≡ placed_by_answer (told_of_shard (claim_answer s hand sub won))
  claimed s None sub won = refl
  claimed s (Some job) None won = refl
  claimed s (Some job) (Some sub) true = refl
  claimed s (Some job) (Some sub) false = refl

  subscribed : (s : State) (same : Option Subscription) → 0 ≡ placed_by_answer (told_of_shard (subscribe_answer s same))
  subscribed s None = refl
  subscribed s (Some sub) = refl

  replied : (s : State) (conn : ℕ) (frame : ReplyFrame) (fits : Bool)
      → length
      (placements_put server now (cond fits (put_line (reply_line frame) conn ∷ []) (put_line slow_consumer conn ∷ [])))
      ≡ 0
  replied s conn frame true = refl
  replied s conn frame false = refl

  began : (s : State) (job : Job)
      → length (placements_put server now (put_by s (part.Begin job)))
      ≡ length (map (owed_placed s.shard s.clients job None) (whole_walk s job).given)
  began s job =
      let w = whole_walk s job in
      ap length (behind (map (owed_placed s.shard s.clients job None) w.given) (map (put_line slow_consumer) w.shut)
      ∙ ap (λ l. placements_put server now (map (owed_placed s.shard s.clients job None) w.given) ++ l)
      (lines slow_consumer w.shut))
      ∙ ap length (append_nil (placements_put server now (map (owed_placed s.shard s.clients job None) w.given)))
      ∙ messages s.shard s.clients job None w.given
      ∙ sym (map_length (owed_placed s.shard s.clients job None) w.given)

  by_shard : (s : State) (event : part.Event)
      → length (placements_put server now (put_by s event)) ≡ placed_by_answer (told_of_shard (shard_answer s event))
  by_shard s part.Attach = refl
  by_shard s (part.Subscribe conn key sid) = subscribed s (sub_called conn sid s.subs)
  by_shard s (part.Unsubscribe conn sid max) = refl
  by_shard s (part.Reply conn frame) = replied s conn frame (answer_fits s conn (reply_line frame))
  by_shard s (part.SetHeaders conn on) = refl
  by_shard s (part.Shut conn text) = refl
  by_shard s (part.Detach conn) = refl
  by_shard s (part.Take conn count) = refl
  by_shard s (part.Begin job) = began s job
  by_shard s (part.Claim index won) = claimed s s.hand (candidate_of s s.hand index) won
  by_shard s part.End = refl
  by_shard s (part.DropJob waiting) = refl
  by_shard s part.Drain = refl
  by_shard s part.Collect = refl

  by_line : (line : ShardWithJobs) (event : Option part.Event)
      → length (placements_put server now (put_if line event)) ≡ placed_by_answer (told_of_line line event)
  by_line line None = refl
  by_line line (Some event) = by_shard line.shard event

  by_part : (o : Option ShardWithJobs) (event : ShardWithJobs → Option part.Event)
      → length (placements_put server now (put_at o event)) ≡ placed_by_answer (told_at o event)
  by_part None event = refl
  by_part (Some line) event = by_line line (event line)

-- ---- a server: its hub and its sessions put none

received : (a : Node) (frame : Frame) (body : Body)
    → 0 ≡ placed_by_answer (told_of_hub (received_answer a.hub frame body))
received a frame (Plus weighted) = refl
received a frame (Minus key) = refl
received a frame (Snapshot keys) = refl
received a frame (Msg content queues) = refl

by_node : (server : ServerIdentity) (now : ℕ) (a : Node) (e : NodeEvent) (won : Bool)
    → length (placements_put server now (puts server a e won)) ≡ placed_by_answer (node_answer server a e won)
by_node server now a (Own (OfConn conn event)) won =
    by_part server now (conn_line server a conn) (λ line. Some (conn_event conn event))
by_node server now a (Own (AtShard shard work)) won = by_part server now (shard_line a shard) (work_event work won)
by_node server now a (Own (Publish p)) won = refl
by_node server now a (Own (Collect shard)) won = refl
by_node server now a (Own Drain) won = refl
by_node server now a (Own (Dial q)) won = refl
by_node server now a (Own Accept) won = refl
by_node server now a (Own (CutSession session)) won = refl
by_node server now a (Own (TakeFrames q count)) won = refl
by_node server now a (Receive frame) won = received a frame frame.body
by_node server now a (OnInfo session info) won = refl
by_node server now a (OnConnect session connect) won = refl

-- ---- a cluster

module _ (put : PutsArePlaced) (one : PlacementsAreOne) (c : Cluster) (w w' : World)
    (sound : EachUp (λ n a. SoundNode (server_at c n a.inc) a.node) w) (outcome : Outcome) where
  none_more : w'.placements ≡ w.placements
      → placed_by outcome ≡ 0
      → length w'.placements ≡ length w.placements + placed_by outcome
  none_more same none = ap length same ∙ (let e = none in omega arith)

  acted : (n : ℕ) (event : Option NodeEvent)
      → Acts c w n event outcome w'
      → length w'.placements ≡ length w.placements + placed_by outcome
  acted n event acts =
      let server = server_at c n acts.a.inc in
      let now = suc w.step in
      let placed = placements_put server now (puts server acts.a.node acts.e acts.won) in
      let same : acts.gained ≡ placed = one server now acts.a.node acts.b.lines acts.gained placed
      (sound n acts.a acts.a_is) acts.are_gained
      (put server now acts.a.node acts.e acts.won acts.race acts.b acts.steps) in
      ap (λ (v : World). length v.placements) acts.after
      ∙ length-append w.placements acts.gained
      ∙ ap (λ k. length w.placements + k)
      (ap length same ∙ by_node server now acts.a.node acts.e acts.won ∙ ap placed_by (sym acts.told))

  happened : (e : Event) → Happens c w e outcome w' → length w'.placements ≡ length w.placements + placed_by outcome
  happened (Start n inc) h = none_more (ap (λ (v : World). v.placements) h.after) (ap placed_by h.told)
  happened (Stop n) h = none_more (ap (λ (v : World). v.placements) h.after) (ap placed_by h.told)
  happened (of_world.Receive n k) h = acted n _ h
  happened (of_world.OnInfo n session k) h = acted n _ h
  happened (of_world.OnConnect n session k) h = acted n _ h
  happened (At n event) h = acted n _ h

  decided : (e : Event) (cause : Option WorldFault)
      → Decided c w e cause outcome w'
      → length w'.placements ≡ length w.placements + placed_by outcome
  decided e None h = happened e h
  decided e (Some why) h = none_more (ap (λ (v : World). v.placements) h.1) (ap placed_by h.0)

  pub step_counts : (e : Event)
      → WorldStep c w e outcome w'
      → length w'.placements ≡ length w.placements + placed_by outcome
  step_counts e h = decided e (world_refusal c w e) h
