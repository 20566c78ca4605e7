-- The promise, put together.
use Rattle.std.proofs.Common.{◌≡◌, ◌≢◌, ℕ, suc, ◌<◌, Bool, true, false, cond, not, ◌&&◌, ◌||◌, nat_eq, List, [], ◌∷◌, ◌++◌, length, map, Option, Some, None, refl, sym, ap, ◌∙◌, subst, inl, inr, ⊎_elim, arith}
use Rattle.std.specs.Prelude.{filter, slice_get, is_none}
use Rattle.std.proofs.lemmas.Option.{none-some, same_Some, slice_get_within}
use Rattle.list_laws.specs.Lists.{In, Each}
use Rattle.list_laws.proofs.Lists.{in_read}
use Rattle.list_laws.proofs.Tests.{true_eq, false_eq, eq_true, eq_false}
use Rattle.sub_table.specs.declared.Subscription.{Subscription}
use Rattle.subj.specs.Matching.{subject_matches}
use Rattle.subj.specs.Messages.{Content}
use Rattle.subj.specs.Servers.{IsListed, name_of, place}
use Rattle.subj.specs.declared.keys.Key.{Key}
use Rattle.route_values.specs.Frames.{Frame}
use Rattle.route_values.specs.declared.bodies.Body.TheVariants.{Msg}
use Rattle.route_values.specs.declared.frames.RouteFrame.TheVariants as route
use Rattle.hub_core.specs.Choice.{names_for}
use Rattle.hub_core.specs.Publishing.{Publication, subject_of, names_of, choice_of, own_job, frames_of, next_id}
use Rattle.hub_core.specs.Receiving.{receive_refusal, routed_job}
use Rattle.hub_core.specs.State.{Peer}
use Rattle.hub_core.proofs.Choices.Places.{named}
use Rattle.shard_core.specs.Closings.{id_of}
use Rattle.shard_core.specs.Owed.{is_due, is_publisher}
use Rattle.node_law.specs.CountsOpen.{CountsAreOpen}
use Rattle.node_law.specs.EachShard.{ShardsAreHeld}
use Rattle.node_law.specs.Events.{Publish}
use Rattle.node_law.specs.Sound.{SoundNode}
use Rattle.node_law.specs.State.{ShardWithJobs, finished_turns}
use Rattle.world_law.specs.Changes.{PlacementsAreOne}
use Rattle.world_law.specs.Events.{Event, At, Receive, frame_at}
use Rattle.world_law.specs.Headline.{IsCluster, Headline, EachUp}
use Rattle.world_law.specs.Lives.{IsOpenLife, LivesAreOpen}
use Rattle.world_law.specs.Outcomes.{Done}
use Rattle.world_law.specs.OwnRuns.{EachKeepsItsLaws}
use Rattle.world_law.specs.Play.{PutsArePlaced}
use Rattle.world_law.specs.State.{Cluster, World, Running, Life, new_world, server_at}
use Rattle.world_law.specs.Steps.{Run, outcomes_of}
use Rattle.settled_law.specs.Delivered.{IsDone, IsPlaced, IsServed}
use Rattle.settled_law.specs.Orders.{is_for, work_events, events_of_frames, names_in_body, IsOrder}
use Rattle.settled_law.specs.Promise.{IsDelivered}
use Rattle.settled_law.specs.Marks.{MarksAreReached}
use Rattle.settled_law.specs.Room.{IsMember}
use Rattle.settled_law.specs.Settled.{IsSettled, IsRoomy, IsWantedName}
use Rattle.settled_law.proofs.Lists.{in_at}
use Rattle.settled_law.proofs.Plans.Found.{task_of, task_of_body, task_in, Found, NotFound, find_frame, sent_at}
use Rattle.settled_law.proofs.Plans.Interest.{OpenSub}
use Rattle.settled_law.proofs.Plans.Plan.{is_taken, frame_for, Sent, sent_is, sent_for_plain, sent_for_name, name_there, wanted_is_named, served_at, ServedAt, is_received, own_errand, routed_errand}
use Rattle.settled_law.proofs.Plans.Sizes.{up_is_listed}
use Rattle.settled_law.proofs.Promise.Counts.{one_for_life, one_for_group}
use Rattle.settled_law.proofs.Works.Stages.{Errand, Goals, Busy}
use Rattle.settled_law.proofs.Works.Steps.{JobComes, publishes}
use Rattle.settled_law.proofs.Works.Whole.{Task, NodeStage, Reached, comes, run_on, ordered, all_placed}

module _
    (headline : (c : Cluster) → IsCluster c → (events : List Event) (w : World) → Run c (new_world c) events w
    → Headline w)
    (are_sound : (c : Cluster) → IsCluster c → (events : List Event) (w : World) → Run c (new_world c) events w
    → EachUp (λ n a. SoundNode (server_at c n a.inc) a.node) w)
    (keeps : EachKeepsItsLaws) (one : PlacementsAreOne) (placed : PutsArePlaced) (lives : LivesAreOpen) (c : Cluster)
    (cluster : IsCluster c) (events : List Event) (w : World) (run : Run c (new_world c) events w) (n : ℕ) (a : Running)
    (p : Publication) (up : slice_get w.nodes n ≡ Some (Some a)) (echo : p.publication.echo ≡ true)
    (settled : IsSettled c w (subject_of p)) (roomy : IsRoomy w p.publication.message) (marks : MarksAreReached w)
    (order : List Event) (is_order : IsOrder c w n a p order) where
  below : n < length c.names
  below = up_is_listed c events w run n (Some a) up

  sound : EachUp (λ n a. SoundNode (server_at c n a.inc) a.node) w
  sound = are_sound c cluster events w run

  held : EachUp (λ n a. ShardsAreHeld (server_at c n a.inc) a.node) w
  held m b at = (keeps c cluster events w run m b at).shards

  counted : EachUp (λ n a. CountsAreOpen (server_at c n a.inc) a.node) w
  counted m b at = (keeps c cluster events w run m b at).promises.counts

  -- ---- what each server has to do

  abbrev own_task : Task
  own_task = record { inc = a.inc; job = own_job (server_at c n a.inc) a.node.hub p; starts = a.node.lines }

  abbrev task_if : Bool → ℕ → Option Task
  task_if true m =
      Some (record { inc = a.inc; job = own_job (server_at c n a.inc) a.node.hub p; starts = a.node.lines })
  task_if false m = task_in c.names m (slice_get w.nodes m) (frames_of (server_at c n a.inc) a.node.hub p)

  abbrev tasks : ℕ → Option Task
  tasks m = task_if (nat_eq m n) m

  abbrev routed_task : Running → ℕ → Peer → Task
  routed_task b q peer = record {
    inc = b.inc;
    job =
        routed_job b.node.hub (frame_for c cluster w n a p below up sound counted settled.quiet q peer)
        p.publication.message
        (names_for (choice_of (server_at c n a.inc) a.node.hub p) (name_of (server_at c n a.inc) q)
        (names_of (server_at c n a.inc) a.node.hub p));
    starts = b.node.lines;
  }

  -- the frame that is found is the server's
  found_frame : (m : ℕ)
      (h : Found c.names m (suc (length w.sent)) (slice_get w.nodes m) (frames_of (server_at c n a.inc) a.node.hub p))
      → Sent c cluster w n a p below up sound counted settled.quiet h.frame
  found_frame m h =
      sent_is c cluster w n a p below up sound counted settled.quiet h.frame
      (in_read (frames_of (server_at c n a.inc) a.node.hub p) h.j h.frame h.at)

  errands : (m : ℕ) (t : Task) → tasks m ≡ Some t → Errand c t.job t.starts
  errands m t is = go (nat_eq m n) is
    where
      of_slot : (frame : Frame)
          → Sent c cluster w n a p below up sound counted settled.quiet frame
          → (slot : Option (Option Running))
          → slice_get w.nodes m ≡ slot
          → task_of slot frame ≡ Some t
          → Errand c t.job t.starts
      of_slot frame s None at e = absurd (none-some t e)
      of_slot frame s (Some None) at e = absurd (none-some t e)
      of_slot frame s (Some (Some b)) at e =
          let f : Some (routed_task b s.q s.peer) ≡ Some t =
          sym (ap (λ (f : Frame). task_of_body b f f.body) s.is) ∙ e in
          subst (λ (t : Task). Errand c t.job t.starts) (same_Some (routed_task b s.q s.peer) t f)
          (routed_errand c cluster w n a p below up sound counted settled.quiet settled.few held roomy marks echo m b at
          s.q s.peer)

      go : (b : Bool) → task_if b m ≡ Some t → Errand c t.job t.starts
      go true e =
          subst (λ (t : Task). Errand c t.job t.starts) (same_Some own_task t e)
          (own_errand c cluster w n a p below up sound counted settled.quiet settled.few held roomy marks echo)
      go false e =
          ⊎_elim
          (λ (h :
          Found c.names m (suc (length w.sent)) (slice_get w.nodes m) (frames_of (server_at c n a.inc) a.node.hub p)).
          of_slot h.frame (found_frame m h) (slice_get w.nodes m) refl (sym h.task ∙ e))
          (λ (h : NotFound c.names m (suc (length w.sent)) (slice_get w.nodes m)
          (frames_of (server_at c n a.inc) a.node.hub p)).
          absurd (none-some t (sym h.task ∙ e)))
          (find_frame c.names m (suc (length w.sent)) (slice_get w.nodes m)
          (frames_of (server_at c n a.inc) a.node.hub p))

  -- ---- after the publish

  listed : IsListed (server_at c n a.inc)
  listed = record { apart = cluster.apart; listed = below }

  -- the place that a found frame is for
  found_place : (m : ℕ)
      → m < length c.names
      → (h : Found c.names m (suc (length w.sent)) (slice_get w.nodes m) (frames_of (server_at c n a.inc) a.node.hub p))
      → (found_frame m h).q ≡ m
  found_place m lt h =
      let s = found_frame m h in
      let size : length a.node.hub.peers ≡ length c.names = (sound n a up).peers in
      let b = slice_get_within a.node.hub.peers s.q s.peer s.at in
      let e : name_of (server_at c n a.inc) s.q ≡ name_of (server_at c n a.inc) m =
      sym (ap (λ (f : Frame). f.to) s.is) ∙ h.to in
      sym (named (server_at c n a.inc) listed s.q (omega (arith, size, b)))
      ∙ ap (place (server_at c n a.inc)) e
      ∙ named (server_at c n a.inc) listed m lt

  found_is : (m : ℕ) (lt : m < length c.names)
      (h : Found c.names m (suc (length w.sent)) (slice_get w.nodes m) (frames_of (server_at c n a.inc) a.node.hub p))
      (b : Running) (far : n ≢ m) (at : slice_get w.nodes m ≡ Some (Some b))
      → h.frame
      ≡ frame_for c cluster w n a p below up sound counted settled.quiet m (settled.quiet.peers n m a b far up at).peer
  found_is m lt h b far at =
      let s = found_frame m h in
      let e = found_place m lt h in
      let f : s.peer ≡ (settled.quiet.peers n m a b far up at).peer = same_Some s.peer
      (settled.quiet.peers n m a b far up at).peer
      (sym s.at ∙ ap (slice_get a.node.hub.peers) e ∙ (settled.quiet.peers n m a b far up at).at) in
      s.is ∙ (λ i. frame_for c cluster w n a p below up sound counted settled.quiet (e i) (f i))

  abbrev own_name_list : ℕ → List (List ℕ)
  own_name_list q =
      (names_for (choice_of (server_at c n a.inc) a.node.hub p) (name_of (server_at c n a.inc) q)
      (names_of (server_at c n a.inc) a.node.hub p))

  module _ (w1 : World) (sent : w1.sent ≡ w.sent ++ map route.Numbered (frames_of (server_at c n a.inc) a.node.hub p))
      (j : JobComes w n a (own_job (server_at c n a.inc) a.node.hub p) w1) where
    stage : (m : ℕ) → m < length c.names → NodeStage c w1 m order (tasks m)
    stage m lt = go (nat_eq m n) refl
      where
        go : (b : Bool) → nat_eq m n ≡ b → NodeStage c w1 m order (task_if b m)
        go true e =
            inr (subst (λ k. Busy w1 k a.inc (own_job (server_at c n a.inc) a.node.hub p) a.node.lines order)
            (sym (eq_true m n e))
            (comes c w n a (own_job (server_at c n a.inc) a.node.hub p) w1 order (sound n a up) refl
            (own_errand c cluster w n a p below up sound counted settled.quiet settled.few held roomy marks echo) j
            (λ place l.
            is_order.lines n place below l
            ∙ ap (λ b.
            cond b (work_events n (suc place) (length (own_job (server_at c n a.inc) a.node.hub p).queues))
            (events_of_frames c.names n (suc place) (suc (length w.sent))
            (frames_of (server_at c n a.inc) a.node.hub p)))
            (true_eq n n refl))))
        go false e =
            ⊎_elim found none
            (find_frame c.names m (suc (length w.sent)) (slice_get w.nodes m)
            (frames_of (server_at c n a.inc) a.node.hub p))
          where
            far : n ≢ m
            far = λ f. eq_false m n e (sym f)

            line : (place : ℕ)
                → place < c.shards
                → filter (is_for m (suc place)) order
                ≡ events_of_frames c.names m (suc place) (suc (length w.sent))
                (frames_of (server_at c n a.inc) a.node.hub p)
            line place l =
                is_order.lines m place lt l
                ∙ ap (λ b.
                cond b (work_events m (suc place) (length (own_job (server_at c n a.inc) a.node.hub p).queues))
                (events_of_frames c.names m (suc place) (suc (length w.sent))
                (frames_of (server_at c n a.inc) a.node.hub p)))
                e

            found : Found c.names m (suc (length w.sent)) (slice_get w.nodes m)
                (frames_of (server_at c n a.inc) a.node.hub p)
                → NodeStage c w1 m order
                (task_in c.names m (slice_get w.nodes m) (frames_of (server_at c n a.inc) a.node.hub p))
            found h =
                let u = settled.quiet.up m lt in
                let b : Running = u.0 in
                let is : h.frame
                ≡ frame_for c cluster w n a p below up sound counted settled.quiet m
                (settled.quiet.peers n m a u.0 far up u.1).peer = found_is m lt h u.0 far u.1 in
                let body : h.frame.body
                ≡ Msg p.publication.message
                (names_for (choice_of (server_at c n a.inc) a.node.hub p) (name_of (server_at c n a.inc) m)
                (names_of (server_at c n a.inc) a.node.hub p)) = ap (λ (f : Frame). f.body) is in
                let t : Task = record {
                  inc = u.0.inc;
                  job =
                      routed_job u.0.node.hub h.frame p.publication.message
                      (names_for (choice_of (server_at c n a.inc) a.node.hub p) (name_of (server_at c n a.inc) m)
                      (names_of (server_at c n a.inc) a.node.hub p));
                  starts = u.0.node.lines;
                } in
                let task :
                task_in c.names m (slice_get w.nodes m) (frames_of (server_at c n a.inc) a.node.hub p) ≡ Some t =
                h.task ∙ ap (λ s. task_of s h.frame) u.1 ∙ ap (task_of_body u.0 h.frame) body in
                subst (NodeStage c w1 m order) (sym task)
                (inl (record {
                  a = u.0;
                  up = j.others m (λ f. far (sym f)) ∙ u.1;
                  k = h.k;
                  frame = h.frame;
                  content = p.publication.message;
                  queues =
                      (names_for (choice_of (server_at c n a.inc) a.node.hub p) (name_of (server_at c n a.inc) m)
                      (names_of (server_at c n a.inc) a.node.hub p));
                  at =
                      ap (frame_at h.k) sent
                      ∙ sent_at w.sent (frames_of (server_at c n a.inc) a.node.hub p) h.j h.k h.frame h.at h.sum;
                  body = body;
                  taken =
                      ap (receive_refusal (server_at c m u.0.inc) u.0.node.hub (finished_turns u.0.node.lines)) is
                      ∙ is_received c cluster w n a p below up sound counted settled.quiet settled.few held roomy marks
                      echo m u.0 far u.1 lt;
                  task = refl;
                  left_is = λ place l.
                      line place l
                      ∙ h.events (suc place)
                      ∙ ap (λ b. Receive m h.k ∷ work_events m (suc place) (names_in_body b)) body;
                }))

            none : NotFound c.names m (suc (length w.sent)) (slice_get w.nodes m)
                (frames_of (server_at c n a.inc) a.node.hub p)
                → NodeStage c w1 m order
                (task_in c.names m (slice_get w.nodes m) (frames_of (server_at c n a.inc) a.node.hub p))
            none h = subst (NodeStage c w1 m order) (sym h.task) (λ place l. line place l ∙ h.events (suc place))

  -- ---- who has a task, and which

  record HasTask (m : ℕ) (b : Running) : Type 0 where
    t : Task
    is : tasks m ≡ Some t
    inc : t.inc ≡ b.inc
    starts : t.starts ≡ b.node.lines
    id : t.job.id ≡ next_id (server_at c n a.inc) a.node.hub
    message : t.job.message ≡ p.publication.message
    echoed : t.job.echo ≡ true
    queues : t.job.queues
        ≡ (names_for (choice_of (server_at c n a.inc) a.node.hub p) (name_of (server_at c n a.inc) m)
        (names_of (server_at c n a.inc) a.node.hub p))

  own_has : HasTask n a
  own_has = record {
    t = own_task;
    is = ap (λ b. task_if b n) (true_eq n n refl);
    inc = refl;
    starts = refl;
    id = refl;
    message = refl;
    echoed = echo;
    queues = refl;
  }

  other_has : (m : ℕ) (b : Running) (far : n ≢ m) (at : slice_get w.nodes m ≡ Some (Some b))
      → In
      (frame_for c cluster w n a p below up sound counted settled.quiet m (settled.quiet.peers n m a b far up at).peer)
      (frames_of (server_at c n a.inc) a.node.hub p)
      → HasTask m b
  other_has m b far at i =
      ⊎_elim found none
      (find_frame c.names m (suc (length w.sent)) (slice_get w.nodes m) (frames_of (server_at c n a.inc) a.node.hub p))
    where
      lt : m < length c.names
      lt = up_is_listed c events w run m (Some b) at

      found : Found c.names m (suc (length w.sent)) (slice_get w.nodes m) (frames_of (server_at c n a.inc) a.node.hub p)
          → HasTask m b
      found h =
          let is : h.frame
          ≡ frame_for c cluster w n a p below up sound counted settled.quiet m
          (settled.quiet.peers n m a b far up at).peer = found_is m lt h b far at in
          let body : h.frame.body
          ≡ Msg p.publication.message
          (names_for (choice_of (server_at c n a.inc) a.node.hub p) (name_of (server_at c n a.inc) m)
          (names_of (server_at c n a.inc) a.node.hub p)) = ap (λ (f : Frame). f.body) is in
          let t : Task = record {
            inc = b.inc;
            job =
                routed_job b.node.hub h.frame p.publication.message
                (names_for (choice_of (server_at c n a.inc) a.node.hub p) (name_of (server_at c n a.inc) m)
                (names_of (server_at c n a.inc) a.node.hub p));
            starts = b.node.lines;
          } in
          record {
            t = t;
            is =
                ap (λ b. task_if b m) (false_eq m n (λ f. far (sym f)))
                ∙ h.task
                ∙ ap (λ s. task_of s h.frame) at
                ∙ ap (task_of_body b h.frame) body;
            inc = refl;
            starts = refl;
            id =
                ap (λ (f : Frame).
                (routed_job b.node.hub f p.publication.message
                (names_for (choice_of (server_at c n a.inc) a.node.hub p) (name_of (server_at c n a.inc) m)
                (names_of (server_at c n a.inc) a.node.hub p))).id)
                is;
            message = refl;
            echoed = refl;
            queues = refl;
          }

      none : NotFound c.names m (suc (length w.sent)) (slice_get w.nodes m)
          (frames_of (server_at c n a.inc) a.node.hub p)
          → HasTask m b
      none h =
          absurd (h.none
          (frame_for c cluster w n a p below up sound counted settled.quiet m
          (settled.quiet.peers n m a b far up at).peer)
          i refl)

  -- ---- the whole run

  module _ (w' : World) (whole : Run c w (At n (Publish p) ∷ order) w') where
    published : ((told : _) × (whole.1 ≡ Done told))
        × ((whole.0.sent ≡ w.sent ++ map route.Numbered (frames_of (server_at c n a.inc) a.node.hub p))
        × JobComes w n a (own_job (server_at c n a.inc) a.node.hub p) whole.0)
    published =
        publishes one placed c w n a up (sound n a up) p whole.1 whole.0
        (is_taken c cluster w n a p below up sound counted settled.quiet settled.few held roomy marks echo) whole.2

    held_law : (events : List Event) (w : World)
        → Run c (new_world c) events w
        → EachUp (λ n a. ShardsAreHeld (server_at c n a.inc) a.node) w
    held_law ev x r m b at = (keeps c cluster ev x r m b at).shards

    worked : Each IsDone (outcomes_of c whole.0 order w' whole.3)
        × (((m : ℕ) → m < length c.names → NodeStage c w' m [] (tasks m)) × Reached c w')
    worked =
        ordered one placed c (are_sound c cluster) held_law tasks errands order whole.0
        (record {
          events = events ++ At n (Publish p) ∷ [];
          run = run_on c (new_world c) events w (At n (Publish p)) whole.1 whole.0 run whole.2;
        })
        (stage whole.0 published.1.0 published.1.1) is_order.only w' whole.3

    holds : Headline w'
    holds = headline c cluster worked.1.1.events w' worked.1.1.run

    goals : (m : ℕ) (b : Running)
        → slice_get w.nodes m ≡ Some (Some b)
        → (h : HasTask m b) (place : ℕ) (start : ShardWithJobs)
        → slice_get b.node.lines place ≡ Some start
        → Goals w' m h.t.inc h.t.job start (length h.t.job.queues)
    goals m b at h place start here =
        all_placed one placed c (are_sound c cluster) held_law tasks errands w' worked.1.1 worked.1.0 m
        (up_is_listed c events w run m (Some b) at) h.t h.is place start (ap (λ ls. slice_get ls place) h.starts ∙ here)

    -- ---- plain subscriptions

    plain_at : (m : ℕ) (b : Running)
        → slice_get w.nodes m ≡ Some (Some b)
        → HasTask m b
        → (place : ℕ) (line : ShardWithJobs)
        → slice_get b.node.lines place ≡ Some line
        → (u : Subscription)
        → In u line.shard.subs
        → u.key.queue ≡ None
        → subject_matches u.key.pattern (subject_of p) ≡ true
        → IsPlaced w' (next_id (server_at c n a.inc) a.node.hub)
        (record { node = m; inc = b.inc; sub = id_of line.shard.shard u.serial })
    plain_at m b at h place line here u i plain matches =
        let g = goals m b at h place line here in
        let due : is_due h.t.job u ≡ true = λ k.
        is_none (plain k)
        && ((ap (λ (x : Content). subject_matches u.key.pattern x.subject) h.message ∙ matches) k
        && (h.echoed k || not (is_publisher h.t.job.publisher u.conn))) in
        subst (λ x. IsPlaced w' x (record { node = m; inc = b.inc; sub = id_of line.shard.shard u.serial })) h.id
        (subst (λ x. IsPlaced w' h.t.job.id (record { node = m; inc = x; sub = id_of line.shard.shard u.serial })) h.inc
        (g.plain u i due))

    plain_placed : (life : Life)
        → In life w.lives
        → life.closed ≡ None
        → life.key.queue ≡ None
        → subject_matches life.key.pattern (subject_of p) ≡ true
        → IsPlaced w' (next_id (server_at c n a.inc) a.node.hub) life.id
    plain_placed life i open_now plain matches =
        let o = lives c cluster events w run life i open_now in
        let key = o.is.key in
        let p1 : o.sub.key.queue ≡ None = sym (ap (λ (k : Key). k.queue) key) ∙ plain in
        let m1 : subject_matches o.sub.key.pattern (subject_of p) ≡ true =
        sym (ap (λ (k : Key). subject_matches k.pattern (subject_of p)) key) ∙ matches in
        subst (IsPlaced w' (next_id (server_at c n a.inc) a.node.hub)) (sym o.is.id)
        (plain_at life.id.node o.a o.up (task o p1 m1 (nat_eq life.id.node n) refl) o.place o.line o.at o.sub o.there p1
        m1)
      where
        task : (o : IsOpenLife w life)
            → o.sub.key.queue ≡ None
            → subject_matches o.sub.key.pattern (subject_of p) ≡ true
            → (b : Bool)
            → nat_eq life.id.node n ≡ b
            → HasTask life.id.node o.a
        task o p1 m1 true e =
            let f : life.id.node ≡ n = eq_true life.id.node n e in
            let same : a ≡ o.a =
            same_Some a o.a (same_Some (Some a) (Some o.a) (sym up ∙ sym (ap (slice_get w.nodes) f) ∙ o.up)) in
            subst (λ m. HasTask m o.a) (sym f) (subst (HasTask n) same own_has)
        task o p1 m1 false e =
            let far : n ≢ life.id.node = λ f. eq_false life.id.node n e (sym f) in
            other_has life.id.node o.a far o.up
            (sent_for_plain c cluster w n a p below up sound counted settled.quiet life.id.node o.a far o.up o.sub
            o.place o.line o.at o.there (ap is_none p1) m1)

    -- ---- queue groups

    group_served : (name : List ℕ) (life : Life)
        → In life w.lives
        → life.closed ≡ None
        → life.key.queue ≡ Some name
        → subject_matches life.key.pattern (subject_of p) ≡ true
        → IsServed w' (next_id (server_at c n a.inc) a.node.hub) name
    group_served name life i open_now group matches =
        let o = lives c cluster events w run life i open_now in
        let key = o.is.key in
        let wanted : IsWantedName w (subject_of p) name = record {
          node = life.id.node;
          a = o.a;
          up = o.up;
          place = o.place;
          line = o.line;
          at = o.at;
          sub = o.sub;
          there = o.there;
          is = record {
            group = sym (ap (λ (k : Key). k.queue) key) ∙ group;
            matches = sym (ap (λ (k : Key). subject_matches k.pattern (subject_of p)) key) ∙ matches;
          };
        } in
        let x : ServedAt c cluster w n a p below up sound counted settled.quiet name =
        served_at c cluster w n a p below up sound counted settled.quiet name wanted in
        let there : In name (names_of (server_at c n a.inc) a.node.hub p) =
        wanted_is_named c cluster w n a p below up sound counted settled.quiet name wanted in
        by x (name_there c cluster w n a p below up sound counted settled.quiet name x.node there x.chosen)
        (nat_eq x.node n) refl
      where
        served : (m : ℕ) (b : Running)
            → slice_get w.nodes m ≡ Some (Some b)
            → HasTask m b
            → In name (names_for (choice_of (server_at c n a.inc) a.node.hub p) (name_of (server_at c n a.inc) m)
            (names_of (server_at c n a.inc) a.node.hub p))
            → (key : Key)
            → key.queue ≡ Some name
            → subject_matches key.pattern (subject_of p) ≡ true
            → OpenSub b.node.lines key
            → IsServed w' (next_id (server_at c n a.inc) a.node.hub) name
        served m b at h j key group matches o =
            let g = goals m b at h o.place o.line o.at in
            let k = in_at h.t.job.queues name (subst (In name) (sym h.queues) j) in
            let is : IsMember h.t.job.message.subject name o.sub = record {
              group = ap (λ (k : Key). k.queue) o.is ∙ group;
              matches =
                  ap (λ (x : Content). subject_matches o.sub.key.pattern x.subject) h.message
                  ∙ ap (λ (k : Key). subject_matches k.pattern (subject_of p)) o.is
                  ∙ matches;
            } in
            subst (λ x. IsServed w' x name) h.id
            (g.groups k.0 name (slice_get_within h.t.job.queues k.0 name k.1) k.1 o.sub o.there is)

        by : (x : ServedAt c cluster w n a p below up sound counted settled.quiet name)
            → In name (names_for (choice_of (server_at c n a.inc) a.node.hub p) (name_of (server_at c n a.inc) x.node)
            (names_of (server_at c n a.inc) a.node.hub p))
            → (b : Bool)
            → nat_eq x.node n ≡ b
            → IsServed w' (next_id (server_at c n a.inc) a.node.hub) name
        by x j true e =
            let f : x.node ≡ n = eq_true x.node n e in
            let same : a ≡ x.b =
            same_Some a x.b (same_Some (Some a) (Some x.b) (sym up ∙ sym (ap (slice_get w.nodes) f) ∙ x.at)) in
            served x.node x.b x.at (subst (λ m. HasTask m x.b) (sym f) (subst (HasTask n) same own_has)) j x.key x.group
            x.matches x.member
        by x j false e =
            let far : n ≢ x.node = λ f. eq_false x.node n e (sym f) in
            served x.node x.b x.at
            (other_has x.node x.b far x.at
            (sent_for_name c cluster w n a p below up sound counted settled.quiet name x.node x.b far x.at j))
            j x.key x.group x.matches x.member

    pub delivered : IsDelivered w (next_id (server_at c n a.inc) a.node.hub) (subject_of p)
        (outcomes_of c w (At n (Publish p) ∷ order) w' whole) w'
    delivered = record {
      done = λ x i.
          ⊎_elim (λ (f : x ≡ whole.1). subst IsDone (sym f) published.0)
          (λ (j : In x (outcomes_of c whole.0 order w' whole.3)). worked.0 x j) i;
      plain = λ life i open_now plain matches.
          one_for_life w' (next_id (server_at c n a.inc) a.node.hub) life.id holds
          (plain_placed life i open_now plain matches);
      groups = λ name life i open_now group matches.
          one_for_group w' (next_id (server_at c n a.inc) a.node.hub) name holds
          (group_served name life i open_now group matches);
    }
