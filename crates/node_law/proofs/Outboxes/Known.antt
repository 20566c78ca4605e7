-- Over every run each outbox holds what was put for its connection and not taken.
use Rattle.std.proofs.Common.{◌≡◌, ℕ, zero, suc, ◌-◌, Bool, true, false, cond, nat_eq, List, [], ◌∷◌, ◌++◌, map, set, Option, Some, None, refl, sym, ap, ◌∙◌, subst}
use Rattle.std.specs.Prelude.{slice_get}
use Rattle.std.proofs.lemmas.Option.{none-some}
use Rattle.list_laws.proofs.Tests.{eq_true, eq_false}
use Rattle.list_laws.proofs.Changes.{get_set_here, get_set_there}
use Rattle.subj.specs.Servers.{ServerIdentity}
use Rattle.subj.specs.declared.jobs.Job.{Job}
use Rattle.claim_race.specs.Race.{RaceState}
use Rattle.route_values.specs.Frames.{Frame}
use Rattle.route_values.specs.declared.bodies.Body.{Body}
use Rattle.route_values.specs.declared.bodies.Body.TheVariants.{Plus, Minus, Snapshot, Msg}
use Rattle.hub_core.specs.Publishing.{own_job}
use Rattle.hub_core.specs.Receiving.{routed_job}
use Rattle.hub_core.proofs.Steps.Rooms.{map_none}
use Rattle.shard_core.specs.ShardEvents as of_shard
use Rattle.shard_core.specs.ShardSteps.{shard_refusal}
use Rattle.node_law.specs.declared.faults.NodeFault.TheVariants.{NoShard, Shard}
use Rattle.node_law.specs.AsLaw.{part_if, part_at, part_of, waits_in, waits_at}
use Rattle.node_law.specs.Events.{ConnEvent, ShardWork, OfConn, AtShard, Publish, Collect, Drain, Dial, Accept, CutSession, TakeFrames, NodeEvent, Own, Receive, OnInfo, OnConnect}
use Rattle.node_law.specs.State.{ShardWithJobs, Node, lines_from}
use Rattle.node_law.specs.Steps.{conn_place, conn_line, shard_line, conn_event, work_event, conn_refusal, no_job, event_refusal, work_refusal, line_after, line_after_if, set_line, line_with_job, lines_after_body, node_refusal, node_after}
use Rattle.node_law.specs.Outboxes.{History, no_history, after_event, after_part, history_of, shut_in, is_shut_at, IsKnown, OutboxesAreKnown}
use Rattle.node_law.proofs.Moves.LineEvents.{found, same_refusal}
use Rattle.node_law.proofs.Outboxes.LastLines.{event_known}

-- of the shard at this place
abbrev KnownIn : History → ℕ → Option ShardWithJobs → Type 0
KnownIn x conn line = IsKnown x (waits_in conn line) (shut_in conn line)

module _ (place conn : ℕ) (x : History) where
  same_known : (lines after : List ShardWithJobs)
      → waits_in conn (slice_get after place) ≡ waits_in conn (slice_get lines place)
      → shut_in conn (slice_get after place) ≡ shut_in conn (slice_get lines place)
      → KnownIn x conn (slice_get lines place)
      → KnownIn x conn (slice_get after place)
  same_known lines after same shut known = record {
    all = ap (λ t. x.taken ++ t) same ∙ known.all;
    last = known.last ∙ sym (ap (λ b. cond b 1 0) shut);
  }

  line_known : (lines : List ShardWithJobs) (p : ℕ) (line : ShardWithJobs) (e : of_shard.Event)
      → slice_get lines p ≡ Some line
      → shard_refusal line.shard e ≡ None
      → KnownIn x conn (slice_get lines place)
      → KnownIn (after_part (Some (record { place = p; line = line; event = e })) place conn x) conn
      (slice_get (set lines p (line_after e line)) place)
  line_known lines p line e at cause known = go (nat_eq p place) refl
    where
      here : p ≡ place
          → KnownIn (after_event line.shard e conn x) conn (slice_get (set lines p (line_after e line)) place)
      here is =
          subst (λ q. KnownIn (after_event line.shard e conn x) conn (slice_get (set lines p (line_after e line)) q)) is
          (subst (KnownIn (after_event line.shard e conn x) conn)
          (sym (get_set_here lines p line (line_after e line) at))
          (event_known line.shard e cause conn x
          (subst (KnownIn x conn) at (subst (λ q. KnownIn x conn (slice_get lines q)) (sym is) known))))

      go : (b : Bool)
          → nat_eq p place ≡ b
          → KnownIn (cond b (after_event line.shard e conn x) x) conn
          (slice_get (set lines p (line_after e line)) place)
      go true is = here (eq_true p place is)
      go false is =
          subst (KnownIn x conn)
          (sym (get_set_there lines p place (line_after e line) (λ f. eq_false p place is (sym f)))) known

  conn_known : (server : ServerIdentity) (a : Node) (j : ℕ) (event : ConnEvent) (o : Option ShardWithJobs)
      → conn_line server a j ≡ o
      → conn_refusal event j o ≡ None
      → KnownIn x conn (slice_get a.lines place)
      → KnownIn (after_part (part_at (conn_place server j) (λ line. Some (conn_event j event)) o) place conn x) conn
      (slice_get (set_line a.lines (conn_place server j) (line_after (conn_event j event)) o) place)
  conn_known server a j event None at cause known = known
  conn_known server a j event (Some line) at cause known =
      line_known a.lines (conn_place server j) line (conn_event j event)
      (found (nat_eq j 0) (slice_get a.lines (conn_place server j)) line at)
      (map_none Shard (shard_refusal line.shard (conn_event j event)) cause) known

  work_known : (a : Node) (shard : ℕ) (work : ShardWork) (won : Bool) (o : Option ShardWithJobs)
      → shard_line a shard ≡ o
      → work_refusal work o ≡ None
      → KnownIn x conn (slice_get a.lines place)
      → KnownIn (after_part (part_at (shard - 1) (work_event work won) o) place conn x) conn
      (slice_get (set_line a.lines (shard - 1) (λ line. line_after_if (work_event work won line) line) o) place)
  work_known a shard work won None at cause known = absurd (none-some NoShard (sym cause))
  work_known a shard work won (Some line) at cause known =
      go (work_event work won line) (sym (same_refusal work line won) ∙ cause)
    where
      go : (e : Option of_shard.Event)
          → event_refusal line e ≡ None
          → KnownIn (after_part (part_if (shard - 1) line e) place conn x) conn
          (slice_get (set a.lines (shard - 1) (line_after_if e line)) place)
      go None f = absurd (none-some (no_job line.shard.hand) (sym f))
      go (Some e) f =
          line_known a.lines (shard - 1) line e (found (nat_eq shard 0) (slice_get a.lines (shard - 1)) line at)
          (map_none Shard (shard_refusal line.shard e) f) known

  queued_known : (job : Job) (lines : List ShardWithJobs)
      → KnownIn x conn (slice_get lines place)
      → KnownIn x conn (slice_get (map (line_with_job job) lines) place)
  queued_known job lines known =
      same_known lines (map (line_with_job job) lines) (waits lines place) (shuts lines place) known
    where
      waits : (lines : List ShardWithJobs) (place : ℕ)
          → waits_in conn (slice_get (map (line_with_job job) lines) place) ≡ waits_in conn (slice_get lines place)
      waits [] place = refl
      waits (line ∷ lines) zero = refl
      waits (line ∷ lines) (suc place) = waits lines place

      shuts : (lines : List ShardWithJobs) (place : ℕ)
          → shut_in conn (slice_get (map (line_with_job job) lines) place) ≡ shut_in conn (slice_get lines place)
      shuts [] place = refl
      shuts (line ∷ lines) zero = refl
      shuts (line ∷ lines) (suc place) = shuts lines place

  collected_known : (lines : List ShardWithJobs) (p : ℕ) (o : Option ShardWithJobs)
      → ((line : ShardWithJobs) → o ≡ Some line → slice_get lines p ≡ Some line)
      → KnownIn x conn (slice_get lines place)
      → KnownIn x conn (slice_get (set_line lines p (line_after of_shard.Collect) o) place)
  collected_known lines p None h known = known
  collected_known lines p (Some line) h known = go (nat_eq p place) refl
    where
      go : (b : Bool)
          → nat_eq p place ≡ b
          → KnownIn x conn (slice_get (set lines p (line_after of_shard.Collect line)) place)
      go true is =
          subst (λ q. KnownIn x conn (slice_get (set lines p (line_after of_shard.Collect line)) q))
          (eq_true p place is)
          (subst (KnownIn x conn) (sym (get_set_here lines p line (line_after of_shard.Collect line) (h line refl)))
          (subst (KnownIn x conn) (h line refl)
          (subst (λ q. KnownIn x conn (slice_get lines q)) (sym (eq_true p place is)) known)))
      go false is =
          subst (KnownIn x conn)
          (sym (get_set_there lines p place (line_after of_shard.Collect line) (λ f. eq_false p place is (sym f))))
          known

  body_known : (a : Node) (frame : Frame) (body : Body)
      → KnownIn x conn (slice_get a.lines place)
      → KnownIn x conn (slice_get (lines_after_body a frame body) place)
  body_known a frame (Plus weighted) known = known
  body_known a frame (Minus key) known = known
  body_known a frame (Snapshot keys) known = known
  body_known a frame (Msg content queues) known = queued_known (routed_job a.hub frame content queues) a.lines known

  step_known : (server : ServerIdentity) (a : Node) (e : NodeEvent) (won : Bool) (race : RaceState)
      → node_refusal server a e ≡ None
      → KnownIn x conn (slice_get a.lines place)
      → KnownIn (after_part (part_of server a e won) place conn x) conn
      (slice_get (node_after server a e won race).lines place)
  step_known server a (Own (OfConn j event)) won race cause known =
      conn_known server a j event (conn_line server a j) refl cause known
  step_known server a (Own (AtShard shard work)) won race cause known =
      work_known a shard work won (shard_line a shard) refl cause known
  step_known server a (Own (Publish p)) won race cause known = queued_known (own_job server a.hub p) a.lines known
  step_known server a (Own (Collect shard)) won race cause known =
      collected_known a.lines (shard - 1) (shard_line a shard)
      (λ line e. found (nat_eq shard 0) (slice_get a.lines (shard - 1)) line e) known
  step_known server a (Own Drain) won race cause known = known
  step_known server a (Own (Dial q)) won race cause known = known
  step_known server a (Own Accept) won race cause known = known
  step_known server a (Own (CutSession session)) won race cause known = known
  step_known server a (Own (TakeFrames q count)) won race cause known = known
  step_known server a (Receive frame) won race cause known = body_known a frame frame.body known
  step_known server a (OnInfo session info) won race cause known = known
  step_known server a (OnConnect session connect) won race cause known = known

-- ---- runs

first_known : (conn shards first count place : ℕ)
    → KnownIn no_history conn (slice_get (lines_from shards first count) place)
first_known conn shards first zero place = record { all = refl; last = refl }
first_known conn shards first (suc count) zero = record { all = refl; last = refl }
first_known conn shards first (suc count) (suc place) = first_known conn shards (suc first) count place

pub outboxes_are_known : OutboxesAreKnown
outboxes_are_known server [] a is place conn =
    subst (λ (n : Node). IsKnown no_history (waits_at n place conn) (is_shut_at n place conn)) (sym is)
    (first_known conn server.shards 1 server.shards place)
outboxes_are_known server (d ∷ earlier) a ran place conn =
    subst (λ (n : Node).
    IsKnown (after_part (part_of server d.before d.event d.won) place conn (history_of server earlier place conn))
    (waits_at n place conn) (is_shut_at n place conn))
    (sym ran.0.after)
    (step_known place conn (history_of server earlier place conn) server d.before d.event d.won d.race ran.0.cause
    (outboxes_are_known server earlier d.before ran.1 place conn))
