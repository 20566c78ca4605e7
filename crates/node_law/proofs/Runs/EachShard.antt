-- Each shard of a server makes the step of an event, or is as it was; and so keeps what shards keep.
use Rattle.std.proofs.Common.{◌≡◌, ◌≢◌, ◌⊎◌, ℕ, zero, suc, ◌+◌, ◌-◌, ◌%◌, ◌≤◌, Bool, true, false, nat_eq, List, [], ◌∷◌, map, set, length, Option, Some, None, refl, sym, ap, ◌∙◌, subst, inl, inr, ⊎_elim, arith}
use Rattle.std.specs.Prelude.{slice_get}
use Rattle.std.proofs.lemmas.Option.{none-some, same_Some}
use Rattle.list_laws.specs.Lists.{Each}
use Rattle.list_laws.proofs.Lists.{read_map}
use Rattle.list_laws.proofs.Tests.{eq_true, eq_false}
use Rattle.list_laws.proofs.Changes.{get_set_here, get_set_there}
use Rattle.subj.specs.Servers.{ServerIdentity, IsListed}
use Rattle.subj.specs.declared.jobs.Job.{Job}
use Rattle.claim_race.specs.Race.{RaceState}
use Rattle.route_values.specs.Frames.{Frame}
use Rattle.route_values.specs.declared.bodies.Body.{Body}
use Rattle.route_values.specs.declared.bodies.Body.TheVariants.{Plus, Minus, Snapshot, Msg}
use Rattle.hub_core.specs.Publishing.{own_job}
use Rattle.hub_core.specs.Receiving.{routed_job}
use Rattle.hub_core.proofs.Steps.Rooms.{map_none}
use Rattle.shard_core.specs.Causes.{AreHeld, HasOwnNumbers}
use Rattle.shard_core.specs.Limits.{HasLimits}
use Rattle.shard_core.specs.Shards as shards
use Rattle.shard_core.specs.ShardEvents as of_shard
use Rattle.shard_core.specs.ShardSteps.{shard_refusal, shard_after}
use Rattle.shard_core.proofs.Closings.Whys.{keeps}
use Rattle.shard_core.proofs.Clients.Limits.{limits_kept, numbers_kept, first_numbers}
use Rattle.node_law.specs.declared.faults.NodeFault.TheVariants.{NoShard, Shard}
use Rattle.node_law.specs.AsLaw.{Part, part_if, part_at, part_of}
use Rattle.node_law.specs.EachShard.{ShardsStayHeld}
use Rattle.node_law.specs.Events.{ConnEvent, ShardWork, OfConn, AtShard, Publish, Collect, Drain, Dial, Accept, CutSession, TakeFrames, NodeEvent, Own, Receive, OnInfo, OnConnect}
use Rattle.node_law.specs.Runs.{Done, Ran}
use Rattle.node_law.specs.State.{ShardWithJobs, Node, lines_from, new_line}
use Rattle.node_law.specs.Steps.{conn_place, conn_line, shard_line, conn_event, work_event, conn_refusal, no_job, event_refusal, work_refusal, line_after, line_after_if, set_line, line_with_job, lines_after_body, node_refusal, node_after, NodeStep}
use Rattle.node_law.proofs.Moves.LineEvents.{found, same_refusal}
use Rattle.node_law.proofs.Runs.Sound.{run_sound}

-- ---- the shard at a place makes the step of an event, or nothing opens or closes there

abbrev Stepped : Option Part → ℕ → ShardWithJobs → ShardWithJobs → Type 0
Stepped o place old new =
    (e : of_shard.Event)
    × (o ≡ Some (record { place = place; line = old; event = e }))
    × (shard_refusal old.shard e ≡ None)
    × (new.shard ≡ shard_after old.shard e)

abbrev Rested : Option Part → ℕ → ShardWithJobs → ShardWithJobs → Type 0
Rested o place old new =
    ((new.shard ≡ old.shard) ⊎ (new.shard ≡ shard_after old.shard of_shard.Collect))
    × ((p : Part) → o ≡ Some p → p.place ≢ place)

abbrev pub Goes : Option Part → ℕ → ShardWithJobs → ShardWithJobs → Type 0
Goes o place old new = Stepped o place old new ⊎ Rested o place old new

-- what stands at a place afterwards, if that stood there before
abbrev Follows : Option Part → ℕ → Option ShardWithJobs → Option ShardWithJobs → Type 0
Follows o place old new = (x y : ShardWithJobs) → old ≡ Some x → new ≡ Some y → Goes o place x y

module _ (place : ℕ) where
  nothing : (old new : Option ShardWithJobs) → new ≡ old → Follows None place old new
  nothing old new same x y f g =
      inr (inl (ap (λ (l : ShardWithJobs). l.shard) (same_Some y x (sym g ∙ same ∙ f))), λ p e. absurd (none-some p e))

  line_goes : (lines : List ShardWithJobs) (p : ℕ) (line : ShardWithJobs) (e : of_shard.Event)
      → slice_get lines p ≡ Some line
      → shard_refusal line.shard e ≡ None
      → Follows (Some (record { place = p; line = line; event = e })) place (slice_get lines place)
      (slice_get (set lines p (line_after e line)) place)
  line_goes lines p line e at cause x y f g = go (nat_eq p place) refl
    where
      go : (b : Bool) → nat_eq p place ≡ b → Goes (Some (record { place = p; line = line; event = e })) place x y
      go true is =
          let here = eq_true p place is in
          let old : line ≡ x = same_Some line x (sym at ∙ ap (slice_get lines) here ∙ f) in
          let new : line_after e line ≡ y = same_Some (line_after e line) y
          (sym (get_set_here lines p line (line_after e line) at)
          ∙ ap (slice_get (set lines p (line_after e line))) here ∙ g) in
          inl (
            e,
            (λ i. Some (record { place = here i; line = old i; event = e })),
            ap (λ (l : ShardWithJobs). shard_refusal l.shard e) (sym old) ∙ cause,
            ap (λ (l : ShardWithJobs). l.shard) (sym new) ∙ ap (λ (l : ShardWithJobs). shard_after l.shard e) old,
          )
      go false is =
          inr (
            inl (ap (λ (l : ShardWithJobs). l.shard)
                (same_Some y x
                (sym g ∙ get_set_there lines p place (line_after e line) (λ h. eq_false p place is (sym h)) ∙ f))),
            λ q h same. eq_false p place is (ap (λ (z : Part). z.place) (same_Some _ q h) ∙ same),
          )

  conn_goes : (server : ServerIdentity) (a : Node) (j : ℕ) (event : ConnEvent) (o : Option ShardWithJobs)
      → conn_line server a j ≡ o
      → conn_refusal event j o ≡ None
      → Follows (part_at (conn_place server j) (λ line. Some (conn_event j event)) o) place (slice_get a.lines place)
      (slice_get (set_line a.lines (conn_place server j) (line_after (conn_event j event)) o) place)
  conn_goes server a j event None at cause = nothing (slice_get a.lines place) (slice_get a.lines place) refl
  conn_goes server a j event (Some line) at cause =
      line_goes a.lines (conn_place server j) line (conn_event j event)
      (found (nat_eq j 0) (slice_get a.lines (conn_place server j)) line at)
      (map_none Shard (shard_refusal line.shard (conn_event j event)) cause)

  work_goes : (a : Node) (shard : ℕ) (work : ShardWork) (won : Bool) (o : Option ShardWithJobs)
      → shard_line a shard ≡ o
      → work_refusal work o ≡ None
      → Follows (part_at (shard - 1) (work_event work won) o) place (slice_get a.lines place)
      (slice_get (set_line a.lines (shard - 1) (λ line. line_after_if (work_event work won line) line) o) place)
  work_goes a shard work won None at cause = absurd (none-some NoShard (sym cause))
  work_goes a shard work won (Some line) at cause =
      go (work_event work won line) (sym (same_refusal work line won) ∙ cause)
    where
      go : (e : Option of_shard.Event)
          → event_refusal line e ≡ None
          → Follows (part_if (shard - 1) line e) place (slice_get a.lines place)
          (slice_get (set a.lines (shard - 1) (line_after_if e line)) place)
      go None f = absurd (none-some (no_job line.shard.hand) (sym f))
      go (Some e) f =
          line_goes a.lines (shard - 1) line e (found (nat_eq shard 0) (slice_get a.lines (shard - 1)) line at)
          (map_none Shard (shard_refusal line.shard e) f)

  queued_goes : (job : Job) (lines : List ShardWithJobs)
      → Follows None place (slice_get lines place) (slice_get (map (line_with_job job) lines) place)
  queued_goes job lines x y f g =
      let m = read_map (line_with_job job) lines place y g in
      inr (
        inl (ap (λ (l : ShardWithJobs). l.shard) m.2
            ∙ ap (λ (l : ShardWithJobs). l.shard) (same_Some m.0 x (sym m.1 ∙ f))),
        λ p e. absurd (none-some p e),
      )

  collected_goes : (lines : List ShardWithJobs) (p : ℕ) (o : Option ShardWithJobs)
      → ((line : ShardWithJobs) → o ≡ Some line → slice_get lines p ≡ Some line)
      → Follows None place (slice_get lines place) (slice_get (set_line lines p (line_after of_shard.Collect) o) place)
  collected_goes lines p None h x y f g = nothing (slice_get lines place) (slice_get lines place) refl x y f g
  collected_goes lines p (Some line) h x y f g = go (nat_eq p place) refl
    where
      go : (b : Bool) → nat_eq p place ≡ b → Goes None place x y
      go true is =
          let here = eq_true p place is in
          let old : line ≡ x = same_Some line x (sym (h line refl) ∙ ap (slice_get lines) here ∙ f) in
          let new : line_after of_shard.Collect line ≡ y = same_Some (line_after of_shard.Collect line) y
          (sym (get_set_here lines p line (line_after of_shard.Collect line) (h line refl))
          ∙ ap (slice_get (set lines p (line_after of_shard.Collect line))) here ∙ g) in
          inr (
            inr (ap (λ (l : ShardWithJobs). l.shard) (sym new)
                ∙ ap (λ (l : ShardWithJobs). shard_after l.shard of_shard.Collect) old),
            λ q e. absurd (none-some q e),
          )
      go false is =
          inr (
            inl (ap (λ (l : ShardWithJobs). l.shard)
                (same_Some y x (sym g
                ∙ get_set_there lines p place (line_after of_shard.Collect line) (λ h. eq_false p place is (sym h))
                ∙ f))),
            λ q e. absurd (none-some q e),
          )

  body_goes : (a : Node) (frame : Frame) (body : Body)
      → Follows None place (slice_get a.lines place) (slice_get (lines_after_body a frame body) place)
  body_goes a frame (Plus weighted) = nothing (slice_get a.lines place) (slice_get a.lines place) refl
  body_goes a frame (Minus key) = nothing (slice_get a.lines place) (slice_get a.lines place) refl
  body_goes a frame (Snapshot keys) = nothing (slice_get a.lines place) (slice_get a.lines place) refl
  body_goes a frame (Msg content queues) = queued_goes (routed_job a.hub frame content queues) a.lines

  after_goes : (server : ServerIdentity) (a : Node) (e : NodeEvent) (won : Bool) (race : RaceState)
      → node_refusal server a e ≡ None
      → Follows (part_of server a e won) place (slice_get a.lines place)
      (slice_get (node_after server a e won race).lines place)
  after_goes server a (Own (OfConn j event)) won race cause =
      conn_goes server a j event (conn_line server a j) refl cause
  after_goes server a (Own (AtShard shard work)) won race cause =
      work_goes a shard work won (shard_line a shard) refl cause
  after_goes server a (Own (Publish p)) won race cause = queued_goes (own_job server a.hub p) a.lines
  after_goes server a (Own (Collect shard)) won race cause =
      collected_goes a.lines (shard - 1) (shard_line a shard)
      (λ line e. found (nat_eq shard 0) (slice_get a.lines (shard - 1)) line e)
  after_goes server a (Own Drain) won race cause = nothing (slice_get a.lines place) (slice_get a.lines place) refl
  after_goes server a (Own (Dial q)) won race cause = nothing (slice_get a.lines place) (slice_get a.lines place) refl
  after_goes server a (Own Accept) won race cause = nothing (slice_get a.lines place) (slice_get a.lines place) refl
  after_goes server a (Own (CutSession session)) won race cause =
      nothing (slice_get a.lines place) (slice_get a.lines place) refl
  after_goes server a (Own (TakeFrames q count)) won race cause =
      nothing (slice_get a.lines place) (slice_get a.lines place) refl
  after_goes server a (Receive frame) won race cause = body_goes a frame frame.body
  after_goes server a (OnInfo session info) won race cause =
      nothing (slice_get a.lines place) (slice_get a.lines place) refl
  after_goes server a (OnConnect session connect) won race cause =
      nothing (slice_get a.lines place) (slice_get a.lines place) refl

-- in each step of a server
pub step_goes : (server : ServerIdentity) (a : Node) (e : NodeEvent) (won : Bool) (race : RaceState) (b : Node)
    → NodeStep server a e won race b
    → (place : ℕ) (old new : ShardWithJobs)
    → slice_get a.lines place ≡ Some old
    → slice_get b.lines place ≡ Some new
    → Goes (part_of server a e won) place old new
step_goes server a e won race b step place old new f g =
    after_goes place server a e won race step.cause old new f
    (sym (ap (λ (n : Node). slice_get n.lines place) step.after) ∙ g)

-- ---- what a shard keeps, each shard of a server keeps

record Holds (s : shards.State) : Type 0 where
  subs : AreHeld s
  limits : Each HasLimits s.clients
  numbers : HasOwnNumbers s

holds_after : (s : shards.State) (e : of_shard.Event) → shard_refusal s e ≡ None → Holds s → Holds (shard_after s e)
holds_after s e cause h = record {
  subs = keeps s e h.subs cause;
  limits = limits_kept s e h.limits;
  numbers = numbers_kept s e h.numbers;
}

-- no shard is new in a step
lines_length : (server : ServerIdentity) (a : Node) (b : Node) (place : ℕ) (new : ShardWithJobs)
    → length b.lines ≡ length a.lines
    → slice_get b.lines place ≡ Some new
    → (old : ShardWithJobs) × (slice_get a.lines place ≡ Some old)
lines_length server a b place new same g = go a.lines b.lines place same g
  where
    go : (xs ys : List ShardWithJobs) (place : ℕ)
        → length ys ≡ length xs
        → slice_get ys place ≡ Some new
        → (old : ShardWithJobs) × (slice_get xs place ≡ Some old)
    go xs [] place e f = absurd (none-some new f)
    go [] (y ∷ ys) place e f = absurd (omega arith)
    go (x ∷ xs) (y ∷ ys) zero e f = (x, refl)
    go (x ∷ xs) (y ∷ ys) (suc place) e f = go xs ys place (omega arith) f

first_holds : (shards first count place : ℕ) (line : ShardWithJobs)
    → 1 ≤ first
    → first + count ≤ suc shards
    → slice_get (lines_from shards first count) place ≡ Some line
    → Holds line.shard
first_holds shards first zero place line some most e = absurd (none-some line e)
first_holds shards first (suc count) zero line some most e =
    subst (λ (l : ShardWithJobs). Holds l.shard) (same_Some (new_line shards first) line e) (record {
      subs = record {
        rising = tt;
        given = λ u i. absurd i;
        called = tt;
        served = λ u i. absurd i;
        unspent = λ u i. absurd i;
      };
      limits = λ x i. absurd i;
      numbers = first_numbers first shards some (omega arith);
    })
first_holds shards first (suc count) (suc place) line some most e =
    first_holds shards (suc first) count place line (omega arith) (omega arith) e

run_holds : (server : ServerIdentity) (h : List Done) (a : Node)
    → IsListed server
    → Ran server h a
    → (place : ℕ) (line : ShardWithJobs)
    → slice_get a.lines place ≡ Some line
    → Holds line.shard
run_holds server [] a listed is place line at =
    first_holds server.shards 1 server.shards place line (omega arith) (omega arith)
    (sym (ap (λ (n : Node). slice_get n.lines place) is) ∙ at)
run_holds server (d ∷ earlier) a listed ran place line at =
    let before = run_sound server earlier d.before listed ran.1 in
    let after = run_sound server (d ∷ earlier) a listed ran in
    let old = lines_length server d.before a place line (after.size ∙ sym before.size) at in
    let held = run_holds server earlier d.before listed ran.1 place old.0 old.1 in
    ⊎_elim (λ (x : Stepped (part_of server d.before d.event d.won) place old.0 line).
    subst Holds (sym x.3) (holds_after old.0.shard x.0 x.2 held))
    (λ (x : Rested (part_of server d.before d.event d.won) place old.0 line).
    ⊎_elim (λ (f : line.shard ≡ old.0.shard). subst Holds (sym f) held)
    (λ (f : line.shard ≡ shard_after old.0.shard of_shard.Collect).
    subst Holds (sym f) (holds_after old.0.shard of_shard.Collect refl held))
    x.0)
    (step_goes server d.before d.event d.won d.race a ran.0 place old.0 line old.1 at)

pub shards_stay_held : ShardsStayHeld
shards_stay_held server h a listed ran place line at =
    let held = run_holds server h a listed ran place line at in
    let where_at = (run_sound server h a listed ran).lines place line at in
    record {
      subs = held.subs;
      limits = held.limits;
      numbers = λ x i.
          let own = held.numbers.all x i in (
            own.some,
            ap (λ k. (x.number - 1) % k) (sym where_at.shards) ∙ own.place
                ∙ less line.shard.shard place where_at.number,
          );
    }
  where
    less : (k place : ℕ) → k ≡ suc place → k - 1 ≡ place
    less k place e = omega arith
