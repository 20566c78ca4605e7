-- What waits after a step of a server.
use Rattle.std.proofs.Common.{◌≡◌, ◌≢◌, ℕ, zero, suc, Bool, cond, List, [], ◌∷◌, ◌++◌, length, Option, Some, None, refl, sym, ap, ◌∙◌, inl, inr, arith}
use Rattle.std.specs.Prelude.{slice_get}
use Rattle.std.proofs.lemmas.Option.{none-some}
use Rattle.list_laws.proofs.Tests.{true_eq, false_eq}
use Rattle.list_laws.proofs.Changes.{append_nil}
use Rattle.outbox.specs.Views.{Written}
use Rattle.claim_race.specs.Race.{RaceState}
use Rattle.subj.specs.Servers.{ServerIdentity}
use Rattle.hub_core.proofs.Neighbours.Known.{set_length, map_length}
use Rattle.route_values.specs.declared.bodies.Body.{Body}
use Rattle.route_values.specs.declared.bodies.Body.TheVariants.{Plus, Minus, Snapshot, Msg}
use Rattle.route_values.specs.Frames.{Frame}
use Rattle.shard_core.specs.Puts.{ArePut, kept_of, put_by, entries_for}
use Rattle.shard_core.specs.ShardEvents as of_shard
use Rattle.shard_core.specs.ShardSteps.{shard_refusal, shard_after}
use Rattle.shard_core.specs.Shards.{State, waits_for}
use Rattle.hub_core.specs.Publishing.{own_job}
use Rattle.hub_core.specs.Receiving.{routed_job}
use Rattle.node_law.specs.AsLaw.{Part, part_of, waits_in}
use Rattle.node_law.specs.Events.{OfConn, AtShard, Publish, Collect, Drain, Dial, Accept, CutSession, TakeFrames, NodeEvent, Own, Receive, OnInfo, OnConnect}
use Rattle.node_law.specs.State.{ShardWithJobs, Node}
use Rattle.node_law.specs.Steps.{NodeStep, conn_place, conn_line, shard_line, conn_event, work_event, line_after, line_after_if, set_line, line_with_job, lines_after_body, node_after}
use Rattle.node_law.proofs.Runs.EachShard.{Goes, step_goes}
use Rattle.world_law.specs.Changes.{entries_at}
use Rattle.world_law.specs.Waiting.{kept_at, WaitsAreKept}
use Rattle.world_law.proofs.Seen.Gained.{part_line}

-- ---- no step adds a shard or takes one away

set_line_length : (lines : List ShardWithJobs) (place : ℕ) (change : ShardWithJobs → ShardWithJobs)
    (o : Option ShardWithJobs)
    → length (set_line lines place change o) ≡ length lines
set_line_length lines place change None = refl
set_line_length lines place change (Some line) = set_length lines place (change line)

body_length : (a : Node) (frame : Frame) (body : Body) → length (lines_after_body a frame body) ≡ length a.lines
body_length a frame (Plus weighted) = refl
body_length a frame (Minus key) = refl
body_length a frame (Snapshot keys) = refl
body_length a frame (Msg content queues) = map_length (line_with_job (routed_job a.hub frame content queues)) a.lines

after_length : (server : ServerIdentity) (a : Node) (e : NodeEvent) (won : Bool) (race : RaceState)
    → length (node_after server a e won race).lines ≡ length a.lines
after_length server a (Own (OfConn conn event)) won race =
    set_line_length a.lines (conn_place server conn) (line_after (conn_event conn event)) (conn_line server a conn)
after_length server a (Own (AtShard shard work)) won race =
    set_line_length a.lines _ (λ line. line_after_if (work_event work won line) line) (shard_line a shard)
after_length server a (Own (Publish p)) won race = map_length (line_with_job (own_job server a.hub p)) a.lines
after_length server a (Own (Collect shard)) won race =
    set_line_length a.lines _ (line_after of_shard.Collect) (shard_line a shard)
after_length server a (Own Drain) won race = refl
after_length server a (Own (Dial q)) won race = refl
after_length server a (Own Accept) won race = refl
after_length server a (Own (CutSession session)) won race = refl
after_length server a (Own (TakeFrames q count)) won race = refl
after_length server a (Receive frame) won race = body_length a frame frame.body
after_length server a (OnInfo session info) won race = refl
after_length server a (OnConnect session connect) won race = refl

pub same_size : (server : ServerIdentity) (a : Node) (e : NodeEvent) (won : Bool) (race : RaceState) (b : Node)
    → NodeStep server a e won race b
    → length b.lines ≡ length a.lines
same_size server a e won race b step = ap (λ (n : Node). length n.lines) step.after ∙ after_length server a e won race

-- where one list of the same length has an entry, the other one has
pub at_both : {A : Type 0} (xs ys : List A) (k : ℕ) (x : A)
    → length ys ≡ length xs
    → slice_get xs k ≡ Some x
    → (y : A) × (slice_get ys k ≡ Some y)
at_both [] ys k x e f = absurd (none-some x f)
at_both (z ∷ xs) [] k x e f = absurd (omega arith)
at_both (z ∷ xs) (y ∷ ys) zero x e f = (y, refl)
at_both (z ∷ xs) (y ∷ ys) (suc k) x e f = at_both xs ys k x (omega arith) f

-- ---- what waits

module _ (puts : (s : State) (e : of_shard.Event) (conn : ℕ) → ArePut s e conn) where
  elsewhere : (o : Option Part) (place conn : ℕ) (waits : List Written)
      → ((p : Part) → o ≡ Some p → p.place ≢ place)
      → waits ≡ kept_at o place conn waits ++ entries_at o place conn
  elsewhere None place conn waits apart = sym (append_nil waits)
  elsewhere (Some p) place conn waits apart =
      sym (append_nil waits)
      ∙ sym (ap
      (λ b. cond b (kept_of p.event conn waits) waits ++ cond b (entries_for conn (put_by p.line.shard p.event)) [])
      (false_eq p.place place (apart p refl)))

  here : (o : Option Part) (place conn : ℕ) (line : ShardWithJobs) (e : of_shard.Event) (new : State)
      → o ≡ Some (record { place = place; line = line; event = e })
      → shard_refusal line.shard e ≡ None
      → new ≡ shard_after line.shard e
      → waits_for conn new.clients ≡ kept_at o place conn (waits_for conn line.shard.clients) ++ entries_at o place conn
  here o place conn line e new is cause after =
      ap (λ (s : State). waits_for conn s.clients) after
      ∙ (puts line.shard e conn).entries cause
      ∙ sym (ap (λ b.
      cond b (kept_of e conn (waits_for conn line.shard.clients)) (waits_for conn line.shard.clients)
      ++ cond b (entries_for conn (put_by line.shard e)) [])
      (true_eq place place refl))
      ∙ sym (ap (λ x. kept_at x place conn (waits_for conn line.shard.clients) ++ entries_at x place conn) is)

  pub waits_are_kept : WaitsAreKept
  waits_are_kept server a e won race b place conn step =
      go (slice_get a.lines place) (slice_get b.lines place) refl refl
    where
      size : length b.lines ≡ length a.lines
      size = same_size server a e won race b step

      go : (old new : Option ShardWithJobs)
          → slice_get a.lines place ≡ old
          → slice_get b.lines place ≡ new
          → waits_in conn new
          ≡ kept_at (part_of server a e won) place conn (waits_in conn old)
          ++ entries_at (part_of server a e won) place conn
      go None None f g =
          elsewhere (part_of server a e won) place conn []
          (λ p is same. none-some p.line (sym f ∙ ap (slice_get a.lines) (sym same) ∙ part_line server a e won p is))
      go None (Some y) f g =
          let x = at_both b.lines a.lines place y (sym size) g in absurd (none-some x.0 (sym f ∙ x.1))
      go (Some x) None f g = let y = at_both a.lines b.lines place x size f in absurd (none-some y.0 (sym g ∙ y.1))
      go (Some x) (Some y) f g = by (step_goes server a e won race b step place x y f g)
        where
          by : Goes (part_of server a e won) place x y
              → waits_for conn y.shard.clients
              ≡ kept_at (part_of server a e won) place conn (waits_for conn x.shard.clients)
              ++ entries_at (part_of server a e won) place conn
          by (inl (event, is, cause, after)) = here (part_of server a e won) place conn x event y.shard is cause after
          by (inr (inl same, apart)) =
              ap (λ (s : State). waits_for conn s.clients) same
              ∙ elsewhere (part_of server a e won) place conn (waits_for conn x.shard.clients) apart
          by (inr (inr same, apart)) =
              ap (λ (s : State). waits_for conn s.clients) same
              ∙ elsewhere (part_of server a e won) place conn (waits_for conn x.shard.clients) apart
