-- The frame that a publish puts for a server, and what there is to do with it.
use Rattle.std.proofs.Common.{◌≡◌, ◌≢◌, ◌⊎◌, ℕ, zero, suc, ◌+◌, Bool, true, false, true≢false, cond, List, [], ◌∷◌, ◌++◌, length, map, Option, Some, None, refl, sym, ap, ◌∙◌, inl, inr, ⊎_elim, arith}
use Rattle.std.specs.Prelude.{slice_get, if◌then◌else◌}
use Rattle.std.specs.Str.{bytes_eq}
use Rattle.std.proofs.lemmas.Slice.Eq.{bytes_eq-Decides}
use Rattle.list_laws.specs.Lists.{In}
use Rattle.list_laws.proofs.Tests.{same_bytes}
use Rattle.list_laws.proofs.Changes.{get_map}
use Rattle.subj.specs.Servers.{name_at}
use Rattle.route_values.specs.Frames.{Frame}
use Rattle.route_values.specs.declared.bodies.Body.{Body}
use Rattle.route_values.specs.declared.bodies.Body.TheVariants.{Plus, Minus, Snapshot, Msg}
use Rattle.route_values.specs.declared.frames.RouteFrame.{RouteFrame}
use Rattle.route_values.specs.declared.frames.RouteFrame.TheVariants as route
use Rattle.hub_core.specs.Receiving.{routed_job}
use Rattle.world_law.specs.Events.{Receive, frame_at}
use Rattle.world_law.specs.State.{Running}
use Rattle.settled_law.specs.Orders.{events_of_frames, work_events, names_in_body}
use Rattle.settled_law.proofs.Works.Whole.{Task}

abbrev pub task_of_body : Running → Frame → Body → Option Task
task_of_body b frame (Plus weighted) = None
task_of_body b frame (Minus key) = None
task_of_body b frame (Snapshot keys) = None
task_of_body b frame (Msg content queues) =
    Some (record { inc = b.inc; job = routed_job b.node.hub frame content queues; starts = b.node.lines })

abbrev pub task_of : Option (Option Running) → Frame → Option Task
task_of None frame = None
task_of (Some None) frame = None
task_of (Some (Some b)) frame = task_of_body b frame frame.body

abbrev pub task_in : List (List ℕ) → ℕ → Option (Option Running) → List Frame → Option Task
task_in names m slot [] = None
task_in names m slot (frame ∷ frames) =
    if bytes_eq frame.to (name_at names m) then task_of slot frame else task_in names m slot frames

pub record Found (names : List (List ℕ)) (m number : ℕ) (slot : Option (Option Running)) (frames : List Frame) :
    Type 0 where
  pub j : ℕ
  pub k : ℕ
  pub sum : k ≡ number + j
  pub frame : Frame
  pub at : slice_get frames j ≡ Some frame
  pub to : frame.to ≡ name_at names m
  pub events : (shard : ℕ)
      → events_of_frames names m shard number frames ≡ Receive m k ∷ work_events m shard (names_in_body frame.body)
  pub task : task_in names m slot frames ≡ task_of slot frame

pub record NotFound (names : List (List ℕ)) (m number : ℕ) (slot : Option (Option Running)) (frames : List Frame) :
    Type 0 where
  pub none : (frame : Frame) → In frame frames → frame.to ≢ name_at names m
  pub events : (shard : ℕ) → events_of_frames names m shard number frames ≡ []
  pub task : task_in names m slot frames ≡ None

pub find_frame : (names : List (List ℕ)) (m number : ℕ) (slot : Option (Option Running)) (frames : List Frame)
    → Found names m number slot frames ⊎ NotFound names m number slot frames
find_frame names m number slot [] = inr (record { none = λ f i. absurd i; events = λ shard. refl; task = refl })
find_frame names m number slot (frame ∷ frames) =
    go (bytes_eq frame.to (name_at names m)) refl (find_frame names m (suc number) slot frames)
  where
    go : (b : Bool)
        → bytes_eq frame.to (name_at names m) ≡ b
        → Found names m (suc number) slot frames ⊎ NotFound names m (suc number) slot frames
        → Found names m number slot (frame ∷ frames) ⊎ NotFound names m number slot (frame ∷ frames)
    go true e later =
        inl (record {
          j = 0;
          k = number;
          sum = omega arith;
          frame = frame;
          at = refl;
          to = same_bytes frame.to (name_at names m) e;
          events = λ shard.
              ap (λ b.
              cond b (Receive m number ∷ work_events m shard (names_in_body frame.body))
              (events_of_frames names m shard (suc number) frames))
              e;
          task = ap (λ b. cond b (task_of slot frame) (task_in names m slot frames)) e;
        })
    go false e later =
        ⊎_elim (λ (h : Found names m (suc number) slot frames).
        let s = h.sum in
        inl (record {
          j = suc h.j;
          k = h.k;
          sum = omega (arith, s);
          frame = h.frame;
          at = h.at;
          to = h.to;
          events = λ shard.
              ap (λ b.
              cond b (Receive m number ∷ work_events m shard (names_in_body frame.body))
              (events_of_frames names m shard (suc number) frames))
              e
              ∙ h.events shard;
          task = ap (λ b. cond b (task_of slot frame) (task_in names m slot frames)) e ∙ h.task;
        }))
        (λ (h : NotFound names m (suc number) slot frames).
        inr (record {
          none = λ f i.
              ⊎_elim (λ (s : f ≡ frame). λ t.
              true≢false
              (sym ((bytes_eq-Decides frame.to (name_at names m)).1 (sym (ap (λ (x : Frame). x.to) s) ∙ t)) ∙ e))
              (λ (j : In f frames). h.none f j) i;
          events = λ shard.
              ap (λ b.
              cond b (Receive m number ∷ work_events m shard (names_in_body frame.body))
              (events_of_frames names m shard (suc number) frames))
              e
              ∙ h.events shard;
          task = ap (λ b. cond b (task_of slot frame) (task_in names m slot frames)) e ∙ h.task;
        }))
        later

-- it stands among the frames that were sent
pub sent_at : (sent : List RouteFrame) (frames : List Frame) (j k : ℕ) (frame : Frame)
    → slice_get frames j ≡ Some frame
    → k ≡ suc (length sent) + j
    → frame_at k (sent ++ map route.Numbered frames) ≡ Some (route.Numbered frame)
sent_at sent frames j k frame at sum =
    let e : k ≡ suc (length sent + j) = omega (arith, sum) in
    ap (λ x. frame_at x (sent ++ map route.Numbered frames)) e
    ∙ behind sent (map route.Numbered frames) (length sent + j) j refl
    ∙ get_map route.Numbered frames j frame at
  where
    behind : (xs ys : List RouteFrame) (i j : ℕ) → i ≡ length xs + j → slice_get (xs ++ ys) i ≡ slice_get ys j
    behind [] ys i j e = ap (slice_get ys) (omega (arith, e))
    behind (x ∷ xs) ys zero j e = absurd (omega (arith, e))
    behind (x ∷ xs) ys (suc i) j e = behind xs ys i j (omega (arith, e))
