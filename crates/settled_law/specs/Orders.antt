-- Orders of work: each frame of a publication comes to its server once, and each shard works off
-- the job that its server makes of it.
use Rattle.std.specs.Prelude.{◌≡◌, ℕ, zero, suc, ◌<◌, Bool, true, false, ◌&&◌, nat_eq, List, [], ◌∷◌, ◌++◌, length, filter, if◌then◌else◌}
use Rattle.std.specs.Str.{bytes_eq}
use Rattle.list_laws.specs.Lists.{Each}
use Rattle.subj.specs.Servers.{name_at}
use Rattle.route_values.specs.Frames.{Frame}
use Rattle.route_values.specs.declared.bodies.Body.{Body}
use Rattle.route_values.specs.declared.bodies.Body.TheVariants.{Plus, Minus, Snapshot, Msg}
use Rattle.hub_core.specs.Publishing as hub
use Rattle.hub_core.specs.Publishing.{own_job, frames_of}
use Rattle.node_law.specs.declared.events.ShardWork.TheVariants.{Begin, Claim, End}
use Rattle.node_law.specs.Events.{OwnEvent, OfConn, AtShard, Publish, Collect, Drain, Dial, Accept, CutSession, TakeFrames}
use Rattle.world_law.specs.Events.{Event, Start, Stop, Receive, OnInfo, OnConnect, At}
use Rattle.world_law.specs.State.{Cluster, World, Running, server_at}

-- ---- the events of one line: a frame that comes to its server, and the work of its shard

abbrev pub is_work_of : ℕ → OwnEvent → Bool
is_work_of shard (OfConn conn event) = false
is_work_of shard (AtShard other work) = nat_eq other shard
is_work_of shard (Publish p) = false
is_work_of shard (Collect other) = false
is_work_of shard Drain = false
is_work_of shard (Dial q) = false
is_work_of shard Accept = false
is_work_of shard (CutSession session) = false
is_work_of shard (TakeFrames q count) = false

abbrev pub is_for : ℕ → ℕ → Event → Bool
is_for n shard (Start m inc) = false
is_for n shard (Stop m) = false
is_for n shard (Receive m k) = nat_eq m n
is_for n shard (OnInfo m session k) = false
is_for n shard (OnConnect m session k) = false
is_for n shard (At m event) = nat_eq m n && is_work_of shard event

-- the Claims from this index on, so many, by rising index, and the End
abbrev pub claims_from : ℕ → ℕ → ℕ → ℕ → List Event
claims_from n shard index zero = At n (AtShard shard End) ∷ []
claims_from n shard index (suc left) =
    At n (AtShard shard (Claim index)) ∷ claims_from n shard (suc index) left

-- the work of a shard on a job of so many queue names
abbrev pub work_events : ℕ → ℕ → ℕ → List Event
work_events n shard names = At n (AtShard shard Begin) ∷ claims_from n shard 0 names

abbrev pub names_in_body : Body → ℕ
names_in_body (Plus weighted) = 0
names_in_body (Minus key) = 0
names_in_body (Snapshot keys) = 0
names_in_body (Msg content queues) = length queues

-- the first of these frames that is for the server comes, and its job is worked off; the first
-- frame has this number
abbrev pub events_of_frames : List (List ℕ) → ℕ → ℕ → ℕ → List Frame → List Event
events_of_frames names m shard number [] = []
events_of_frames names m shard number (frame ∷ frames) =
    if bytes_eq frame.to (name_at names m)
    then Receive m number ∷ work_events m shard (names_in_body frame.body)
    else events_of_frames names m shard (suc number) frames

-- what is to be done of a publication of the server at place n, for this shard of the server at
-- place m
abbrev pub line_events : Cluster → World → ℕ → Running → hub.Publication → ℕ → ℕ → List Event
line_events c w n a p m shard =
    if nat_eq m n
    then work_events m shard (length (own_job (server_at c n a.inc) a.node.hub p).queues)
    else events_of_frames c.names m shard (suc (length w.sent))
    (frames_of (server_at c n a.inc) a.node.hub p)

-- it is an event of a line
pub record HasLine (c : Cluster) (e : Event) : Type 0 where
  pub node : ℕ
  pub place : ℕ
  pub listed : node < length c.names
  pub shard : place < c.shards
  pub is : is_for node (suc place) e ≡ true

-- of each line just the events that are to be done, in order; lines otherwise in any order
pub record IsOrder (c : Cluster) (w : World) (n : ℕ) (a : Running) (p : hub.Publication)
    (order : List Event) : Type 0 where
  pub lines : (m place : ℕ)
      → m < length c.names
      → place < c.shards
      → filter (is_for m (suc place)) order ≡ line_events c w n a p m (suc place)
  pub only : Each (HasLine c) order

-- ---- an order that is right: server by server, and shard by shard

-- the work of so many shards, from this place on
abbrev pub works_from : ℕ → ℕ → ℕ → ℕ → List Event
works_from n place zero names = []
works_from n place (suc count) names =
    work_events n (suc place) names ++ works_from n (suc place) count names

abbrev pub frames_order : List (List ℕ) → ℕ → ℕ → ℕ → List Frame → List Event
frames_order names m shards number [] = []
frames_order names m shards number (frame ∷ frames) =
    if bytes_eq frame.to (name_at names m)
    then Receive m number ∷ works_from m 0 shards (names_in_body frame.body)
    else frames_order names m shards (suc number) frames

abbrev pub node_order : Cluster → World → ℕ → Running → hub.Publication → ℕ → List Event
node_order c w n a p m =
    if nat_eq m n
    then works_from m 0 c.shards (length (own_job (server_at c n a.inc) a.node.hub p).queues)
    else frames_order c.names m c.shards (suc (length w.sent))
    (frames_of (server_at c n a.inc) a.node.hub p)

-- of so many servers, from the one at place m on
abbrev pub nodes_order : Cluster → World → ℕ → Running → hub.Publication → ℕ → ℕ → List Event
nodes_order c w n a p m zero = []
nodes_order c w n a p m (suc count) = node_order c w n a p m ++ nodes_order c w n a p (suc m) count

abbrev pub whole_order : Cluster → World → ℕ → Running → hub.Publication → List Event
whole_order c w n a p = nodes_order c w n a p 0 (length c.names)

abbrev pub SomeOrderIsRight : Type 0
SomeOrderIsRight =
    (c : Cluster) (w : World) (n : ℕ) (a : Running) (p : hub.Publication)
    → 0 < c.shards
    → IsOrder c w n a p (whole_order c w n a p)
