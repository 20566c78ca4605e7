-- A cluster that is settled for a publication.
use Rattle.std.specs.Prelude.{◌≡◌, ◌≢◌, ℕ, ◌<◌, ◌≤◌, true, false, List, [], length, Some, None, slice_get}
use Rattle.list_laws.specs.Lists.{In, Each, Pairs}
use Rattle.sub_table.specs.declared.Subscription.{Subscription}
use Rattle.subj.specs.Messages.{Content}
use Rattle.subj.specs.declared.keys.Key.{Key}
use Rattle.subj.specs.declared.limits.TheConstants.{MAX_COUNTER, MAX_QUEUE_NAMES, ROUTE_FRAMES}
use Rattle.interest.specs.Counts.{told_weight}
use Rattle.interest.specs.Laws.{times}
use Rattle.interest.specs.Views.{View}
use Rattle.hub_core.specs.State.{Peer}
use Rattle.node_law.specs.CountsOpen.{open_keys}
use Rattle.node_law.specs.PeersKept.{KeptAt}
use Rattle.node_law.specs.State.{ShardWithJobs}
use Rattle.world_law.specs.Headline.{EachUp}
use Rattle.world_law.specs.State.{Cluster, World, Running}
use Rattle.settled_law.specs.Room.{HasRoom, IsMember}

-- ---- what a server knows of another one

-- the view has just the keys of the open subscriptions, each with the number of them, and a plain
-- key with 1
pub record Tells (keys : View) (lines : List ShardWithJobs) : Type 0 where
  pub told : (key : Key) (weight : ℕ)
      → In (key, weight) keys
      → (0 < times key (open_keys lines)) × (weight ≡ told_weight key (times key (open_keys lines)))
  pub all : (key : Key)
      → 0 < times key (open_keys lines)
      → In (key, told_weight key (times key (open_keys lines))) keys

-- the other is up at the incarnation that runs, which is the greatest seen of it, and a session
-- with that is kept; its view is that of its open subscriptions; and there is room for a frame
pub record PeerIsSettled (a b : Running) (q : ℕ) : Type 0 where
  pub peer : Peer
  pub at : slice_get a.node.hub.peers q ≡ Some peer
  pub up : peer.up ≡ true
  pub seen : peer.seen ≡ b.inc
  pub session : KeptAt a.node.sessions.standing q b.inc
  pub view : Tells peer.heard.keys b.node.lines
  pub room : length peer.outbox < ROUTE_FRAMES

-- ---- a server of its own

-- no job waits or is in hand, and the hub was told of all
pub record LineIsSettled (line : ShardWithJobs) : Type 0 where
  pub waiting : line.waiting ≡ []
  pub hand : line.shard.hand ≡ None
  pub told : line.shard.deltas ≡ []

-- it does not drain, and one more publication and one more turn can be numbered
pub record NodeIsSettled (a : Running) : Type 0 where
  pub lines : (place : ℕ) (line : ShardWithJobs)
      → slice_get a.node.lines place ≡ Some line
      → LineIsSettled line
  pub lasting : a.node.hub.draining ≡ false
  pub issued : a.node.hub.issued < MAX_COUNTER
  pub published : a.node.hub.published < MAX_COUNTER

-- ---- the whole

-- an open subscription with this queue name matches, somewhere
pub record IsWantedName (w : World) (subject name : List ℕ) : Type 0 where
  pub node : ℕ
  pub a : Running
  pub up : slice_get w.nodes node ≡ Some (Some a)
  pub place : ℕ
  pub line : ShardWithJobs
  pub at : slice_get a.node.lines place ≡ Some line
  pub sub : Subscription
  pub there : In sub line.shard.subs
  pub is : IsMember subject name sub

-- all servers are up and settled, each with each other one
pub record IsQuiet (c : Cluster) (w : World) : Type 0 where
  pub up : (m : ℕ) → m < length c.names → (a : Running) × (slice_get w.nodes m ≡ Some (Some a))
  pub nodes : EachUp (λ n a. NodeIsSettled a) w
  pub peers : (m q : ℕ) (a b : Running)
      → m ≢ q
      → slice_get w.nodes m ≡ Some (Some a)
      → slice_get w.nodes q ≡ Some (Some b)
      → PeerIsSettled a b q

-- and there are not too many queue names that match
pub record IsSettled (c : Cluster) (w : World) (subject : List ℕ) : Type 0 where
  pub quiet : IsQuiet c w
  pub few : (names : List (List ℕ))
      → Pairs (λ x y. x ≢ y) names
      → Each (IsWantedName w subject) names
      → length names ≤ MAX_QUEUE_NAMES

-- each connection has room for the messages of all its open matching subscriptions together
pub record IsRoomy (w : World) (message : Content) : Type 0 where
  pub room : EachUp (λ n a.
      (place : ℕ) (line : ShardWithJobs)
      → slice_get a.node.lines place ≡ Some line
      → HasRoom message line.shard)
      w
