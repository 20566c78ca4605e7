-- Lives and open subscriptions: a life that has not closed is a subscription that is open, and it
-- closes with a cause.
use Rattle.std.specs.Prelude.{◌≡◌, ◌↔◌, ℕ, true, false, List, Option, Some, None, slice_get}
use Rattle.list_laws.specs.Lists.{In, Each}
use Rattle.sub_table.specs.declared.Subscription.{Subscription}
use Rattle.shard_core.specs.Causes.{HasCause}
use Rattle.shard_core.specs.Closings.{id_of}
use Rattle.node_law.specs.AsLaw.{Part, part_of}
use Rattle.node_law.specs.Events.{NodeEvent}
use Rattle.node_law.specs.State.{ShardWithJobs}
use Rattle.world_law.specs.Changes.{is_open}
use Rattle.world_law.specs.Events.{Event}
use Rattle.world_law.specs.Headline.{IsCluster}
use Rattle.world_law.specs.Outcomes.{Outcome}
use Rattle.world_law.specs.State.{Cluster, Life, Running, World, new_world, server_at}
use Rattle.world_law.specs.Steps.{Acts, Starts, Stops, Run}

-- a life is this subscription of the shard of this line, at the server of this place in this
-- incarnation
pub record IsSub (n inc : ℕ) (line : ShardWithJobs) (sub : Subscription) (l : Life) : Type 0 where
  pub id : l.id ≡ record { node = n; inc = inc; sub = id_of line.shard.shard sub.serial }
  pub conn : l.conn ≡ sub.conn
  pub key : l.key ≡ sub.key
  pub sid : l.sid ≡ sub.sid

-- it is open: its server is up in its incarnation, and one of its shards has it
pub record IsOpenLife (w : World) (l : Life) : Type 0 where
  pub a : Running
  pub up : slice_get w.nodes l.id.node ≡ Some (Some a)
  pub place : ℕ
  pub line : ShardWithJobs
  pub at : slice_get a.node.lines place ≡ Some line
  pub sub : Subscription
  pub there : In sub line.shard.subs
  pub is : IsSub l.id.node a.inc line sub l

-- in each world that a run reaches each life that has not closed is an open subscription
abbrev pub LivesAreOpen : Type 0
LivesAreOpen =
    (c : Cluster)
    → IsCluster c
    → (events : List Event) (w : World)
    → Run c (new_world c) events w
    → Each (λ l. l.closed ≡ None → IsOpenLife w l) w.lives

-- ---- why it closes: the event is one of its shard and a cause for its subscription

abbrev pub IsCaused : Option Part → ℕ → Subscription → Type 0
IsCaused None place sub = ⊥
IsCaused (Some part) place sub = (part.place ≡ place) × HasCause part.line.shard part.event sub

-- a step of a server closes just those lives that the event is a cause for; with a server that
-- stops all of its lives close; a server that starts closes none, and nor does an event that is
-- refused, which leaves the servers as they were
pub record LivesClose (c : Cluster) (w : World) (l : Life) (open_life : IsOpenLife w l) :
    Type 0 where
  pub before : is_open w.nodes l.id ≡ true
  pub acts : (n : ℕ) (event : Option NodeEvent) (told : Outcome) (w' : World)
      (s : Acts c w n event told w')
      → (is_open w'.nodes l.id ≡ false)
      ↔ ((l.id.node ≡ n)
      × IsCaused (part_of (server_at c n s.a.inc) s.a.node s.e s.won) open_life.place open_life.sub)
  pub stops : (n : ℕ) (told : Outcome) (w' : World)
      → Stops w n told w'
      → (is_open w'.nodes l.id ≡ false) ↔ (l.id.node ≡ n)
  pub starts : (n inc : ℕ) (told : Outcome) (w' : World)
      → Starts c w n inc told w'
      → is_open w'.nodes l.id ≡ true

abbrev pub LivesCloseByCause : Type 0
LivesCloseByCause =
    (c : Cluster)
    → IsCluster c
    → (events : List Event) (w : World)
    → Run c (new_world c) events w
    → (l : Life) (open_life : IsOpenLife w l)
    → LivesClose c w l open_life
