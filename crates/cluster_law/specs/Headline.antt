-- What holds of every world that is reached. Pairs are of an older and a newer entry.
use Rattle.std.specs.Prelude.{◌≡◌, ◌≢◌, ◌⊎◌, ℕ, ◌<◌, ◌≤◌, true, List, [], ◌∷◌, length, slice_get, Option, Some, None}
use Rattle.list_laws.specs.Lists.{In, Each, Pairs, Disjoint}
use Rattle.cluster_law.specs.Names.{Bytes}
use Rattle.cluster_law.specs.Interest.{changes_of, view_after}
use Rattle.cluster_law.specs.Messages.{Publication, Routed, messages}
use Rattle.cluster_law.specs.Config.{Config}
use Rattle.cluster_law.specs.History.{Job, Life, Closing, Placement, History}
use Rattle.cluster_law.specs.Hub.{Peer}
use Rattle.cluster_law.specs.Shard.{Shard}
use Rattle.cluster_law.specs.Node.{Node}
use Rattle.cluster_law.specs.Cluster.{World}

-- The headline ("Queue Groups": one member gets each message; that it gets it once, over all nodes
-- and restarts: profile)

-- Not one publication twice for a plain subscription.
abbrev pub PlainOnce : Placement → Placement → Type 0
PlainOnce p q = p.mode ≡ None → p.id ≡ q.id → p.life ≡ q.life → ⊥

-- Not one publication twice for a queue name, over all nodes, incarnations and members.
abbrev pub OneMember : Placement → Placement → Type 0
OneMember p q = (name : Bytes) → p.id ≡ q.id → p.mode ≡ Some name → q.mode ≡ Some name → ⊥

-- Of one subscription, the publications of one origin incarnation come in strictly rising number.
abbrev pub InOrder : Placement → Placement → Type 0
InOrder p q =
    p.life ≡ q.life → p.id.origin ≡ q.id.origin → p.id.inc ≡ q.id.inc → p.id.number < q.id.number

-- It is the content of a publication of an earlier step.
pub record IsPublished (publications : List Publication) (p : Placement) : Type 0 where
  pub source : Publication
  pub source_in : In source publications
  pub id : source.id ≡ p.id
  pub content : source.content ≡ p.content
  pub earlier : source.step < p.step

-- Its subscription, of that connection, sid and queue name, was opened before and not closed
-- before, and its pattern matches.
pub record IsOwed (c : Config) (lives : List Life) (closings : List Closing) (p : Placement) :
    Type 0 where
  pub life : Life
  pub life_in : In life lives
  pub id : life.id ≡ p.life
  pub connection : life.connection ≡ p.connection
  pub sid : life.sid ≡ p.sid
  pub mode : life.queue ≡ p.mode
  pub opened : life.opened < p.step
  pub still : Each (λ x. x.life ≡ p.life → p.step ≤ x.step) closings
  pub matches : c.matches life.pattern p.content.subject ≡ true

pub record Headline (c : Config) (past : History) : Type 0 where
  pub plain_once : Pairs PlainOnce past.placements
  pub one_member : Pairs OneMember past.placements
  pub published : Each (IsPublished past.publications) past.placements
  pub owed : Each (IsOwed c past.lives past.closings) past.placements
  pub in_order : Pairs InOrder past.placements

-- What it rests on

-- Publications and subscriptions have names of their own, and a subscription that closed was opened
-- before and closes once.
abbrev pub IsClosing : List Life → Closing → Type 0
IsClosing lives x = (life : Life) × In life lives × (life.id ≡ x.life) × (life.opened < x.step)

pub record Unique (past : History) : Type 0 where
  pub publications : Pairs (λ p q. p.id ≢ q.id) past.publications
  pub lives : Pairs (λ l m. l.id ≢ m.id) past.lives
  pub closings : Pairs (λ x y. x.life ≢ y.life) past.closings
  pub opened : Each (IsClosing past.lives) past.closings

-- A publication has one frame for a peer at most, and no queue name stands in two of its frames.
abbrev pub OneFrame : Routed → Routed → Type 0
OneFrame f g = f.id ≡ g.id → (f.to ≢ g.to) × Disjoint f.names g.names

-- Nor in a frame and the job at its own node.
abbrev pub IsSplitFrom : Job → Routed → Type 0
IsSplitFrom j f = j.node ≡ j.id.origin → f.id ≡ j.id → Disjoint f.names j.names

-- It makes one job at most at a node, over all its incarnations.
abbrev pub AcceptedOnce : Job → Job → Type 0
AcceptedOnce i j = i.id ≡ j.id → (i.node ≢ j.node) × Disjoint i.names j.names

pub record Routing (c : Config) (past : History) : Type 0 where
  pub one_frame : Pairs OneFrame (messages past.sent)
  pub split : Each (λ j. Each (IsSplitFrom j) (messages past.sent)) past.jobs
  pub accepted_once : Pairs AcceptedOnce past.jobs
  pub few_in_frame : Each (λ f. length f.names ≤ c.queue_names) (messages past.sent)
  pub few_in_job : Each (λ j. length j.names ≤ c.queue_names) past.jobs

-- The job in hand, and those that wait.
abbrev pub in_line : Option Job → List Job → List Job
in_line None waiting = waiting
in_line (Some job) waiting = job ∷ waiting

-- Each job stands there once, in order of turns, and none of a finished turn.
pub record IsLine (shard : Shard) : Type 0 where
  pub rising : Pairs (λ i j. i.turn < j.turn) (in_line shard.hand shard.waiting)
  pub unfinished : Each (λ j. shard.finished < j.turn) (in_line shard.hand shard.waiting)

-- Of each node that is up, each shard is so.
abbrev pub EachShard : (Shard → Type 0) → World → Type 0
EachShard P w =
    (n : ℕ) (a : Node)
    → slice_get w.nodes n ≡ Some a
    → a.up ≡ true
    → (s : ℕ) (shard : Shard)
    → slice_get a.shards s ≡ Some shard
    → P shard

-- The view that is kept of an origin is that of the incarnation seen (one that was started, or 0
-- and nothing), after as many changes as its mark says, which that incarnation made.
pub record IsView (c : Config) (past : History) (origin : ℕ) (p : Peer) : Type 0 where
  pub seen : (p.seen ≡ 0) ⊎ In (origin, p.seen) past.started
  pub reached : p.heard ≤ length (changes_of past.changes origin p.seen)
  pub view : p.view ≡ view_after c.follow (changes_of past.changes origin p.seen) p.heard []

abbrev pub EachView : Config → World → Type 0
EachView c w =
    (n : ℕ) (a : Node)
    → slice_get w.nodes n ≡ Some a
    → a.up ≡ true
    → (origin : ℕ) (p : Peer)
    → slice_get a.hub.peers origin ≡ Some p
    → IsView c w.past origin p
