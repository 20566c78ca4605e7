-- What holds of each world that is reached. Each clause speaks of one node and the histories, or of two entries of one
-- history.
use Rattle.std.specs.Prelude.{◌≡◌, ◌≢◌, ◌⊎◌, ℕ, suc, ◌+◌, ◌<◌, ◌≤◌, true, List, [], length, slice_get, Option, Some, None}
use Rattle.list_laws.specs.Lists.{In, Each, Pairs, NoRepeat, Disjoint}
use Rattle.cluster_law.specs.Names.{Bytes, PubId}
use Rattle.cluster_law.specs.Interest.{View, Change, Noted, changes_of, view_after}
use Rattle.cluster_law.specs.Messages.{Content, Publication, Routed, Body, Changed, Snapshot, Frame, Message, Interest, Greeting, messages}
use Rattle.cluster_law.specs.Config.{Config}
use Rattle.cluster_law.specs.History.{Job, Life, Closing, Placement, History}
use Rattle.cluster_law.specs.Hub.{Peer, Hub}
use Rattle.cluster_law.specs.Race.{Race}
use Rattle.cluster_law.specs.Shard.{Subscription, Shard, life_id}
use Rattle.cluster_law.specs.Node.{Node}
use Rattle.cluster_law.specs.Cluster.{World}
use Rattle.cluster_law.specs.Headline.{InOrder, OneMember, IsPublished, IsOwed, IsClosing, IsView}

-- Publications, messages and jobs

pub record HasPublication (publications : List Publication) (id : PubId) (content : Content) : Type 0 where
  pub source : Publication
  pub source_in : In source publications
  pub source_id : source.id ≡ id
  pub source_content : source.content ≡ content

pub record RoutedOk (limit : ℕ) (publications : List Publication) (f : Routed) : Type 0 where
  pub published : HasPublication publications f.id f.content
  pub once : NoRepeat f.names
  pub few : length f.names ≤ limit

-- older and newer
pub record RoutedApart (f g : Routed) : Type 0 where
  pub other : f.id ≡ g.id → f.to ≢ g.to
  pub names : f.id ≡ g.id → Disjoint f.names g.names

-- a job of the node that accepted the publication
pub record Local (sent : List Routed) (j : Job) : Type 0 where
  pub node : j.id.origin ≡ j.node
  pub inc : j.id.inc ≡ j.inc
  pub names : Each (λ f. f.id ≡ j.id → Disjoint f.names j.names) sent

-- a job of a node that took a frame
pub record Remote (sent : List Routed) (j : Job) : Type 0 where
  pub other : j.id.origin ≢ j.node
  pub frame : Routed
  pub frame_in : In frame sent
  pub id : frame.id ≡ j.id
  pub to : frame.to ≡ j.node
  pub to_inc : frame.to_inc ≡ j.inc
  pub names : frame.names ≡ j.names

pub record JobOk (limit : ℕ) (publications : List Publication) (starts : List (ℕ × ℕ)) (sent : List Routed) (j : Job) :
    Type 0 where
  pub published : HasPublication publications j.id j.content
  pub once : NoRepeat j.names
  pub few : length j.names ≤ limit
  pub started : In (j.node, j.inc) starts
  pub source : Local sent j ⊎ Remote sent j

-- older and newer
pub record JobsApart (i j : Job) : Type 0 where
  pub turn : i.node ≡ j.node → i.inc ≡ j.inc → i.turn < j.turn
  pub number : i.node ≡ j.node
      → i.inc ≡ j.inc
      → i.id.origin ≡ j.id.origin
      → i.id.inc ≡ j.id.inc
      → i.id.number < j.id.number
  pub names : i.id ≡ j.id → Disjoint i.names j.names
  pub node : i.id ≡ j.id → i.node ≢ j.node

pub record PublicationOk (starts : List (ℕ × ℕ)) (step : ℕ) (p : Publication) : Type 0 where
  pub started : In (p.id.origin, p.id.inc) starts
  pub before : p.step ≤ step

abbrev pub Passed : Peer → PubId → Type 0
Passed p id = (id.inc < p.seen) ⊎ ((id.inc ≡ p.seen) × (id.number ≤ p.mark))

-- of a node that is up
pub record HubIs (starts : List (ℕ × ℕ)) (publications : List Publication) (jobs : List Job) (n inc : ℕ) (hub : Hub)
    (issued : ℕ) : Type 0 where
  pub started : In (n, inc) starts
  pub numbers : Each (λ p. p.id.origin ≡ n → p.id.inc ≡ inc → p.id.number ≤ hub.published) publications
  pub turns : Each (λ j. j.node ≡ n → j.inc ≡ inc → j.turn ≤ issued) jobs
  pub marks : (o : ℕ) (p : Peer)
      → slice_get hub.peers o ≡ Some p
      → Each (λ j. j.node ≡ n → j.inc ≡ inc → o ≢ n → j.id.origin ≡ o → Passed p j.id) jobs

abbrev pub HubOk : World → ℕ → Node → Type 0
HubOk w n a = HubIs w.past.started w.past.publications w.past.jobs n a.inc a.hub a.race.issued

pub record Hubs (limit : ℕ) (w : World) : Type 0 where
  pub publications : Each (PublicationOk w.past.started w.step) w.past.publications
  pub frames : Each (RoutedOk limit w.past.publications) (messages w.past.sent)
  pub jobs : Each (JobOk limit w.past.publications w.past.started (messages w.past.sent)) w.past.jobs
  pub ids : Pairs (λ p q. p.id ≢ q.id) w.past.publications
  pub frames_apart : Pairs RoutedApart (messages w.past.sent)
  pub jobs_apart : Pairs JobsApart w.past.jobs
  pub nodes : (n : ℕ) (a : Node) → slice_get w.nodes n ≡ Some a → a.up ≡ true → HubOk w n a

-- Subscriptions and placements

-- the job that a placement was made for
pub record ForJob (jobs : List Job) (p : Placement) : Type 0 where
  pub job : Job
  pub job_in : In job jobs
  pub node : job.node ≡ p.life.node
  pub inc : job.inc ≡ p.life.inc
  pub id : job.id ≡ p.id
  pub named : (name : Bytes) → p.mode ≡ Some name → In name job.names

pub record IsPlaced (c : Config) (step : ℕ) (publications : List Publication) (jobs : List Job) (lives : List Life)
    (closings : List Closing) (p : Placement) : Type 0 where
  pub for_job : ForJob jobs p
  pub published : IsPublished publications p
  pub owed : IsOwed c lives closings p
  pub before : p.step ≤ step

abbrev pub PlacedOk : Config → World → Placement → Type 0
PlacedOk c w p = IsPlaced c w.step w.past.publications w.past.jobs w.past.lives w.past.closings p

pub record LifeOk (starts : List (ℕ × ℕ)) (step : ℕ) (l : Life) : Type 0 where
  pub started : In (l.id.node, l.id.inc) starts
  pub before : l.opened ≤ step

pub record ClosingOk (starts : List (ℕ × ℕ)) (lives : List Life) (x : Closing) : Type 0 where
  pub started : In (x.life.node, x.life.inc) starts
  pub opened : IsClosing lives x

-- an open subscription
pub record SubscriptionOk (lives : List Life) (closings : List Closing) (n inc s : ℕ) (u : Subscription) : Type 0 where
  pub life : Life
  pub life_in : In life lives
  pub id : life.id ≡ life_id n inc s u.serial
  pub connection : life.connection ≡ u.connection
  pub sid : life.sid ≡ u.sid
  pub pattern : life.pattern ≡ u.pattern
  pub queue : life.queue ≡ u.queue
  pub still : Each (λ x. x.life ≢ life_id n inc s u.serial) closings

-- the last turn begun
abbrev pub begun : Option Job → ℕ → ℕ
begun None finished = finished
begun (Some j) finished = suc finished

abbrev pub IsMine : List Job → ℕ → ℕ → Job → Type 0
IsMine jobs n inc j = In j jobs × (j.node ≡ n) × (j.inc ≡ inc)

-- the job in hand and those that wait: each turn once, and none again
pub record LineIs (jobs : List Job) (n inc issued finished : ℕ) (hand : Option Job) (waiting : List Job) : Type 0 where
  pub in_hand : (h : Job) → hand ≡ Some h → IsMine jobs n inc h × (h.turn ≡ suc finished)
  pub mine : Each (IsMine jobs n inc) waiting
  pub line : Pairs (λ i j. i.turn < j.turn) waiting
  pub ahead : Each (λ j. begun hand finished < j.turn) waiting
  pub within : Each (λ j. j.turn ≤ issued) waiting
  pub reached : begun hand finished ≤ issued

-- what the histories say of a shard
pub record ShardIs (window : ℕ) (jobs : List Job) (lives : List Life) (closings : List Closing)
    (placements : List Placement) (n inc issued : ℕ) (s : ℕ) (sh : Shard) : Type 0 where
  pub line : LineIs jobs n inc issued sh.finished sh.hand sh.waiting
  pub room : issued ≤ sh.finished + window
  pub begun_all : (j : Job) (p : Placement)
      → In j jobs
      → In p placements
      → j.node ≡ n
      → j.inc ≡ inc
      → p.life.node ≡ n
      → p.life.inc ≡ inc
      → p.life.shard ≡ s
      → p.id ≡ j.id
      → j.turn ≤ begun sh.hand sh.finished
  pub serials : Each (λ l. l.id.node ≡ n → l.id.inc ≡ inc → l.id.shard ≡ s → l.id.serial ≤ sh.serials) lives
  pub closed : Each (λ x. x.life.node ≡ n → x.life.inc ≡ inc → x.life.shard ≡ s → x.life.serial ≤ sh.serials) closings
  pub subscriptions : Each (SubscriptionOk lives closings n inc s) sh.subscriptions
  pub apart : Pairs (λ u v. u.serial ≢ v.serial) sh.subscriptions

abbrev pub ShardOk : Config → World → ℕ → ℕ → ℕ → ℕ → Shard → Type 0
ShardOk c w n inc issued s sh =
    ShardIs c.window w.past.jobs w.past.lives w.past.closings w.past.placements n inc issued s sh

-- what was placed for a queue name, was won: over the window
abbrev pub WonAll : ℕ → List Job → List Placement → ℕ → ℕ → ℕ → List (ℕ × ℕ) → Type 0
WonAll window jobs placements n inc issued won =
    (j : Job) (p : Placement) (x : ℕ) (q : Bytes)
    → In j jobs
    → In p placements
    → j.node ≡ n
    → j.inc ≡ inc
    → p.life.node ≡ n
    → p.life.inc ≡ inc
    → p.id ≡ j.id
    → p.mode ≡ Some q
    → slice_get j.names x ≡ Some q
    → issued < j.turn + window
    → In (j.turn, x) won

pub record NodeIs (window : ℕ) (jobs : List Job) (lives : List Life) (closings : List Closing)
    (placements : List Placement) (n inc : ℕ) (race : Race) (held : List Shard) : Type 0 where
  pub shards : (s : ℕ) (sh : Shard)
      → slice_get held s ≡ Some sh
      → ShardIs window jobs lives closings placements n inc race.issued s sh
  pub won : WonAll window jobs placements n inc race.issued race.won

abbrev pub NodeOk : Config → World → ℕ → Node → Type 0
NodeOk c w n a = NodeIs c.window w.past.jobs w.past.lives w.past.closings w.past.placements n a.inc a.race a.shards

pub record Rest (c : Config) (w : World) : Type 0 where
  pub placed : Each (PlacedOk c w) w.past.placements
  pub lives : Each (LifeOk w.past.started w.step) w.past.lives
  pub closings : Each (ClosingOk w.past.started w.past.lives) w.past.closings
  pub life_ids : Pairs (λ l m. l.id ≢ m.id) w.past.lives
  pub closed_once : Pairs (λ x y. x.life ≢ y.life) w.past.closings
  pub in_order : Pairs InOrder w.past.placements
  pub one_member : Pairs OneMember w.past.placements
  pub nodes : (n : ℕ) (a : Node) → slice_get w.nodes n ≡ Some a → a.up ≡ true → NodeOk c w n a

-- Interest

-- what was told is so in its origin's changes
abbrev pub Told : (Change → View → View) → List Change → ℕ → Body → Type 0
Told follow changes number (Changed change) = (m : ℕ) × (number ≡ suc m) × (slice_get changes m ≡ Some change)
Told follow changes number (Snapshot view) = (number ≤ length changes) × (view ≡ view_after follow changes number [])

abbrev pub FrameOk : Config → List (ℕ × ℕ) → List Noted → Frame → Type 0
FrameOk c starts changes (Message m) = Unit {0}
FrameOk c starts changes (Interest t) =
    In (t.origin, t.inc) starts × Told c.follow (changes_of changes t.origin t.inc) t.number t.body
FrameOk c starts changes (Greeting origin inc) = In (origin, inc) starts

pub record InterestIs (c : Config) (past : History) (n inc : ℕ) (hub : Hub) : Type 0 where
  pub started : In (n, inc) past.started
  pub changed : hub.changed ≡ length (changes_of past.changes n inc)
  pub interest : hub.interest ≡ view_after c.follow (changes_of past.changes n inc) hub.changed []
  pub peers : (o : ℕ) (p : Peer) → slice_get hub.peers o ≡ Some p → IsView c past o p

pub record Interests (c : Config) (w : World) : Type 0 where
  pub changes : Each (λ x. In (x.node, x.inc) w.past.started) w.past.changes
  pub frames : Each (FrameOk c w.past.started w.past.changes) w.past.sent
  pub nodes : (n : ℕ) (a : Node) → slice_get w.nodes n ≡ Some a → a.up ≡ true → InterestIs c w.past n a.inc a.hub

pub record Holds (c : Config) (w : World) : Type 0 where
  pub hubs : Hubs c.queue_names w
  pub rest : Rest c w
  pub interests : Interests c w
