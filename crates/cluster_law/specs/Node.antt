-- A node: the steps of its parts, put together. Node n, with state a, makes step now, and its state
-- is then b.
use Rattle.std.specs.Prelude.{◌≡◌, ℕ, suc, Bool, List, [], ◌∷◌, ◌++◌, map, set, slice_get, Some}
use Rattle.cluster_law.specs.Names.{Bytes, PubId}
use Rattle.cluster_law.specs.Interest.{Change, Noted}
use Rattle.cluster_law.specs.Messages.{Content, Publication, Routed, News, Frame, Message, Interest, Greeting}
use Rattle.cluster_law.specs.Config.{Config, Rules}
use Rattle.cluster_law.specs.History.{Job, Output, nothing}
use Rattle.cluster_law.specs.Hub.{Hub, HubPublishes, HubReceives, HubHears, HubMeets, HubAnnounces, IsTold, next_id}
use Rattle.cluster_law.specs.Race.{Race, Issues}
use Rattle.cluster_law.specs.Shard.{Shard, ShardEvent, ShardStep}
use Rattle.list_laws.specs.Lists.{Each}

pub record Node : Type 0 where
  pub up : Bool
  pub inc : ℕ
  pub hub : Hub
  pub race : Race
  pub shards : List Shard

abbrev pub finished_turns : List Shard → List ℕ
finished_turns shards = map (λ (shard : Shard). shard.finished) shards

-- Each shard's line gets the job, at its end.
abbrev pub shard_with_job : Job → Shard → Shard
shard_with_job job shard = record shard { waiting = shard.waiting ++ job ∷ [] }

abbrev pub next_publication : ℕ → ℕ → Node → Content → Publication
next_publication n now a content = record {
  id = next_id n a.inc a.hub;
  content = content;
  step = now;
}

abbrev pub next_job : ℕ → Node → PubId → Content → List Bytes → Job
next_job n a id content names = record {
  node = n;
  inc = a.inc;
  turn = suc a.race.issued;
  id = id;
  content = content;
  names = names;
}

-- A publish: the hub splits it, the race gives the job its turn, and each shard's line gets the
-- job.
pub record Publishes (rules : Rules) (c : Config) (n now : ℕ) (a : Node) (content : Content)
    (out : Output) (b : Node) : Type 0 where
  pub names : List Bytes
  pub frames : List Routed
  pub hub : Hub
  pub race : Race
  pub publishes : HubPublishes rules c n a.hub (next_publication n now a content) names frames hub
  pub issues : Issues rules c.window (finished_turns a.shards) a.race race
  pub out_is : out ≡ record nothing {
    publications = next_publication n now a content ∷ [];
    frames = map Message frames;
    jobs = next_job n a (next_id n a.inc a.hub) content names ∷ [];
  }
  pub after : b ≡ record a {
    hub = hub;
    race = race;
    shards = map (shard_with_job (next_job n a (next_id n a.inc a.hub) content names)) a.shards;
  }

-- A routed message is taken: the same for this node alone, and it is sent to nobody else ("Cluster
-- Protocol": one hop).
pub record Receives (rules : Rules) (c : Config) (n : ℕ) (a : Node) (m : Routed) (out : Output)
    (b : Node) : Type 0 where
  pub hub : Hub
  pub race : Race
  pub receives : HubReceives rules n a.inc a.hub m hub
  pub issues : Issues rules c.window (finished_turns a.shards) a.race race
  pub out_is : out ≡ record nothing { jobs = next_job n a m.id m.content m.names ∷ [] }
  pub after : b ≡ record a {
    hub = hub;
    race = race;
    shards = map (shard_with_job (next_job n a m.id m.content m.names)) a.shards;
  }

-- News of interest are taken.
pub record Hears (rules : Rules) (c : Config) (n : ℕ) (a : Node) (t : News) (out : Output)
    (b : Node) : Type 0 where
  pub hub : Hub
  pub hears : HubHears rules c n a.inc a.hub t hub
  pub out_is : out ≡ nothing
  pub after : b ≡ record a { hub = hub }

-- A session is completed: it may be answered by a greeting and a snapshot.
pub record Meets (rules : Rules) (n : ℕ) (a : Node) (origin inc : ℕ) (out : Output) (b : Node) :
    Type 0 where
  pub hub : Hub
  pub meets : HubMeets rules n a.hub origin inc hub
  pub frames : List Frame
  pub told : Each (IsTold n a.inc a.hub [] a.hub) frames
  pub out_is : out ≡ record nothing { frames = frames }
  pub after : b ≡ record a { hub = hub }

abbrev pub note_of : ℕ → ℕ → Change → Noted
note_of n inc change = record { node = n; inc = inc; change = change }

-- Changes of interest are collected, or a session is greeted, or a peer gets a snapshot.
pub record Announces (c : Config) (n : ℕ) (a : Node) (changes : List Change) (out : Output)
    (b : Node) : Type 0 where
  pub hub : Hub
  pub frames : List Frame
  pub announces : HubAnnounces c n a.inc a.hub changes frames hub
  pub out_is : out ≡ record nothing { frames = frames; changes = map (note_of n a.inc) changes }
  pub after : b ≡ record a { hub = hub }

-- An event of one shard.
pub record AtShard (rules : Rules) (c : Config) (n now s : ℕ) (a : Node) (e : ShardEvent)
    (out : Output) (b : Node) : Type 0 where
  pub old : Shard
  pub old_is : slice_get a.shards s ≡ Some old
  pub new : Shard
  pub race : Race
  pub steps : ShardStep rules c n a.inc now s a.race old e out new race
  pub after : b ≡ record a { race = race; shards = set a.shards s new }

pub data NodeEvent : Type 0 where
  Publish : (content : Content) → NodeEvent
  Receive : (frame : Frame) → NodeEvent
  Announce : (changes : List Change) → NodeEvent
  OnShard : (shard : ℕ) (event : ShardEvent) → NodeEvent

abbrev pub NodeStep : Rules → Config → ℕ → ℕ → Node → NodeEvent → Output → Node → Type 0
NodeStep rules c n now a (Publish content) out b = Publishes rules c n now a content out b
NodeStep rules c n now a (Receive (Message m)) out b = Receives rules c n a m out b
NodeStep rules c n now a (Receive (Interest t)) out b = Hears rules c n a t out b
NodeStep rules c n now a (Receive (Greeting origin inc)) out b = Meets rules n a origin inc out b
NodeStep rules c n now a (Announce changes) out b = Announces c n a changes out b
NodeStep rules c n now a (OnShard s e) out b = AtShard rules c n now s a e out b
