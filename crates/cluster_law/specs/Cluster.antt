-- The cluster (profile): nodes that start and stop, and frames that were sent and are handed over
-- at any time, any number of times, or never.
use Rattle.std.specs.Prelude.{◌≡◌, ◌⊎◌, ℕ, suc, ◌<◌, true, false, List, [], ◌∷◌, ◌++◌, map, set, replicate, slice_get, Some, None}
use Rattle.list_laws.specs.Lists.{In}
use Rattle.cluster_law.specs.Rules.{Where}
use Rattle.cluster_law.specs.Messages.{Frame}
use Rattle.cluster_law.specs.Config.{Config, Rules}
use Rattle.cluster_law.specs.History.{Closing, History, Output, nothing, history_with}
use Rattle.cluster_law.specs.Hub.{new_peer}
use Rattle.cluster_law.specs.Shard.{Subscription, Shard, closings_of}
use Rattle.cluster_law.specs.Node.{Node, NodeEvent, Publish, Receive, Announce, OnShard, NodeStep}

-- The number of steps made, counted from 1, and what was done in them. A node that is down keeps
-- its place.
pub record World : Type 0 where
  pub nodes : List Node
  pub step : ℕ
  pub past : History

abbrev pub new_shard : Shard
new_shard = record {
  finished = 0;
  hand = None;
  next = 0;
  waiting = [];
  serials = 0;
  subscriptions = [];
}

-- A node just started knows nothing.
abbrev pub new_node : Config → ℕ → Node
new_node c inc = record {
  up = true;
  inc = inc;
  hub = record {
    published = 0;
    changed = 0;
    interest = [];
    peers = replicate c.nodes (new_peer 0);
  };
  race = record { issued = 0; won = [] };
  shards = replicate c.shards new_shard;
}

-- A node that is down.
abbrev pub no_node : Node
no_node = record {
  up = false;
  inc = 0;
  hub = record { published = 0; changed = 0; interest = []; peers = [] };
  race = record { issued = 0; won = [] };
  shards = [];
}

-- No node is up, and nothing was done.
abbrev pub begin : Config → World
begin c = record {
  nodes = replicate c.nodes no_node;
  step = 0;
  past = record {
    started = [];
    publications = [];
    sent = [];
    changes = [];
    jobs = [];
    lives = [];
    closings = [];
    placements = [];
  };
}

-- Node n becomes b, and what it put out is added to the histories.
abbrev pub world_with : World → ℕ → Node → Output → World
world_with w n b out = record {
  nodes = set w.nodes n b;
  step = suc w.step;
  past = history_with w.past out;
}

pub data Event : Type 0 where
  Start : (node inc : ℕ) → Event
  Stop : (node : ℕ) → Event
  -- the frame at that place of those sent is handed to the node
  Hand : (node number : ℕ) → Event
  At : (node : ℕ) (event : NodeEvent) → Event

-- A node starts, with an incarnation that it never had.
pub record Starts (rules : Rules) (c : Config) (w : World) (n inc : ℕ) (w' : World) : Type 0 where
  pub before : Node
  pub before_is : slice_get w.nodes n ≡ Some before
  pub was_down : before.up ≡ false
  pub some : 0 < inc
  pub fresh : Where rules.fresh (In (n, inc) w.past.started → ⊥)
  pub after : w' ≡ record {
    nodes = set w.nodes n (new_node c inc);
    step = suc w.step;
    past = record w.past { started = w.past.started ++ (n, inc) ∷ [] };
  }

-- The closings of all open subscriptions of shard s and those after it.
abbrev pub all_closings : ℕ → ℕ → ℕ → ℕ → List Shard → List Closing
all_closings n inc now s [] = []
all_closings n inc now s (shard ∷ shards) =
    closings_of n inc s now (map (λ (u : Subscription). u.serial) shard.subscriptions)
    ++ all_closings n inc now (suc s) shards

-- A node stops: all its subscriptions close, and all that it knew is lost.
pub record Stops (w : World) (n : ℕ) (w' : World) : Type 0 where
  pub before : Node
  pub before_is : slice_get w.nodes n ≡ Some before
  pub was_up : before.up ≡ true
  pub after : w'
      ≡ world_with w n no_node
      (record nothing { closings = all_closings n before.inc (suc w.step) 0 before.shards })

-- A node that is up makes a step.
pub record Acts (rules : Rules) (c : Config) (w : World) (n : ℕ) (e : NodeEvent) (w' : World) :
    Type 0 where
  pub before : Node
  pub before_is : slice_get w.nodes n ≡ Some before
  pub up : before.up ≡ true
  pub out : Output
  pub new : Node
  pub steps : NodeStep rules c n (suc w.step) before e out new
  pub after : w' ≡ world_with w n new out

-- A frame that was sent is handed to a node, which takes it.
pub record Hands (rules : Rules) (c : Config) (w : World) (n number : ℕ) (w' : World) : Type 0 where
  pub frame : Frame
  pub frame_is : Where rules.sent (slice_get w.past.sent number ≡ Some frame)
  pub acts : Acts rules c w n (Receive frame) w'

-- An event of a node's own: frames come by Hand alone.
abbrev pub IsOwn : NodeEvent → Type 0
IsOwn (Publish content) = Unit {0}
IsOwn (Receive frame) = ⊥
IsOwn (Announce changes) = Unit {0}
IsOwn (OnShard s e) = Unit {0}

-- An event that is accepted.
abbrev pub Happens : Rules → Config → World → Event → World → Type 0
Happens rules c w (Start n inc) w' = Starts rules c w n inc w'
Happens rules c w (Stop n) w' = Stops w n w'
Happens rules c w (Hand n number) w' = Hands rules c w n number w'
Happens rules c w (At n e) w' = IsOwn e × Acts rules c w n e w'

-- Or it is refused, or changes nothing that is seen here (a cut, a take from an outbox): it is a
-- step all the same.
abbrev pub Step : Rules → Config → World → Event → World → Type 0
Step rules c w e w' = Happens rules c w e w' ⊎ (w' ≡ record w { step = suc w.step })

abbrev pub Run : Rules → Config → World → List Event → World → Type 0
Run rules c w [] w' = w' ≡ w
Run rules c w (e ∷ es) w' = (mid : World) × Step rules c w e mid × Run rules c mid es w'

-- The worlds that some list of events leads to.
pub record Reached (rules : Rules) (c : Config) (w : World) : Type 0 where
  pub events : List Event
  pub run : Run rules c (begin c) events w
