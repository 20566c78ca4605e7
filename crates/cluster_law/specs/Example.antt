-- A run in which something is placed: for a queue member and a plain subscription of another node.
-- So the laws are not empty. Then a repeated frame is refused, and after a restart a late one.
use Rattle.std.specs.Prelude.{◌≡◌, ◌&&◌, ℕ, Bool, true, false, nat_eq, List, [], ◌∷◌, Option, Some, None}
use Rattle.cluster_law.specs.Names.{Bytes}
use Rattle.cluster_law.specs.Messages.{Content}
use Rattle.cluster_law.specs.Config.{Config, every_rule}
use Rattle.cluster_law.specs.History.{Placement}
use Rattle.cluster_law.specs.Shard.{Subscribe, Begin, Claim}
use Rattle.cluster_law.specs.Node.{Publish, Announce, OnShard}
use Rattle.cluster_law.specs.Cluster.{World, Event, Start, Stop, Hand, At, Happens, Run, begin}

-- Here a pattern matches the subject that it spells.
abbrev pub same_bytes : Bytes → Bytes → Bool
same_bytes [] [] = true
same_bytes [] (y ∷ ys) = false
same_bytes (x ∷ xs) [] = false
same_bytes (x ∷ xs) (y ∷ ys) = nat_eq x y && same_bytes xs ys

abbrev pub two_nodes : Config
two_nodes = record {
  nodes = 2;
  shards = 2;
  window = 4;
  queue_names = 2;
  matches = same_bytes;
  follow = λ change view. view;
}

abbrev pub greeting : Content
greeting = record { subject = 1 ∷ []; reply = None; headers = None; payload = 2 ∷ [] }

abbrev pub workers : Bytes
workers = 7 ∷ []

-- Node 0 learns that node 1 runs; node 1 gets a member and a plain subscription; node 0 publishes
-- twice, and sends frame 1 for the member's queue name and frame 2 without a name; node 1 takes
-- frame 1, and places it.
abbrev pub placing : List Event
placing =
    Start 0 1 ∷ Start 1 1 ∷ At 1 (Announce []) ∷ Hand 0 0
    ∷ At 1 (OnShard 0 (Subscribe 1 (1 ∷ []) (1 ∷ []) (Some workers)))
    ∷ At 1 (OnShard 1 (Subscribe 1 (1 ∷ []) (1 ∷ []) None)) ∷ At 0 (Publish greeting)
    ∷ At 0 (Publish greeting) ∷ Hand 1 1 ∷ At 1 (OnShard 0 Begin) ∷ At 1 (OnShard 0 Claim)
    ∷ At 1 (OnShard 1 Begin) ∷ []

abbrev pub restarting : List Event
restarting = Stop 1 ∷ Start 1 2 ∷ []

-- The first publication of node 0, for the first subscription of a shard of node 1.
abbrev pub placed_at : ℕ → Option Bytes → ℕ → Placement
placed_at shard mode step = record {
  id = record { origin = 0; inc = 1; number = 1 };
  life = record { node = 1; inc = 1; shard = shard; serial = 1 };
  connection = 1;
  sid = 1 ∷ [];
  mode = mode;
  content = greeting;
  step = step;
}

abbrev pub Refuses : World → Event → Type 0
Refuses w e = (w' : World) → Happens every_rule two_nodes w e w' → ⊥

pub record Witness : Type 0 where
  pub placed : World
  pub run : Run every_rule two_nodes (begin two_nodes) placing placed
  pub placements : placed.past.placements ≡ placed_at 0 (Some workers) 11 ∷ placed_at 1 None 12 ∷ []
  -- frame 1 again
  pub repeated : Refuses placed (Hand 1 1)
  -- frame 2 might be taken now, but not after the restart
  pub in_time : (w : World) × Happens every_rule two_nodes placed (Hand 1 2) w
  pub restarted : World
  pub restart : Run every_rule two_nodes placed restarting restarted
  pub late : Refuses restarted (Hand 1 2)
