-- Whether a cluster is settled, as it is tested.
use Rattle.std.specs.Prelude.{ℕ, suc, Bool, true, false, ◌&&◌, ◌||◌, nat_eq, List, [], ◌∷◌, Option, Some, None}
use Rattle.std.specs.List.{list_all}
use Rattle.subj.specs.Messages.{Content}
use Rattle.hub_core.specs.Settled.{has_few_names}
use Rattle.node_law.specs.Settled.{is_node_settled, is_peer_settled, has_room_in}
use Rattle.world_law.specs.State.{Cluster, World, Running, server_at}

abbrev pub are_peers_settled : ℕ → Running → ℕ → List (Option Running) → Bool
are_peers_settled m a q [] = true
are_peers_settled m a q (None ∷ nodes) = false
are_peers_settled m a q (Some b ∷ nodes) =
    (nat_eq m q || is_peer_settled a.node b.node b.inc q) && are_peers_settled m a (suc q) nodes

abbrev pub are_settled : Cluster → List ℕ → List (Option Running) → ℕ → List (Option Running) → Bool
are_settled c subject all m [] = true
are_settled c subject all m (None ∷ nodes) = false
are_settled c subject all m (Some a ∷ nodes) =
    is_node_settled a.node
    && (are_peers_settled m a 0 all
    && (has_few_names (server_at c m a.inc) a.node.hub subject
    && are_settled c subject all (suc m) nodes))

-- all but the room of connections
abbrev pub settled_for : Cluster → World → List ℕ → Bool
settled_for c w subject = are_settled c subject w.nodes 0 w.nodes

-- ---- the room of connections

abbrev pub are_roomy : Content → List (Option Running) → Bool
are_roomy message [] = true
are_roomy message (None ∷ nodes) = are_roomy message nodes
are_roomy message (Some a ∷ nodes) =
    list_all (has_room_in message) a.node.lines && are_roomy message nodes

abbrev pub room_for : World → Content → Bool
room_for w message = are_roomy message w.nodes
