-- A server that has just started.
use Rattle.std.proofs.Common.{◌≡◌, ℕ, zero, suc, true, [], ◌∷◌, map, replicate, length, refl, ap}
use Rattle.cluster_law.specs.Cluster as cluster
use Rattle.cluster_law.specs.Hub.{new_peer}
use Rattle.subj.specs.Servers.{ServerIdentity}
use Rattle.hub_core.specs.AsLaw as hub
use Rattle.hub_core.specs.State.{unknown_peer}
use Rattle.node_law.specs.AsLaw.{line_of, IsStarted}
use Rattle.node_law.specs.State.{lines_from}
use Rattle.node_law.proofs.Runs.Sound.{starts_sound}

lines_seen : (server : ServerIdentity) (first count : ℕ)
    → map (line_of server) (lines_from server.shards first count) ≡ replicate count cluster.new_shard
lines_seen server first zero = refl
lines_seen server first (suc count) = ap (λ t. cluster.new_shard ∷ t) (lines_seen server (suc first) count)

peers_seen : (count : ℕ) → map hub.peer_of (replicate count unknown_peer) ≡ replicate count (new_peer 0)
peers_seen zero = refl
peers_seen (suc count) = ap (λ t. new_peer 0 ∷ t) (peers_seen count)

pub is_started : (server : ServerIdentity) → IsStarted server
is_started server = record {
  sound = starts_sound server;
  seen = λ i. record {
    up = true;
    inc = server.inc;
    hub = record { published = 0; changed = 0; interest = []; peers = peers_seen (length server.names) i };
    race = record { issued = 0; won = [] };
    shards = lines_seen server 1 server.shards i;
  };
}
