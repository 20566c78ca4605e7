-- The servers of a cluster, by name and by place.
use Rattle.std.specs.Prelude.{◌≡◌, ◌≢◌, ℕ, ◌<◌, ◌≤◌, Bool, true, not, ◌&&◌, nat_eq, nat_lt, nat_le, List, [], ◌∷◌, length, All, slice_get, unwrap_or, Option, Some, None, if◌then◌else◌}
use Rattle.std.specs.Str.{bytes_eq}
use Rattle.std.specs.List.{AllPairs, position_or_len, list_any}
use Rattle.subj.specs.declared.limits.TheConstants.{MAX_NODES, MAX_SHARDS}
use Rattle.subj.specs.Names.{node_name_fault}

-- one life of a server (profile): the names of the cluster's servers in the order in which all of
-- them list them; the place of its own among them, counted from 0; its incarnation; and how many
-- shards it has
pub record ServerIdentity : Type 0 where
  pub names : List (List ℕ)
  pub me : ℕ
  pub inc : ℕ
  pub shards : ℕ

abbrev pub name_at : List (List ℕ) → ℕ → List ℕ
name_at names place = unwrap_or (slice_get names place) []

-- the place of the name; of one that is not listed, the number of names
abbrev pub place_in : List ℕ → List (List ℕ) → ℕ
place_in name names = position_or_len (λ other. bytes_eq other name) names

abbrev pub name_of : ServerIdentity → ℕ → List ℕ
name_of server place = name_at server.names place

abbrev pub own_name : ServerIdentity → List ℕ
own_name server = name_of server server.me

abbrev pub place : ServerIdentity → List ℕ → ℕ
place server name = place_in name server.names

-- no two servers have one name
abbrev pub AreApart : List (List ℕ) → Type 0
AreApart names = AllPairs (λ a b. a ≢ b) names

-- the same, computed
abbrev pub are_apart : List (List ℕ) → Bool
are_apart [] = true
are_apart (name ∷ names) = not (list_any (bytes_eq name) names) && are_apart names

-- the place is of another server of the cluster: of a peer
abbrev pub is_peer : ServerIdentity → ℕ → Bool
is_peer server q = not (nat_eq q server.me) && nat_lt q (length server.names)

-- the names tell the servers apart, and the server's own place is one of theirs: what the laws of a
-- cluster rest on
pub record IsListed (server : ServerIdentity) : Type 0 where
  pub apart : AreApart server.names
  pub listed : server.me < length server.names

-- what a server is, within the limits (profile); that its incarnation is one, the type of an
-- incarnation says
pub record IsServer (server : ServerIdentity) : Type 0 where
  pub known : IsListed server
  pub named : All (λ name. node_name_fault name ≡ None) server.names
  pub few : length server.names ≤ MAX_NODES
  pub first_shard : 1 ≤ server.shards
  pub last_shard : server.shards ≤ MAX_SHARDS

-- of names and an incarnation that are within the limits, the server of them, if there is one
abbrev pub is_server : ServerIdentity → Bool
is_server server =
    nat_le (length server.names) MAX_NODES && nat_lt server.me (length server.names)
    && (nat_le 1 server.shards && nat_le server.shards MAX_SHARDS) && are_apart server.names

abbrev pub server_of : ServerIdentity → Option ServerIdentity
server_of server = if is_server server then Some server else None
