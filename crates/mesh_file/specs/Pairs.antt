-- The first two servers that share something.
use Rattle.std.specs.Prelude.{◌≡◌, ℕ, ◌+◌, ◌<◌, ◌⊎◌, true, false, List, length}
use Rattle.std.specs.List.{AllPairs, slice_index_or}
use Rattle.mesh_file.specs.Servers.{shares}
use Rattle.mesh_file.specs.declared.faults.Pair.{Pair}
use Rattle.mesh_file.specs.declared.faults.Shared.{Shared}
use Rattle.mesh_file.specs.declared.faults.Shared.TheVariants.{Name, Routes, Clients}
use Rattle.mesh_file.specs.declared.servers.MeshServer.{MeshServer}

-- no two of them share it
abbrev pub AreApart : Shared → List MeshServer → Type 0
AreApart shared servers = AllPairs (λ a b. shares shared a b ≡ false) servers

-- of two pairs of places: by the first place, then by the second
abbrev pub IsEarlier : ℕ × ℕ → ℕ × ℕ → Type 0
IsEarlier p q = (p.0 < q.0) ⊎ ((p.0 ≡ q.0) × (p.1 < q.1))

-- the servers at these places share it, and those of no earlier pair do
pub record IsFirstPair (shared : Shared) (servers : List MeshServer) (pair : ℕ × ℕ) : Type 0 where
  pub rising : pair.0 < pair.1
  pub within : pair.1 < length servers
  pub shared_by : (d : MeshServer)
      → shares shared (slice_index_or servers pair.0 d) (slice_index_or servers pair.1 d) ≡ true
  pub first : (i j : ℕ) (d : MeshServer) → i < j → j < length servers → IsEarlier (i, j) pair
      → shares shared (slice_index_or servers i d) (slice_index_or servers j d) ≡ false

-- the first two servers that share this, by their places counted from 1
abbrev pub IsPairOf : Shared → List MeshServer → Pair → Type 0
IsPairOf shared servers pair =
    (places : ℕ × ℕ) × IsFirstPair shared servers places
    × (pair ≡ record { shared = shared; first = places.0 + 1; second = places.1 + 1 })

pub record AllApart (servers : List MeshServer) : Type 0 where
  pub names : AreApart Name servers
  pub routes : AreApart Routes servers
  pub clients : AreApart Clients servers

-- names come first, then routes, then clients
pub data IsFirstShared (servers : List MeshServer) (pair : Pair) : Type 0 where
  same_names : IsPairOf Name servers pair → IsFirstShared servers pair
  same_routes : AreApart Name servers → IsPairOf Routes servers pair → IsFirstShared servers pair
  same_clients : AreApart Name servers
      → AreApart Routes servers
      → IsPairOf Clients servers pair
      → IsFirstShared servers pair
