-- How publications are numbered.
use Rattle.std.specs.Prelude.{◌≡◌, ℕ, Bool, ◌&&◌, nat_eq, List, length, filter, map}
use Rattle.std.specs.List.{range_with_len}
use Rattle.std.specs.Str.{bytes_eq}
use Rattle.world_law.specs.Events.{Event}
use Rattle.world_law.specs.Headline.{IsCluster}
use Rattle.world_law.specs.State.{Cluster, Publication, World, new_world}
use Rattle.world_law.specs.Steps.{Run}

-- a publication of this server in this incarnation
abbrev pub is_by : List ℕ → ℕ → Publication → Bool
is_by origin inc p = bytes_eq p.id.origin origin && nat_eq p.id.inc inc

abbrev pub numbers_by : List ℕ → ℕ → List Publication → List ℕ
numbers_by origin inc publications = map (λ p. p.id.number) (filter (is_by origin inc) publications)

-- those of one incarnation are 1, 2, 3, .. in order, and none is left out (profile)
abbrev pub AreCounted : World → Type 0
AreCounted w =
    (origin : List ℕ) (inc : ℕ)
    → numbers_by origin inc w.publications
    ≡ range_with_len 1 (length (numbers_by origin inc w.publications))

abbrev pub PublicationsAreCounted : Type 0
PublicationsAreCounted =
    (c : Cluster)
    → IsCluster c
    → (events : List Event) (w : World)
    → Run c (new_world c) events w
    → AreCounted w
