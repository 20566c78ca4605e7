-- The tests tell just what they are to tell.
use Rattle.std.specs.Prelude.{◌≡◌, ◌↔◌, ℕ, true, List}
use Rattle.subj.specs.Messages.{Content}
use Rattle.world_law.specs.Events.{Event}
use Rattle.world_law.specs.Headline.{IsCluster}
use Rattle.world_law.specs.State.{Cluster, World, new_world}
use Rattle.world_law.specs.Steps.{Run, Carried}
use Rattle.settled_law.specs.Settled.{IsSettled, IsRoomy}
use Rattle.settled_law.specs.Tests.{settled_for, room_for}

pub record TestsAreExact : Type 0 where
  pub settled : (c : Cluster)
      → IsCluster c
      → (events : List Event) (w : World)
      → Run c (new_world c) events w
      → (subject : List ℕ)
      → (settled_for c w subject ≡ true) ↔ IsSettled c w subject
  pub room : (w : World) (message : Content) → (room_for w message ≡ true) ↔ IsRoomy w message

-- and so in each world that a value carries
abbrev pub CarriedTestsAreExact : Type 0
CarriedTestsAreExact =
    (c : Cluster)
    → IsCluster c
    → (w : World)
    → Carried c w
    → ∥ ((subject : List ℕ) → (settled_for c w subject ≡ true) ↔ IsSettled c w subject) ∥₁
