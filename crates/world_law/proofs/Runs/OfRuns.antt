-- What a value carries of the run that ends in it.
use Rattle.std.proofs.Common.{◌≡◌, Bool, true, false, true≢false, refl, sym, ◌∙◌}
use Rattle.std.proofs.Math.Logic.{∥∥₁_elim}
use Rattle.world_law.specs.Changes.{is_open, LivesAreFound}
use Rattle.world_law.specs.Headline.{IsCluster}
use Rattle.world_law.specs.State.{Cluster, World}
use Rattle.world_law.specs.Steps.{Carried}
use Rattle.world_law.proofs.Seen.Whole.{seen_over}
use Rattle.world_law.proofs.Seen.Worlds.{NodeLaws}

pub lives_open : NodeLaws → (c : Cluster) → IsCluster c → (w : World) → Carried c w → LivesAreFound w
lives_open laws c set_up w carried life i none = go (is_open w.nodes life.id) refl
  where
    go : (b : Bool) → is_open w.nodes life.id ≡ b → is_open w.nodes life.id ≡ true
    go true e = e
    go false e =
        absurd (∥∥₁_elim carried (λ x y. absurd x)
        (λ r. true≢false (sym ((seen_over laws c set_up r.0 w r.1).sees.open_lives life i none) ∙ e)))
