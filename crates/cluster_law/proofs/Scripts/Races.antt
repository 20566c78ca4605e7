-- Races over the window.
use Rattle.std.proofs.Common.{ℕ, refl}
use Rattle.cluster_law.specs.Race.{Race, Keeps}

pub same_race : (window : ℕ) (race : Race) → Keeps window race race
same_race window race = record { issued = refl; kept = λ t i lt. ((λ x. x), (λ x. x)) }
