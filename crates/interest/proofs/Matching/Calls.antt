-- A closure that leaves what it captured answers the same at each call.
use Rattle.std.proofs.Common.{◌≡◌, List, [], ◌∷◌, sym, subst}
use Rattle.std.specs.Fn.{Called, Mut, AlwaysReturns, ReturnsEach}

module _ {F X R : Type 0} (g : Mut F X R) (P : X → R → Type 0) (f : F)
    (one : (a : X) (r : R) (f' : F) → Called g f a r f' → P a r × (f' ≡ f)) where
  each : (xs : List X) → ReturnsEach g P f xs
  each [] = tt
  each (a ∷ xs) =
      λ r f' called. let h = one a r f' called in (h.0, subst (λ f. ReturnsEach g P f xs) (sym h.1) (each xs))

  pub always_same : AlwaysReturns g P f
  always_same = record { at = each }
