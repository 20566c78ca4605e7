-- Views of the law are views, and changes act on them alike.
use Rattle.std.proofs.Common.{◌≡◌, [], ◌∷◌, refl, ap}
use Rattle.interest.specs.declared.changes.Change.{Change}
use Rattle.interest.specs.declared.changes.Change.TheVariants.{Up, Gone, Clear}
use Rattle.interest.specs.Views.{View, view_with_change}
use Rattle.hub_core.specs.AsLaw.{view_of, own_view, change_of, follow}

-- there and back
pub view_back : (view : View) → own_view (view_of view) ≡ view
view_back [] = refl
view_back (entry ∷ view) = ap (λ v. entry ∷ v) (view_back view)

pub follows : (change : Change) (view : View)
    → follow (change_of change) (view_of view) ≡ view_of (view_with_change change view)
follows (Up weighted) view = ap (λ v. view_of (view_with_change (Up weighted) v)) (view_back view)
follows (Gone key) view = ap (λ v. view_of (view_with_change (Gone key) v)) (view_back view)
follows Clear view = refl
