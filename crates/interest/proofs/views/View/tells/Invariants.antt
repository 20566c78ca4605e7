use Rattle.std.proofs.Common.{◌≡◌, drop}
use Rattle.interest.specs.Views.{same_views, told_view}
use Rattle.interest.proofs.views.View.tells.Given as goal

abbrev pub invariant-loop-place : goal.invariant-loop-place
invariant-loop-place l =
    same_views l.weighted-items (told_view l.counts-inside.entries.items)
    ≡ same_views (drop l.place l.weighted-items) (drop l.place (told_view l.counts-inside.entries.items))
