use Rattle.std.proofs.Common.{◌≡◌, true, ◌∙◌, ap, sym, subst}
use Rattle.std.specs.Prelude.{◌↔◌}
use Rattle.settled_law.specs.Settled.{IsRoomy}
use Rattle.settled_law.specs.Tests.{room_for}
use Rattle.cluster_world.specs.Value.{Shown}
use Rattle.cluster_world.proofs.world.World.room_for.Goals as goal

pub returns-clause-same : goal.returns-clause-same
returns-clause-same g c =
    c.have_room_for.ensures ∙ ap (λ (s : Shown). room_for s.world c.args.publication.now.message) c.self.view_is

pub returns-clause-exact : goal.returns-clause-exact
returns-clause-exact g c =
    let message = c.args.publication.now.message in
    let same = c.have_room_for.ensures ∙ ap (λ (s : Shown). room_for s.world message) c.self.view_is in
    subst (λ b. (b ≡ true) ↔ IsRoomy c.args.self.now.world message) (sym same)
    (c.tests_are_exact.ensures.room c.args.self.now.world message)
