use Rattle.std.proofs.Common.{◌≡◌, true, ◌∙◌, ap, sym, subst}
use Rattle.std.specs.Prelude.{◌↔◌}
use Rattle.std.proofs.Math.Logic.{∥∥₁_map}
use Rattle.settled_law.specs.Settled.{IsSettled}
use Rattle.settled_law.specs.Tests.{settled_for}
use Rattle.cluster_world.specs.Value.{Shown}
use Rattle.cluster_world.proofs.world.World.settled_for.Goals as goal

pub returns-clause-same : goal.returns-clause-same
returns-clause-same g c =
    c.are_settled.ensures _ c.self.invariant.places
    ∙ ap (λ (s : Shown). settled_for s.cluster s.world c.args.subject.now) c.self.view_is

pub returns-clause-exact : goal.returns-clause-exact
returns-clause-exact g c =
    let subject = c.args.subject.now in
    let same = c.are_settled.ensures _ c.self.invariant.places
    ∙ ap (λ (s : Shown). settled_for s.cluster s.world subject) c.self.view_is in
    let exact = subst (λ (s : Shown).
    ∥ ((subject : _) → (settled_for s.cluster s.world subject ≡ true) ↔ IsSettled s.cluster s.world subject) ∥₁)
    c.self.view_is (c.carried_tests_are_exact.ensures _ c.self.invariant.apart _ c.self.invariant.carried) in
    ∥∥₁_map exact (λ each.
    subst (λ b. (b ≡ true) ↔ IsSettled c.args.self.now.cluster c.args.self.now.world subject) (sym same) (each subject))
