use Rattle.std.proofs.Common.{subst}
use Rattle.world_law.specs.Echo.{EchoIsKept}
use Rattle.world_law.specs.Headline.{Headline, Names, AreSent}
use Rattle.world_law.specs.RestsOn.{CameSo}
use Rattle.cluster_world.specs.Value.{CameBySteps}
use Rattle.cluster_world.proofs.world.World.keeps_headline.Goals as goal

pub returns-clause-headline : goal.returns-clause-headline
returns-clause-headline g c =
    subst (λ s. ∥ Headline s.world ∥₁) c.self.view_is
    (c.carried_worlds_keep_the_headline.ensures _ c.self.invariant.apart _ c.self.invariant.carried)

pub returns-clause-names : goal.returns-clause-names
returns-clause-names g c =
    subst (λ s. ∥ Names s.world ∥₁) c.self.view_is
    (c.carried_names_are_unique.ensures _ c.self.invariant.apart _ c.self.invariant.carried)

pub returns-clause-echo : goal.returns-clause-echo
returns-clause-echo g c =
    subst (λ s. ∥ EchoIsKept s.cluster s.world ∥₁) c.self.view_is
    (c.carried_echo_is_kept.ensures _ c.self.invariant.apart _ c.self.invariant.carried)

pub returns-clause-rests : goal.returns-clause-rests
returns-clause-rests g c =
    subst (λ s. ∥ CameSo s.cluster s.world ∥₁) c.self.view_is
    (c.carried_worlds_rest_on_this.ensures _ c.self.invariant.apart _ c.self.invariant.carried)

pub returns-clause-sent : goal.returns-clause-sent
returns-clause-sent g c =
    subst (λ s. ∥ AreSent s.world ∥₁) c.self.view_is (c.carried_frames_were_sent.ensures _ _ c.self.invariant.carried)

pub returns-clause-entered : goal.returns-clause-entered
returns-clause-entered g c = subst CameBySteps c.self.view_is c.self.invariant.came
