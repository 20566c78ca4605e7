use Rattle.std.proofs.Math.Logic.{∥∥₁_map}
use Rattle.placement_audit.proofs.Walking.{none_of_headline}
use Rattle.placement_audit.proofs.audits.worlds_pass_the_audit.Goals as goal

pub returns : goal.returns
returns g c = ∥∥₁_map c.keeps_headline.ensures.headline (none_of_headline c.args.world.now.world)
