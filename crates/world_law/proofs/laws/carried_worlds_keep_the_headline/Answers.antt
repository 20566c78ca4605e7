use Rattle.std.proofs.Math.Logic.{∥∥₁_map}
use Rattle.world_law.proofs.laws.carried_worlds_keep_the_headline.Goals as goal

pub returns : goal.returns
returns c = λ l set_up w s. ∥∥₁_map s (λ r. c.publications_are_placed_once.ensures.once l set_up r.0 w r.1)
