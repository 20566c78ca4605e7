use Rattle.std.proofs.Common.{[], refl}
use Rattle.world_law.proofs.laws.new_worlds_are_carried.Goals as goal

pub returns : goal.returns
returns start = λ l. ∣ ([], refl) ∣₁
