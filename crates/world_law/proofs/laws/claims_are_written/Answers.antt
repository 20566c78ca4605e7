use Rattle.world_law.proofs.Examples.Printed.{writes_claims}
use Rattle.world_law.proofs.laws.claims_are_written.Goals as goal

pub returns : goal.returns
returns start = writes_claims
