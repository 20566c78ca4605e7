use Rattle.node_law.proofs.Claims.Placing.{claims_place}
use Rattle.node_law.proofs.laws.claims_place.Goals as goal

pub returns : goal.returns
returns start = claims_place
