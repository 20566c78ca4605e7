use Rattle.node_law.proofs.Claims.Ends.{ended_turns_have_each_claim_once}
use Rattle.node_law.proofs.laws.ended_turns_have_each_claim_once.Goals as goal

pub returns : goal.returns
returns start = ended_turns_have_each_claim_once
