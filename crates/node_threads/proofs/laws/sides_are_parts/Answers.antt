use Rattle.node_threads.proofs.Hubs.Parts.{sides_are_parts}
use Rattle.node_threads.proofs.laws.sides_are_parts.Goals as goal

pub returns : goal.returns
returns c = sides_are_parts
