use Rattle.node_law.proofs.Claims.PlacedOnce.{queue_messages_are_placed_once}
use Rattle.node_law.proofs.laws.queue_messages_are_placed_once.Goals as goal

pub returns : goal.returns
returns start = queue_messages_are_placed_once
