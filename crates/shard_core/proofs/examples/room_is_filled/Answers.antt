use Rattle.shard_core.proofs.Steps.Examples.{fills_the_room}
use Rattle.shard_core.proofs.examples.room_is_filled.Goals as goal

pub returns : goal.returns
returns c = fills_the_room
