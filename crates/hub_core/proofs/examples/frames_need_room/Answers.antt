use Rattle.hub_core.proofs.ByExample.Computed.{needs_room}
use Rattle.hub_core.proofs.examples.frames_need_room.Goals as goal

pub returns : goal.returns
returns c = needs_room
