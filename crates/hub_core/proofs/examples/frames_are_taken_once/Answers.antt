use Rattle.hub_core.proofs.ByExample.Computed.{takes_frames}
use Rattle.hub_core.proofs.examples.frames_are_taken_once.Goals as goal

pub returns : goal.returns
returns c = takes_frames
