use Rattle.mesh_script.proofs.Asking.{completed}
use Rattle.mesh_script.proofs.player.plays_go_on.Goals as goal

pub returns : goal.returns
returns c = λ l set_up asks rest said w told. completed l (c.each_event_goes_on.ensures l set_up) asks rest said w told
