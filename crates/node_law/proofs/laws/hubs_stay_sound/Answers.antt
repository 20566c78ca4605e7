use Rattle.node_law.proofs.Sessions.HubsSound.{hubs_stay_sound}
use Rattle.node_law.proofs.laws.hubs_stay_sound.Goals as goal

pub returns : goal.returns
returns c = hubs_stay_sound c.sound_hubs_stay_sound.ensures
