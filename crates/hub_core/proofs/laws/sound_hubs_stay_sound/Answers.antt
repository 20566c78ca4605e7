use Rattle.hub_core.proofs.Steps.Sound.{stays_sound}
use Rattle.hub_core.proofs.laws.sound_hubs_stay_sound.Goals as goal

pub returns : goal.returns
returns c = stays_sound
