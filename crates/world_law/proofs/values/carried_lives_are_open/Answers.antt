use Rattle.world_law.proofs.Runs.OfRuns.{lives_open}
use Rattle.world_law.proofs.Seen.Whole.{laws_of}
use Rattle.world_law.proofs.values.carried_lives_are_open.Goals as goal

pub returns : goal.returns
returns c = lives_open (laws_of c.servers_follow_the_law.ensures c.servers_stay_sound.ensures c.entries_are_put.ensures)
