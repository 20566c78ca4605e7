use Rattle.world_law.proofs.Runs.OwnRuns.{each_keeps}
use Rattle.world_law.proofs.laws.servers_keep_their_laws.Goals as goal

pub returns : goal.returns
returns c = each_keeps c.servers_keep_their_promises.ensures c.hubs_stay_sound.ensures c.shards_stay_held.ensures
