use Rattle.world_law.proofs.Runs.Programs.{reached_step}
use Rattle.world_law.proofs.Seen.Whole.{laws_of}
use Rattle.world_law.proofs.laws.each_event_goes_on.Goals as goal

pub returns : goal.returns
returns c =
    reached_step c.entries_are_put.ensures
    (laws_of c.servers_follow_the_law.ensures c.servers_stay_sound.ensures c.entries_are_put.ensures)
