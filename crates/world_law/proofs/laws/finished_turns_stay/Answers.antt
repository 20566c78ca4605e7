use Rattle.world_law.proofs.Runs.Rests.{finished_stays}
use Rattle.world_law.proofs.Seen.Whole.{laws_of}
use Rattle.world_law.proofs.laws.finished_turns_stay.Goals as goal

pub returns : goal.returns
returns c =
    finished_stays (laws_of c.servers_follow_the_law.ensures c.servers_stay_sound.ensures c.entries_are_put.ensures)
    c.finished_turns_stay.ensures
