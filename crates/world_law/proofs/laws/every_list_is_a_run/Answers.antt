use Rattle.world_law.proofs.Runs.Programs.{played_run}
use Rattle.world_law.proofs.Seen.Whole.{laws_of}
use Rattle.world_law.proofs.laws.every_list_is_a_run.Goals as goal

pub returns : goal.returns
returns c =
    played_run c.entries_are_put.ensures
    (laws_of c.servers_follow_the_law.ensures c.servers_stay_sound.ensures c.entries_are_put.ensures)
