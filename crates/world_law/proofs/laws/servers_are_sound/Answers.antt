use Rattle.world_law.proofs.Seen.Whole.{laws_of, seen_over, sound_of}
use Rattle.world_law.proofs.laws.servers_are_sound.Goals as goal

pub returns : goal.returns
returns c = λ l set_up events w run.
    let o = seen_over (laws_of c.servers_follow_the_law.ensures c.servers_stay_sound.ensures c.entries_are_put.ensures)
    l set_up events w run in
    sound_of l w o.seen o.sees
