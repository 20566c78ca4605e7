use Rattle.world_law.specs.Made.{passed_events}
use Rattle.world_law.specs.State.{new_world}
use Rattle.world_law.proofs.Seen.Machine.{law_for}
use Rattle.world_law.proofs.Runs.Plays.{puts_placed}
use Rattle.world_law.proofs.Seen.Whole.{laws_of, seen_over, is_reached, headline_of}
use Rattle.world_law.proofs.laws.publications_are_placed_once.Goals as goal

pub returns-clause-once : goal.returns-clause-once
returns-clause-once c = λ l set_up events w run.
    let o = seen_over (laws_of c.servers_follow_the_law.ensures c.servers_stay_sound.ensures c.entries_are_put.ensures)
    l set_up events w run in
    let r = is_reached l w (passed_events l (new_world l) events w run) o in
    headline_of l w o.seen o.sees (c.publications_are_placed_once.ensures (law_for l) o.seen r)

pub returns-clause-puts : goal.returns-clause-puts
returns-clause-puts c = puts_placed c.entries_are_put.ensures
