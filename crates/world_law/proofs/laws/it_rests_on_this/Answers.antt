use Rattle.world_law.specs.Made.{passed_events}
use Rattle.world_law.specs.State.{new_world}
use Rattle.world_law.proofs.Runs.MadeOf.{all_made}
use Rattle.world_law.proofs.Runs.Rests.{rests}
use Rattle.world_law.proofs.Seen.Machine.{law_for}
use Rattle.world_law.proofs.Seen.Whole.{laws_of, seen_over, is_reached}
use Rattle.world_law.proofs.laws.it_rests_on_this.Goals as goal

pub returns : goal.returns
returns c = λ l set_up events w run.
    let o = seen_over (laws_of c.servers_follow_the_law.ensures c.servers_stay_sound.ensures c.entries_are_put.ensures)
    l set_up events w run in
    let r = is_reached l w (passed_events l (new_world l) events w run) o in
    rests l w (passed_events l (new_world l) events w run) o (c.names_are_unique.ensures (law_for l) o.seen r)
    (c.publications_are_routed_once.ensures (law_for l) o.seen r) (c.views_are_of_origin.ensures (law_for l) o.seen r)
    (all_made l set_up events w run)
