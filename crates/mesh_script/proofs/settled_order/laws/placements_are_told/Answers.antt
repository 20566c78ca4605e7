use Rattle.mesh_script.proofs.settled_order.Counting.{step_counts}
use Rattle.mesh_script.proofs.settled_order.laws.placements_are_told.Goals as goal

pub returns : goal.returns
returns start = λ c set_up events w run e outcome w' step.
    step_counts start.puts_are_placed.ensures start.placements_are_one.ensures c w w'
    (start.servers_are_sound.ensures c set_up events w run) outcome e step
