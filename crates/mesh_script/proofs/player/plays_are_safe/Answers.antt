use Rattle.world_law.specs.State.{new_world}
use Rattle.mesh_script.specs.Played.{cluster_of}
use Rattle.mesh_script.proofs.Asking.{run_of}
use Rattle.mesh_script.proofs.player.plays_are_safe.Goals as goal

pub returns : goal.returns
returns start = λ script set_up text played.
    let l = cluster_of script in
    let run = run_of l (new_world l) played.world _ _ played.said played.told in
    record {
      played = played;
      headline = ∣ start.publications_are_placed_once.ensures.once l set_up run.0 played.world run.1 ∣₁;
      names = ∣ start.names_are_unique.ensures l set_up run.0 played.world run.1 ∣₁;
      echo = ∣ start.echo_is_kept.ensures l set_up run.0 played.world run.1 ∣₁;
    }
