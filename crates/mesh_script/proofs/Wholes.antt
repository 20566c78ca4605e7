-- Whole scripts.
use Rattle.std.proofs.Common.{◌≡◌, ℕ, ◌+◌, true, ◌&&◌, List, [], ◌++◌, length, Option, Result, refl, sym, subst, arith}
use Rattle.std.specs.Prelude.{IsErr, nat_le, nat_lt}
use Rattle.list_laws.proofs.Tests.{and_true}
use Rattle.subj.specs.Servers.{are_apart}
use Rattle.subj.specs.declared.limits.TheConstants.{MAX_NODES, MAX_SHARDS}
use Rattle.world_law.specs.Headline.{IsCluster}
use Rattle.world_law.specs.State.{new_world}
use Rattle.world_law.specs.Written.{last_lines}
use Rattle.script_form.specs.Form.{Script, is_cluster}
use Rattle.mesh_script.specs.declared.output.PlayFault.{PlayFault}
use Rattle.mesh_script.specs.Asks.{NoMore, steps_ask}
use Rattle.mesh_script.specs.Lines.{lines_text}
use Rattle.mesh_script.specs.Played.{IsPlayed, Plays, Writes, cluster_of}
use Rattle.mesh_script.specs.Told.{count_came, said_lines, script_lines}
use Rattle.mesh_script.specs.Playing.{PlayState, Moves, BreaksOff, Finishes, GoesOn, ArePlayedSafely, first_standing}
use Rattle.mesh_script.proofs.Asking.{told_counts}
use Rattle.subj.proofs.Apart.{all_apart}
use Rattle.mesh_script.proofs.Putting.{starts_same, starts_longer, starts_of_puts, write_failed, writes_behind}
use Rattle.mesh_script.proofs.Texts.{lines_behind, run_front}

pub set_up : (script : Script) → is_cluster script.names script.shards ≡ true → IsCluster (cluster_of script)
set_up script is = record {
  apart =
      all_apart script.names
      (and_true
      (nat_le (length script.names) MAX_NODES && nat_lt 0 (length script.names)
      && (nat_le 1 script.shards && nat_le script.shards MAX_SHARDS))
      (are_apart script.names) is).1;
}

pub broken_play : {T : Type 0} (result : Result T PlayFault) (script : Script) (was is : Option (List ℕ))
    → GoesOn
    → ArePlayedSafely
    → is_cluster script.names script.shards ≡ true
    → IsErr result
    → BreaksOff (first_standing (cluster_of script)) was (steps_ask (cluster_of script) script.names script.steps) is
    → Plays script result was is
broken_play result script was is goes safe within err broke =
    let l = cluster_of script in
    let up = set_up script within in
    let moves = broke.moves in
    let whole = goes l up (steps_ask l script.names script.steps) broke.rest moves.said broke.new.world moves.told in
    let said = moves.said ++ whole.more in
    let text = lines_text (script_lines l said whole.world) in
    let played : IsPlayed script text = record {
      said = said;
      world = whole.world;
      told = whole.told;
      text_is = refl;
    } in
    let first = lines_text (said_lines 0 moves.said) in
    let behind =
    lines_text (said_lines (0 + count_came moves.said) whole.more) ++ lines_text (last_lines l whole.world) in
    record {
      text = text;
      played = safe script up text played;
      written =
          write_failed result was is text err
          (starts_same (first ++ behind) text was is (run_front l moves.said whole.more whole.world)
          (starts_longer first behind was is (starts_of_puts [] first broke.new.text was is moves.puts)));
    }

pub whole_play : {T : Type 0} (result : Result T PlayFault) (script : Script) (new : PlayState)
    (was is now : Option (List ℕ))
    → ArePlayedSafely
    → is_cluster script.names script.shards ≡ true
    → Moves (first_standing (cluster_of script)) was (steps_ask (cluster_of script) script.names script.steps) NoMore
    new is
    → Finishes result script.names new is now
    → Plays script result was now
whole_play result script new was is now safe within moves finishes =
    let l = cluster_of script in
    let said = moves.said in
    let count = told_counts l (new_world l) new.world (steps_ask l script.names script.steps) NoMore said moves.told in
    let numbered = moves.number in
    let step : new.number ≡ new.world.step = omega arith in
    let text = lines_text (script_lines l said new.world) in
    let played : IsPlayed script text = record { said = said; world = new.world; told = moves.told; text_is = refl } in
    let first = lines_text (said_lines 0 said) in
    let last = lines_text (last_lines l new.world) in
    record {
      text = text;
      played = safe script (set_up script within) text played;
      written =
          subst (λ t. Writes result was now t) (sym (lines_behind (said_lines 0 said) (last_lines l new.world)))
          (writes_behind result first new.text last was is now moves.puts (finishes step));
    }
