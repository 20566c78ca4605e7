-- What is written of a script (profile): the text of a run of its events in the exact cluster.
use Rattle.std.specs.Prelude.{◌≡◌, ℕ, ◌+◌, List, ◌++◌, Option, Result, Ok, Err}
use Rattle.std.specs.Io.KnownBytes.{Appends}
use Rattle.world_law.specs.Echo.{EchoIsKept}
use Rattle.world_law.specs.Headline.{Headline, Names}
use Rattle.world_law.specs.State.{Cluster, World, new_world}
use Rattle.script_form.specs.Form.{Script}
use Rattle.mesh_script.specs.declared.output.PlayFault.{PlayFault}
use Rattle.mesh_script.specs.declared.output.PlayFault.TheVariants.{Write, OutOfMemory}
use Rattle.mesh_script.specs.Asks.{NoMore, steps_ask}
use Rattle.mesh_script.specs.Lines.{lines_text}
use Rattle.mesh_script.specs.Told.{Said, Told, script_lines}

-- the servers of a script
abbrev pub cluster_of : Script → Cluster
cluster_of script = record { names = script.names; shards = script.shards }

-- all that the script asks was told, from the cluster in which all servers are down; and this is
-- written: a line for each outcome and each line that is no event's, then one for each placement,
-- and the last line
pub record IsPlayed (script : Script) (text : List ℕ) : Type 0 where
  pub said : List Said
  pub world : World
  pub told : Told (cluster_of script) (new_world (cluster_of script))
      (steps_ask (cluster_of script) script.names script.steps) said NoMore world
  pub text_is : text ≡ lines_text (script_lines (cluster_of script) said world)

-- and the headline holds of the lists that it is written of
pub record IsPlayedSafely (script : Script) (text : List ℕ) : Type 0 where
  pub played : IsPlayed script text
  pub headline : ∥ Headline played.world ∥₁
  pub names : ∥ Names played.world ∥₁
  pub echo : ∥ EchoIsKept (cluster_of script) played.world ∥₁

-- a beginning of the text was written
pub record AppendsStart (was is : Option (List ℕ)) (text : List ℕ) : Type 0 where
  pub front : List ℕ
  pub behind : List ℕ
  pub written : Appends was is front
  pub whole : front ++ behind ≡ text

-- all of the text was written; where a write failed or memory was wanting, a beginning of it
abbrev pub Writes : {T : Type 0} → Result T PlayFault → Option (List ℕ) → Option (List ℕ) → List ℕ
    → Type 0
Writes (Ok x) was is text = Appends was is text
Writes (Err fault) was is text = AppendsStart was is text

pub record Plays {T : Type 0} (script : Script) (result : Result T PlayFault)
    (was is : Option (List ℕ)) : Type 0 where
  pub text : List ℕ
  pub played : IsPlayedSafely script text
  pub written : Writes result was is text

-- a write failed just where the answer says so
abbrev pub CountsWrites : {T : Type 0} → Result T PlayFault → ℕ → ℕ → Type 0
CountsWrites (Ok x) failures failures_after = failures_after ≡ failures
CountsWrites (Err Write) failures failures_after = failures_after ≡ failures + 1
CountsWrites (Err OutOfMemory) failures failures_after = failures_after ≡ failures
