-- The form of a script (profile): a JSON object with `nodes`, `shards` and `steps`.
use Rattle.std.specs.Prelude.{◌≡◌, ℕ, ◌<◌, ◌≤◌, Bool, nat_lt, List, [], ◌∷◌, length, map, sum, Option, Some, None, Result, Ok, Err, if◌then◌else◌}
use Rattle.serde_json.specs.Data.{Data, Items, no_items, item}
use Rattle.serde_json.specs.Find.{as_array}
use Rattle.serde_json.specs.View.{view}
use Rattle.serde_json.specs.declared.value.Value.{Value}
use Rattle.subj.specs.declared.failures.Failure.{Failure}
use Rattle.subj.specs.declared.failures.Failure.TheVariants.{Refused, OutOfMemory}
use Rattle.subj.specs.declared.limits.TheConstants.{SCRIPT_BYTES, SCRIPT_EVENTS}
use Rattle.subj.specs.Servers.{is_server}
use Rattle.client_frames.specs.Choices.{json_of}
use Rattle.script_form.specs.declared.faults.ScriptFault.{ScriptFault}
use Rattle.script_form.specs.declared.faults.ScriptFault.TheVariants.{NotJson, BadShape, TooLong}
use Rattle.script_form.specs.declared.faults.ScriptError.{ScriptError}
use Rattle.script_form.specs.declared.steps.Step.{Step}
use Rattle.script_form.specs.declared.steps.Member.TheVariants as key
use Rattle.script_form.specs.Members.{◌>>=◌, member, whole, node}
use Rattle.script_form.specs.Acts.{step_in, events_of}

-- the names of the servers, how many shards each has, and what is done
pub record Script : Type 0 where
  pub names : List (List ℕ)
  pub shards : ℕ
  pub steps : List Step

-- ---- lists

-- each item of a list is of this kind
abbrev pub each : {A : Type 0} → (Data → Option A) → Items → Option (List A)
each kind no_items = Some []
each kind (item value others) =
    kind value >>= λ first. each kind others >>= λ more. Some (first ∷ more)

-- ---- the shape

-- names that are apart, and numbers of servers and of shards that are within the limits
abbrev pub is_cluster : List (List ℕ) → ℕ → Bool
is_cluster names shards = is_server (record { names = names; me = 0; inc = 1; shards = shards })

abbrev pub cluster_script : List (List ℕ) → ℕ → List Step → Option Script
cluster_script names shards steps =
    if is_cluster names shards then Some (record { names = names; shards = shards; steps = steps })
    else None

unfoldable pub script_in : Data → Option Script
script_in json = do
  names ← member as_array key.Nodes json
  names ← each node names
  shards ← member whole key.Shards json
  steps ← member as_array key.Steps json
  steps ← each step_in steps
  cluster_script names shards steps

-- ---- the limits

abbrev pub count_of : List Step → ℕ
count_of steps = sum (map (λ (step : Step). events_of step.act) steps)

abbrev pub script_within_limit : Script → Result Script ScriptFault
script_within_limit script =
    if nat_lt SCRIPT_EVENTS (count_of script.steps) then Err TooLong else Ok script

abbrev pub script_of_shape : Option Script → Result Script ScriptFault
script_of_shape None = Err BadShape
script_of_shape (Some script) = script_within_limit script

abbrev pub read_json : Option Data → Result Script ScriptFault
read_json None = Err NotJson
read_json (Some json) = script_of_shape (script_in json)

-- what bytes are as a script, or the first cause for which they are none
abbrev pub script_of : List ℕ → Result Script ScriptFault
script_of bytes =
    if nat_lt SCRIPT_BYTES (length bytes) then Err TooLong else read_json (json_of bytes)

-- ---- how a reader answers

-- it tells just what bytes are; want of memory may stand in place of either, but not of too many
-- bytes
abbrev pub Reads : List ℕ → Result Script (Failure ScriptError) → Type 0
Reads bytes (Ok script) = script_of bytes ≡ Ok script
Reads bytes (Err (Refused error)) = script_of bytes ≡ Err error.fault
Reads bytes (Err OutOfMemory) = (0 < length bytes) × (length bytes ≤ SCRIPT_BYTES)

-- the same of the text, without its shape
abbrev pub ReadsJson : List ℕ → Result Value (Failure ScriptError) → Type 0
ReadsJson bytes (Ok json) = json_of bytes ≡ Some (view json)
ReadsJson bytes (Err (Refused error)) = (json_of bytes ≡ None) × (error.fault ≡ NotJson)
ReadsJson bytes (Err OutOfMemory) = 0 < length bytes
