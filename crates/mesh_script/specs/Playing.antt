-- What the player's calls do.
use Rattle.std.specs.Prelude.{◌≡◌, ℕ, ◌+◌, List, [], ◌++◌, Option, Result, Ok, Err}
use Rattle.cluster_world.specs.declared.outcomes.Outcome as code
use Rattle.world_law.specs.Events.{Event}
use Rattle.cluster_world.specs.InCode.{event_of, outcome_of}
use Rattle.world_law.specs.Outcomes.{Outcome}
use Rattle.world_law.specs.Headline.{IsCluster}
use Rattle.world_law.specs.State.{Cluster, World, new_world}
use Rattle.world_law.specs.Written.{last_lines}
use Rattle.script_form.specs.Form.{Script}
use Rattle.mesh_script.specs.declared.player.ScriptEvents.{ScriptEvents}
use Rattle.mesh_script.specs.declared.player.ScriptEvents.TheVariants as asked
use Rattle.mesh_script.specs.declared.output.PlayFault.{PlayFault}
use Rattle.mesh_script.specs.Asks.{Asks, NoMore, Ask, work_asks, Wants, Once, Joins, Tells, Delivers}
use Rattle.mesh_script.specs.Lines.{lines_text}
use Rattle.mesh_script.specs.Placing.{cluster_named}
use Rattle.mesh_script.specs.Played.{AppendsStart, Writes, IsPlayed, IsPlayedSafely, cluster_of}
use Rattle.mesh_script.specs.Putting.{Puts}
use Rattle.mesh_script.specs.Told.{Said, Told, count_came, said_lines}

-- ---- the cluster

-- the cluster with its world, how many events were made, and what stands to be written
pub record PlayState : Type 0 where
  pub cluster : Cluster
  pub world : World
  pub number : ℕ
  pub text : List ℕ

-- of what is asked, this was told and put, and this is left
pub record Moves (old : PlayState) (was : Option (List ℕ)) (asks rest : Asks) (new : PlayState)
    (is : Option (List ℕ)) : Type 0 where
  pub said : List Said
  pub cluster : new.cluster ≡ old.cluster
  pub told : Told old.cluster old.world asks said rest new.world
  pub number : new.number ≡ old.number + count_came said
  pub puts : Puts old.text was (lines_text (said_lines old.number said)) new.text is

-- somewhere on the way to the end it broke off
pub record BreaksOff (old : PlayState) (was : Option (List ℕ)) (asks : Asks)
    (is : Option (List ℕ)) : Type 0 where
  pub rest : Asks
  pub new : PlayState
  pub moves : Moves old was asks rest new is

-- all that is asked was told
abbrev pub Makes : {T : Type 0} → Result T PlayFault → PlayState → Option (List ℕ) → Asks
    → PlayState → Option (List ℕ) → Type 0
Makes (Ok x) old was asks new is = Moves old was asks NoMore new is
Makes (Err fault) old was asks new is = BreaksOff old was asks is

-- one event was made, whatever depends on its outcome
abbrev pub AsksOne : Result code.Outcome PlayFault → Event → PlayState → Option (List ℕ) → PlayState
    → Option (List ℕ) → Type 0
AsksOne (Ok outcome) e old was new is =
    (more : World → Outcome → Asks)
    → Moves old was (Ask e more) (more old.world (outcome_of outcome)) new is
AsksOne (Err fault) e old was new is = AppendsStart was is old.text

-- an event and these behind it were made, which depend on the world before it
abbrev pub MakesBehind : {T : Type 0} → Result T PlayFault → PlayState → Option (List ℕ) → Event
    → List Event → PlayState → Option (List ℕ) → Type 0
MakesBehind result old was e behind new is =
    (more : World → Outcome → Asks)
    → ((outcome : Outcome) → more old.world outcome ≡ work_asks behind 0)
    → Makes result old was (Ask e more) new is

-- ---- what an act wants, as the code has it

abbrev pub wants_of : ScriptEvents → Wants
wants_of (asked.Event event) = Once (event_of event)
wants_of (asked.Join a b) = Joins a b
wants_of (asked.Settled subject) = Tells subject
wants_of (asked.Deliver node conn publication word) =
    Delivers node (record { conn = conn; publication = publication; word = word })

-- ---- a whole script

abbrev pub first_standing : Cluster → PlayState
first_standing c = record { cluster = c; world = new_world c; number = 0; text = [] }

-- what stood to be written, the lines of the placements and the last line are written, or a
-- beginning of these
abbrev pub Finishes : {T : Type 0} → Result T PlayFault → List (List ℕ) → PlayState
    → Option (List ℕ) → Option (List ℕ) → Type 0
Finishes result names old was is =
    old.number ≡ old.world.step
    → Writes result was is (old.text ++ lines_text (last_lines (cluster_named names) old.world))

-- the rest of what is asked can be told, wherever it broke off
pub record Completed (c : Cluster) (asks : Asks) (said : List Said) : Type 0 where
  pub more : List Said
  pub world : World
  pub told : Told c (new_world c) asks (said ++ more) NoMore world

abbrev pub GoesOn : Type 0
GoesOn =
    (c : Cluster)
    → IsCluster c
    → (asks rest : Asks) (said : List Said) (w : World)
    → Told c (new_world c) asks said rest w
    → Completed c asks said

-- the headline holds of the world of each run of a script's events
abbrev pub ArePlayedSafely : Type 0
ArePlayedSafely =
    (script : Script)
    → IsCluster (cluster_of script)
    → (text : List ℕ)
    → IsPlayed script text
    → IsPlayedSafely script text
