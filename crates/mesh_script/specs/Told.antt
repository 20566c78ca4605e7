-- What comes of asking the exact cluster, and how it is written.
use Rattle.std.specs.Prelude.{◌≡◌, ℕ, suc, List, [], ◌∷◌, ◌++◌}
use Rattle.world_law.specs.Outcomes.{Outcome}
use Rattle.world_law.specs.State.{Cluster, World}
use Rattle.world_law.specs.Steps.{WorldStep}
use Rattle.world_law.specs.Written.{outcome_lines, last_lines}
use Rattle.mesh_script.specs.Asks.{Asks, NoMore, Ask, Say}

-- the outcome of an event, or a line that is no event's
pub data Said : Type 0 where
  Came : (outcome : Outcome) → Said
  Line : (text : List ℕ) → Said

-- this was told in turn: outcomes of steps of the exact cluster, and lines of its worlds; then this
-- is left to ask, in this world
abbrev pub Told : Cluster → World → Asks → List Said → Asks → World → Type 0
Told c w asks [] rest w' = (rest ≡ asks) × (w' ≡ w)
Told c w NoMore (said ∷ more) rest w' = ⊥
Told c w (Ask e deed) (Came outcome ∷ more) rest w' =
    (mid : World) × WorldStep c w e outcome mid × Told c mid (deed w outcome) more rest w'
Told c w (Ask e deed) (Line text ∷ more) rest w' = ⊥
Told c w (Say line behind) (Came outcome ∷ more) rest w' = ⊥
Told c w (Say line behind) (Line text ∷ more) rest w' =
    (text ≡ line w) × Told c w behind more rest w'

-- how many of them are of events
abbrev pub count_came : List Said → ℕ
count_came [] = 0
count_came (Came outcome ∷ more) = suc (count_came more)
count_came (Line text ∷ more) = count_came more

-- a line each; that of an event has its number, where so many were before
abbrev pub said_lines : ℕ → List Said → List (List ℕ)
said_lines before [] = []
said_lines before (Came outcome ∷ more) =
    outcome_lines before (outcome ∷ []) ++ said_lines (suc before) more
said_lines before (Line text ∷ more) = text ∷ said_lines before more

-- all that is written of what was told from the start, to this world
abbrev pub script_lines : Cluster → List Said → World → List (List ℕ)
script_lines c said w = said_lines 0 said ++ last_lines c w
