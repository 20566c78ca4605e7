-- How many messages an event placed, by its outcome.
use Rattle.std.specs.Prelude.{◌≡◌, ℕ, ◌+◌, List, length}
use Rattle.node_law.specs.Answers.{Answer, Began, Won}
use Rattle.world_law.specs.Events.{Event}
use Rattle.world_law.specs.Headline.{IsCluster}
use Rattle.world_law.specs.Outcomes.{Outcome, Refused, Done}
use Rattle.world_law.specs.State.{Cluster, World, new_world}
use Rattle.world_law.specs.Steps.{Run, WorldStep}

-- a begin and a claim tell how many
abbrev pub placed_by_answer : Answer → ℕ
placed_by_answer (Began placed shut) = placed
placed_by_answer (Won sub) = 1
placed_by_answer answer = 0

abbrev pub placed_by : Outcome → ℕ
placed_by (Refused why) = 0
placed_by (Done answer) = placed_by_answer answer

-- just so many placements are added, by each step of every run
abbrev pub PlacementsAreTold : Type 0
PlacementsAreTold =
    (c : Cluster)
    → IsCluster c
    → (events : List Event) (w : World)
    → Run c (new_world c) events w
    → (e : Event) (outcome : Outcome) (w' : World)
    → WorldStep c w e outcome w'
    → length w'.placements ≡ length w.placements + placed_by outcome
