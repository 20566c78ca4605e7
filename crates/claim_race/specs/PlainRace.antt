-- The race as a table that is used again: the place of a pair, and what a race with such a table
-- shows.
use Rattle.std.specs.Prelude.{◌≡◌, ℕ, ◌+◌, ◌*◌, ◌%◌, ◌<◌, ◌≤◌, Bool, false, nat_eq, List, [], ◌∷◌, length, map, slice_index, slice_index_or, Option, Some, None}
use Rattle.subj.specs.declared.limits.TheConstants.{WINDOW, MAX_QUEUE_NAMES}
use Rattle.claim_race.specs.declared.plain_race.Progress.{Progress}
use Rattle.claim_race.specs.declared.plain_race.Claimed.{Claimed}
use Rattle.claim_race.specs.Race.{Win, RaceState}

abbrev pub cell : ℕ → ℕ → ℕ
cell turn index = turn % WINDOW * MAX_QUEUE_NAMES + index

abbrev pub win_of : Claimed → Win
win_of claimed = record { turn = claimed.turn; index = claimed.index; shard = claimed.shard }

abbrev pub wins_in : List (Option Claimed) → List Win
wins_in [] = []
wins_in (None ∷ table) = wins_in table
wins_in (Some claimed ∷ table) = win_of claimed ∷ wins_in table

abbrev pub finished_in : List Progress → List ℕ
finished_in progress = map (λ shard. shard.finished) progress

abbrev pub next_in : List Progress → List ℕ
next_in progress = map (λ shard. shard.next) progress

abbrev pub race_of_table : ℕ → List Progress → List (Option Claimed) → RaceState
race_of_table issued progress table = record {
  issued = issued;
  finished = finished_in progress;
  next = next_in progress;
  won = wins_in table;
}

-- the place holds a claim of the turn
abbrev pub is_of_turn : ℕ → Option Claimed → Bool
is_of_turn turn None = false
is_of_turn turn (Some claimed) = nat_eq claimed.turn turn

-- what stands at a place belongs there, and no shard is more than a window behind
pub record IsTable (issued : ℕ) (finished : List ℕ) (table : List (Option Claimed)) : Type 0 where
  pub width : length table ≡ WINDOW * MAX_QUEUE_NAMES
  pub placed : (place : ℕ) (claimed : Claimed)
      → slice_index_or table place None ≡ Some claimed
      → (cell claimed.turn claimed.index ≡ place) × (claimed.index < MAX_QUEUE_NAMES)
      × (claimed.turn ≤ issued)
  pub near : (place : ℕ) → place < length finished → issued ≤ slice_index finished place + WINDOW
