-- Claims won: of each pair of a turn and an index at most one shard wins, over the window of the
-- newest turns issued (profile).
use Rattle.std.specs.Prelude.{◌≡◌, ℕ, ◌+◌, ◌-◌, ◌<◌, ◌≤◌, Bool, ◌&&◌, nat_eq, nat_lt, is_none, List, [], length, find, position, replicate, slice_index, slice_set, Option, Some, None, if◌then◌else◌}
use Rattle.std.specs.Option.{option_map}
use Rattle.subj.specs.declared.limits.TheConstants.{WINDOW, MAX_QUEUE_NAMES}
use Rattle.subj.specs.declared.turns.Busy.{Busy}

-- the shard won the index in the turn
pub record Win : Type 0 where
  pub turn : ℕ
  pub index : ℕ
  pub shard : ℕ

-- What a race shows: the last turn issued; by shard, that of shard 1 first, the last turn that it
-- finished and the least index that it may claim next; and the claims won, in any order. It may
-- have forgotten those of turns that left the window.
pub record RaceState : Type 0 where
  pub issued : ℕ
  pub finished : List ℕ
  pub next : List ℕ
  pub won : List Win

abbrev pub shards_of : RaceState → ℕ
shards_of race = length race.finished

abbrev pub finished_of : RaceState → ℕ → ℕ
finished_of race shard = slice_index race.finished (shard - 1)

abbrev pub next_of : RaceState → ℕ → ℕ
next_of race shard = slice_index race.next (shard - 1)

abbrev pub is_of_pair : ℕ → ℕ → Win → Bool
is_of_pair turn index win = nat_eq win.turn turn && nat_eq win.index index

-- the shard that won the index in the turn
unfoldable pub winner : RaceState → ℕ → ℕ → Option ℕ
winner race turn index = option_map (λ win. win.shard) (find (is_of_pair turn index) race.won)

-- what was won is the same, as far as the window of the new turns goes
pub record KeepsWinners (old new : RaceState) : Type 0 where
  pub winners : (turn index : ℕ)
      → new.issued < turn + WINDOW
      → winner new turn index ≡ winner old turn index

-- a race at its start: no turn is issued, and nothing is won
pub record IsNew (shards : ℕ) (race : RaceState) : Type 0 where
  pub issued : race.issued ≡ 0
  pub finished : race.finished ≡ replicate shards 0
  pub next : race.next ≡ replicate shards 0
  pub won : race.won ≡ []

-- the shard is one of the race, and the turn behind the last that it finished is issued
pub record IsInTurn (race : RaceState) (shard turn : ℕ) : Type 0 where
  pub first : 1 ≤ shard
  pub last : shard ≤ shards_of race
  pub follows : turn ≡ finished_of race shard + 1
  pub issued : turn ≤ race.issued

-- the index may be one of a job, and comes behind those that the shard claimed in the turn
pub record IsNextIndex (race : RaceState) (shard index : ℕ) : Type 0 where
  pub least : next_of race shard ≤ index
  pub most : index < MAX_QUEUE_NAMES

-- a shard is too far behind for one more turn
abbrev pub is_behind : ℕ → ℕ → Bool
is_behind issued finished = nat_lt (finished + WINDOW) (issued + 1)

-- the first such shard
abbrev pub busy_at : List ℕ → ℕ → Busy
busy_at finished place = record { shard = place + 1; finished = slice_index finished place }

unfoldable pub busy_of : ℕ → List ℕ → Option Busy
busy_of issued finished = option_map (busy_at finished) (position (is_behind issued) finished)

-- the next turn is issued, and nothing is won in it yet
pub record IsIssued (old : RaceState) (turn : ℕ) (new : RaceState) : Type 0 where
  pub after : turn ≡ old.issued + 1
  pub issued : new.issued ≡ turn
  pub finished : new.finished ≡ old.finished
  pub next : new.next ≡ old.next
  pub kept : KeepsWinners old new
  pub fresh : (index : ℕ) → winner new turn index ≡ None

-- who has won a pair after a claim
abbrev pub winner_after : RaceState → ℕ → ℕ → ℕ → ℕ → ℕ → Option ℕ
winner_after race shard turn index t i =
    if nat_eq t turn && nat_eq i index then Some shard else winner race t i

-- a claim is won just where nobody had won the pair; then the shard has won it, and no other pair
-- changes
pub record IsClaimed (old : RaceState) (shard turn index : ℕ) (won : Bool) (new : RaceState) :
    Type 0 where
  pub decided : won ≡ is_none (winner old turn index)
  pub issued : new.issued ≡ old.issued
  pub finished : new.finished ≡ old.finished
  pub next : new.next ≡ slice_set old.next (shard - 1) (index + 1)
  pub pair : winner new turn index ≡ (if won then Some shard else winner old turn index)
  pub winners : (t i : ℕ)
      → new.issued < t + WINDOW
      → winner new t i ≡ (if won then winner_after old shard turn index t i else winner old t i)

-- the shard has done with the turn
pub record IsFinished (old : RaceState) (shard turn : ℕ) (new : RaceState) : Type 0 where
  pub issued : new.issued ≡ old.issued
  pub finished : new.finished ≡ slice_set old.finished (shard - 1) turn
  pub next : new.next ≡ slice_set old.next (shard - 1) 0
  pub kept : KeepsWinners old new
