-- A race of one thread, on one seat that has all parts.
use Rattle.std.specs.Prelude.{◌≡◌, ℕ, List, [], ◌∷◌, ◌++◌, map}
use Rattle.atomic_table.specs.Table.{Me}
use Rattle.claim_race.specs.Race.{RaceState, Win}
use Rattle.claim_cells.specs.declared.parts.ShardPart.{ShardPart}
use Rattle.claim_cells.specs.declared.parts.View.{View}
use Rattle.claim_cells.specs.Steps.{hub_of, HasAll, HasHub}
use Rattle.claim_cells.specs.Seats.{RaceId}
use Rattle.claim_cells.specs.Calls.{finished_list}

abbrev pub finished_in : List ShardPart → List ℕ
finished_in parts = map (λ p. p.finished) parts

abbrev pub next_in : List ShardPart → List ℕ
next_in parts = map (λ p. p.next) parts

abbrev pub wins_of : ShardPart → List Win
wins_of p = map (λ (pair : ℕ × ℕ). record { turn = pair.0; index = pair.1; shard = p.shard }) p.won

-- what all shards won
abbrev pub wins_in : List ShardPart → List Win
wins_in [] = []
wins_in (p ∷ parts) = wins_of p ++ wins_in parts

abbrev pub race_of_seat : {S : Type 0} → Me S View → RaceState
race_of_seat m = record {
  issued = (hub_of m).issued;
  finished = finished_in m.0.shards;
  next = next_in m.0.shards;
  won = wins_in m.0.shards;
}

-- the seat has all parts
abbrev pub IsWhole : {S : Type 0} → Me S View → Type 0
IsWhole m = HasAll m.0 × HasHub m × (m.1 ≡ [])

-- the fields of a race on one seat
pub record IsOneSeat {S : Type 0} (cells seat : RaceId) (m : Me S View) (issued : ℕ)
    (turns : List ℕ) : Type 0 where
  pub whole : IsWhole m
  pub same : seat ≡ cells
  pub last : (hub_of m).issued ≡ issued
  pub finished : turns ≡ finished_list (finished_in m.0.shards)
