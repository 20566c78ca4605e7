-- What the calls promise.
use Rattle.std.specs.Prelude.{◌≡◌, ℕ, ◌+◌, ◌-◌, ◌*◌, ◌<◌, ◌≤◌, ◌⊎◌, List, ◌++◌, length, map, replicate, slice_index, Result, Some}
use Rattle.atomic_table.specs.Table.{Me}
use Rattle.subj.specs.Answers.{IsDecided}
use Rattle.subj.specs.Numbers.{finished_turn}
use Rattle.subj.specs.declared.limits.TheConstants.{MAX_COUNTER, MAX_QUEUE_NAMES, MAX_SHARDS, WINDOW}
use Rattle.subj.specs.declared.turns.Busy.{Busy}
use Rattle.claim_race.specs.Race.{busy_of}
use Rattle.claim_cells.specs.declared.parts.HubPart.{HubPart}
use Rattle.claim_cells.specs.declared.parts.ShardPart.{ShardPart}
use Rattle.claim_cells.specs.declared.parts.View.{View}
use Rattle.claim_cells.specs.Rule.{At, Has, Law, Words, IsCell, newcomer, cell, row}
use Rattle.claim_cells.specs.Steps.{hub_of, with_hub, issued_one, with_loads, Rises, IsIssuedAt}
use Rattle.claim_cells.specs.Seats.{RaceId, ShardShown}

-- one seat of this race for each shard, in their order, as they are at the start
abbrev pub AllNew : RaceId → ℕ → List ShardShown → Type 0
AllNew race shards seats =
    (length seats ≡ shards)
    × ((s : ℕ) (seat : ShardShown) → At seats s seat
    → (seat.race ≡ race) × (seat.part ≡ newcomer (s + 1)))

-- the last finished turns of the shards, and 0 for each shard that the race does not have
abbrev pub finished_list : List ℕ → List ℕ
finished_list found = found ++ replicate (MAX_SHARDS - length found) 0

-- these are loads of each shard's last finished turn, one a shard in their order
abbrev pub IsRound : ℕ → HubPart → List ℕ → Type 0
IsRound shards before found = (length found ≡ shards) × Rises before found

-- the hub's part has gained the loads that are answered
abbrev pub IsLooked : ℕ → HubPart → List ℕ → HubPart → Type 0
IsLooked shards before answer after =
    (found : List ℕ)
    × IsRound shards before found
    × (answer ≡ finished_list found)
    × (after ≡ with_loads before found)

-- each of these turns is a load of the shard's last finished turn
abbrev pub AreLoads : ℕ → HubPart → List ℕ → Type 0
AreLoads shards part turns =
    (s : ℕ) → s < shards → Has part.loads (s + 1, finished_turn turns (s + 1))

-- by the loads so far, no shard is too far behind for one more turn
abbrev pub ShowsRoom : ℕ → HubPart → Type 0
ShowsRoom shards part =
    (s : ℕ) → s < shards → (f : ℕ) × Has part.loads (s + 1, f) × (part.issued + 1 ≤ f + WINDOW)

-- By one load of each shard's last finished turn, made in this call: the next turn is issued where
-- no shard is too far behind, and else the first such shard is named with its load. The hub's part
-- has gained these loads.
abbrev pub IsIssuedOrBusy : ℕ → HubPart → Result ℕ Busy → HubPart → Type 0
IsIssuedOrBusy shards before result after =
    (found : List ℕ)
    × IsRound shards before found
    × IsDecided (busy_of before.issued found)
    (λ turn. (turn ≡ before.issued + 1) × (after ≡ issued_one (with_loads before found)))
    (after ≡ with_loads before found) result

-- the same of any seat that has the hub's part; the loads are what the shards' parts say that it
-- has
module _ {S : Type 0} where
  abbrev pub IsRoundAt : ℕ → Me S View → List ℕ → Me S View → Type 0
  IsRoundAt shards m found k =
      IsRound shards (hub_of m) found
      × ((at : ℕ) × (k ≡ (with_hub m.0 (with_loads (hub_of m) found) at, m.1)))
      × ((s f i : ℕ) (p : ShardPart) → At found s f → At m.0.shards i p → p.shard ≡ s + 1
      → f ≡ p.finished)

  abbrev pub IsIssueAt : ℕ → Me S View → Result ℕ Busy → Me S View → Type 0
  IsIssueAt shards m result k =
      (found : List ℕ)
      × (between : Me S View)
      × IsRoundAt shards m found between
      × IsDecided (busy_of (hub_of m).issued found)
      (λ turn. (turn ≡ (hub_of m).issued + 1) × IsIssuedAt (hub_of between) between k) (k ≡ between)
      result

-- these are seats of this race
abbrev pub AllOf : RaceId → List ShardShown → Type 0
AllOf race seats = (i : ℕ) (seat : ShardShown) → At seats i seat → seat.race ≡ race

-- each shard's seat is among these
abbrev pub HasEach : ℕ → List ShardShown → Type 0
HasEach shards seats =
    (s : ℕ)
    → s < shards
    → (i : ℕ) × (seat : ShardShown) × At seats i seat × (seat.part.shard ≡ s + 1)

-- these parts, in the order of the shards, are those of the seats
abbrev pub IsPartsOf : List ShardShown → List ShardPart → Type 0
IsPartsOf seats all =
    ((s : ℕ) (p : ShardPart) → At all s p
    → (i : ℕ) × (seat : ShardShown) × At seats i seat × (p ≡ seat.part))
    × ((i : ℕ) (seat : ShardShown) → At seats i seat → At all (row seat.part) seat.part)

-- The last words are those of the parts, and the rule holds of the parts.
pub record IsOver (limit window names count : ℕ) (hub : HubPart) (all : List ShardPart) (turn : ℕ)
    (turns claims : List ℕ) : Type 0 where
  pub law : Law limit window names hub all
  pub shards : length all ≡ count
  pub issued : turn ≡ hub.issued
  pub finished : turns ≡ finished_list (map (λ p. p.finished) all)
  pub width : length claims ≡ window * names
  pub greatest : (s t x : ℕ) (p : ShardPart)
      → At all s p
      → Has p.won (t, x)
      → t ≤ slice_index claims (cell window names t x)
  pub cells : (c : ℕ) → c < window * names → IsCell window names all c (slice_index claims c)

abbrev pub IsClosed : RaceId → HubPart → List ShardShown → ℕ → List ℕ → List ℕ → Type 0
IsClosed race hub seats issued finished cells =
    (all : List ShardPart)
    × IsPartsOf seats all
    × IsOver MAX_COUNTER WINDOW MAX_QUEUE_NAMES race.shards hub all issued finished cells

-- The rule holds of the last words and of the parts.
abbrev pub IsGathered : RaceId → HubPart → List ShardShown → List ℕ → Type 0
IsGathered race hub seats words =
    (all : List ShardPart)
    × IsPartsOf seats all
    × Law MAX_COUNTER WINDOW MAX_QUEUE_NAMES hub all
    × Words WINDOW MAX_QUEUE_NAMES race.shards words hub all

-- the view has the hub's part, and the part of each seat that is not left
abbrev pub Gathers : HubPart → List ShardShown → List ShardShown → View → Type 0
Gathers hub seats left view =
    (view.hub ≡ Some hub)
    × ((i : ℕ) (seat : ShardShown) → At seats i seat → At left i seat ⊎ Has view.shards seat.part)

-- the last words of a race
pub record IsLast (limit : ℕ) (filled : Type 0) (words : List ℕ) (word_count slot_count : ℕ) :
    Type 0 where
  pub full : filled
  pub width : word_count ≡ length words
  pub slots : slot_count ≡ 0
  pub limited : (i : ℕ) → slice_index words i ≤ limit
