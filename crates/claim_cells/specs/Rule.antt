-- The rule of the race (profile): it holds between any two steps, over the words and over the parts
-- of all seats.
use Rattle.std.specs.Prelude.{◌≡◌, ℕ, zero, suc, ◌+◌, ◌-◌, ◌*◌, ◌%◌, ◌<◌, ◌≤◌, ◌≢◌, ◌⊎◌, List, [], ◌∷◌, ◌++◌, length, slice_index, Some, None}
use mathlib.Core.Option.{some}
use lib.ListN.{get_elem?}
use Rattle.atomic_table.specs.Table.{State}
use Rattle.claim_cells.specs.declared.parts.HubPart.{HubPart}
use Rattle.claim_cells.specs.declared.parts.ShardPart.{ShardPart}
use Rattle.claim_cells.specs.declared.parts.View.{View}

-- the element at a place
abbrev pub At : {A : Type 0} → List A → ℕ → A → Type 0
At xs i x = get_elem? xs i ≡ some x

abbrev pub Has : {A : Type 0} → List A → A → Type 0
Has xs x = (i : ℕ) × At xs i x

-- a shard's part at the start
abbrev pub newcomer : ℕ → ShardPart
newcomer shard = record { shard = shard; loads = []; finished = 0; next = 0; won = []; lost = [] }

-- those of so many shards, from this one on
abbrev pub newcomers : ℕ → ℕ → List ShardPart
newcomers shard zero = []
newcomers shard (suc n) = newcomer shard ∷ newcomers (suc shard) n

abbrev pub fresh_hub : HubPart
fresh_hub = record { issued = 0; loads = [] }

-- the view of the first seat, which has all parts
abbrev pub whole_view : ℕ → View
whole_view count = record {
  hub = Some fresh_hub;
  shards = newcomers 1 count;
  at = 0;
  count = count;
}

abbrev pub rest_parts : List ShardPart → List ShardPart
rest_parts [] = []
rest_parts (p ∷ ps) = ps

abbrev pub first_parts : List ShardPart → List ShardPart
first_parts [] = []
first_parts (p ∷ ps) = p ∷ []

-- a seat is split: the first shard's part goes to the new seat
abbrev pub rest_of : View → View
rest_of v = record { hub = v.hub; shards = rest_parts v.shards; at = 0; count = v.count }

abbrev pub first_of_view : View → View
first_of_view v = record { hub = None; shards = first_parts v.shards; at = 0; count = v.count }

-- two seats are joined: the first takes in the shards' parts of the second, which is spent
abbrev pub joined_view : View → View → View
joined_view v w = record { hub = v.hub; shards = v.shards ++ w.shards; at = 0; count = v.count }

abbrev pub spent_view : View
spent_view = record { hub = None; shards = []; at = 0; count = 0 }

-- the pairs of a list are of turns issued and up to the one behind the finished turn, in which they
-- stand below the next index
abbrev pub InTurn : ℕ → ℕ → ShardPart → List (ℕ × ℕ) → Type 0
InTurn names issued p pairs =
    (t x : ℕ)
    → Has pairs (t, x)
    → (t ≤ p.finished + 1) × (t ≤ issued) × (x < names) × (t ≡ p.finished + 1 → x < p.next)

-- What holds of the parts alone. They stand in the order of the shards.
pub record Law (limit window names : ℕ) (hub : HubPart) (all : List ShardPart) : Type 0 where
  -- shards are counted from 1
  pub named : (s : ℕ) (p : ShardPart) → At all s p → p.shard ≡ s + 1
  -- a turn has its limit
  pub limited : hub.issued ≤ limit
  -- a shard finishes only turns that were issued
  pub finishes : (s : ℕ) (p : ShardPart) → At all s p → p.finished ≤ hub.issued
  -- each load is at most its word
  pub looks : (s f : ℕ) (p : ShardPart) → Has hub.loads (p.shard, f) → At all s p → f ≤ p.finished
  pub sees : (s n : ℕ) (p : ShardPart) → At all s p → Has p.loads n → n ≤ hub.issued
  -- no shard is more than a window behind
  pub near : (s : ℕ) (p : ShardPart) → At all s p → hub.issued ≤ p.finished + window
  -- pairs are won and lost in turns that the shard was in
  pub won : (s : ℕ) (p : ShardPart) → At all s p → InTurn names hub.issued p p.won
  pub lost : (s : ℕ) (p : ShardPart) → At all s p → InTurn names hub.issued p p.lost
  -- no pair stands in two won lists, or twice in one
  pub once : (s r i j : ℕ) (p q : ShardPart) (pair : ℕ × ℕ)
      → At all s p
      → At all r q
      → At p.won i pair
      → At q.won j pair
      → (s ≡ r) × (i ≡ j)
  -- each lost pair stands in the won list of another part
  pub others : (s : ℕ) (p : ShardPart) (pair : ℕ × ℕ)
      → At all s p
      → Has p.lost pair
      → (r : ℕ) × (q : ShardPart) × (r ≢ s) × At all r q × Has q.won pair

-- the place of a pair among the claim words
abbrev pub cell : ℕ → ℕ → ℕ → ℕ → ℕ
cell window names t x = t % window * names + x

-- a claim word is 0, or the turn of a pair won there
abbrev pub IsCell : ℕ → ℕ → List ShardPart → ℕ → ℕ → Type 0
IsCell window names all c n =
    (n ≡ 0)
    ⊎ ((x s : ℕ) × (p : ShardPart) × At all s p × Has p.won (n, x) × (cell window names n x ≡ c))

-- What the words say of the parts: the last turn issued, each shard's last finished turn, and the
-- claim words. The number of shards is told by that of the words.
pub record Words (window names count : ℕ) (words : List ℕ) (hub : HubPart) (all : List ShardPart) :
    Type 0 where
  pub width : length words ≡ count + 1 + window * names
  pub shards : length all ≡ count
  pub issued : slice_index words 0 ≡ hub.issued
  pub finished : (s : ℕ) (p : ShardPart) → At all s p → slice_index words (s + 1) ≡ p.finished
  -- no won pair is above its word, so the word has the greatest turn won there
  pub greatest : (s t x : ℕ) (p : ShardPart)
      → At all s p
      → Has p.won (t, x)
      → t ≤ slice_index words (count + 1 + cell window names t x)
  pub cells : (c : ℕ)
      → c < window * names
      → IsCell window names all c (slice_index words (count + 1 + c))

-- the place of a part among all
abbrev pub row : ShardPart → ℕ
row p = p.shard - 1

-- a shard's part stands at this place of a seat
abbrev pub StandsAt : List View → ℕ × ℕ → ShardPart → Type 0
StandsAt views place p = (v : View) × At views place.0 v × At v.shards place.1 p

-- Each part stands in just one view: that at the row s of all has the place (seat, position), and
-- the hub's the seat `desk`
pub record Seated (views : List View) (hub : HubPart) (all : List ShardPart) : Type 0 where
  pub place : ℕ → ℕ × ℕ
  pub desk : ℕ
  -- it stands nowhere else
  pub shards : (id i : ℕ) (v : View) (p : ShardPart)
      → At views id v
      → At v.shards i p
      → At all (row p) p × (place (row p) ≡ (id, i))
  pub hubs : (id : ℕ) (v : View) (h : HubPart)
      → At views id v
      → v.hub ≡ Some h
      → (h ≡ hub) × (id ≡ desk)
  -- it stands there
  pub each : (s : ℕ) (p : ShardPart) → At all s p → StandsAt views (place s) p
  pub one : (v : View) × At views desk v × (v.hub ≡ Some hub)

abbrev pub Kept : {S : Type 0} → ℕ → ℕ → ℕ → ℕ → State S View → Type 0
Kept limit window names count s =
    (hub : HubPart)
    × (all : List ShardPart)
    × Law limit window names hub all
    × Words window names count s.words hub all
    × Seated s.views hub all
