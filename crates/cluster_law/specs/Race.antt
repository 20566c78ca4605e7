-- Issuing turns, and which claims were won: of each pair of a turn and a queue name's index one
-- claim wins, over all shards of the node (profile).
use Rattle.std.specs.Prelude.{◌≡◌, ◌⊎◌, ◌↔◌, ℕ, suc, ◌+◌, ◌<◌, ◌≤◌, List, slice_get, Some}
use Rattle.list_laws.specs.Lists.{In}
use Rattle.cluster_law.specs.Rules.{Where}
use Rattle.cluster_law.specs.Config.{Rules}

-- The last turn issued, and the pairs (turn, index) that were won.
pub record Race : Type 0 where
  pub issued : ℕ
  pub won : List (ℕ × ℕ)

-- Which pairs were won is kept over the window, the newest turns issued, alone.
abbrev pub KeptOver : ℕ → ℕ → List (ℕ × ℕ) → List (ℕ × ℕ) → Type 0
KeptOver window issued old new =
    (turn index : ℕ) → issued < turn + window → In (turn, index) old ↔ In (turn, index) new

-- A step that decides no claim.
pub record Keeps (window : ℕ) (race new : Race) : Type 0 where
  pub issued : new.issued ≡ race.issued
  pub kept : KeptOver window race.issued race.won new.won

-- The next turn is issued: each shard, seen by its finished turns, is less than a window behind.
pub record Issues (rules : Rules) (window : ℕ) (finished : List ℕ) (race new : Race) : Type 0 where
  pub room : Where rules.window
      ((s done : ℕ) → slice_get finished s ≡ Some done → suc race.issued ≤ done + window)
  pub issued : new.issued ≡ suc race.issued
  pub kept : KeptOver window new.issued race.won new.won

-- A claim is won: the pair was not won, and over the window it is the only new one.
pub record WinsPair (rules : Rules) (window : ℕ) (race : Race) (turn index : ℕ) (new : Race) :
    Type 0 where
  pub unwon : Where rules.unwon (In (turn, index) race.won → ⊥)
  pub issued : new.issued ≡ race.issued
  pub gains : (t i : ℕ)
      → race.issued < t + window
      → In (t, i) new.won ↔ (In (t, i) race.won ⊎ ((t ≡ turn) × (i ≡ index)))
