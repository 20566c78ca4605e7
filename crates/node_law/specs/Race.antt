-- The race of a server as the cluster law's race: a pair is won there just where some shard has won
-- it.
use Rattle.std.specs.Prelude.{◌≡◌, ℕ, suc, true, false, Bool, map}
use Rattle.list_laws.specs.Lists.{In}
use Rattle.cluster_law.specs.Config.{every_rule}
use Rattle.cluster_law.specs.Race.{Race, KeptOver, Keeps, WinsPair}
use Rattle.claim_race.specs.Race.{Win, RaceState, IsIssued, IsClaimed, IsFinished}
use Rattle.subj.specs.declared.limits.TheConstants.{WINDOW}

abbrev pub pair_of : Win → ℕ × ℕ
pair_of win = (win.turn, win.index)

abbrev pub race_of : RaceState → Race
race_of race = record { issued = race.issued; won = map pair_of race.won }

-- one turn more, and over its window the same pairs
pub record IssuesNext (old new : Race) : Type 0 where
  pub issued : new.issued ≡ suc old.issued
  pub kept : KeptOver WINDOW new.issued old.won new.won

-- a claim that is won takes a pair that was free; one that is lost finds it taken
abbrev pub Decides : Race → ℕ → ℕ → Bool → Race → Type 0
Decides old turn index true new = WinsPair every_rule WINDOW old turn index new
Decides old turn index false new = In (turn, index) old.won × Keeps WINDOW old new

-- what the calls of a race promise
pub record RaceFollows : Type 0 where
  pub issues : (old : RaceState) (turn : ℕ) (new : RaceState)
      → IsIssued old turn new
      → IssuesNext (race_of old) (race_of new)
  pub claims : (old : RaceState) (shard turn index : ℕ) (won : Bool) (new : RaceState)
      → IsClaimed old shard turn index won new
      → Decides (race_of old) turn index won (race_of new)
  pub finishes : (old : RaceState) (shard turn : ℕ) (new : RaceState)
      → IsFinished old shard turn new
      → Keeps WINDOW (race_of old) (race_of new)
