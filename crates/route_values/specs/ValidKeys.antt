-- Keys that hold only what can be spelt, with their weights.
use Rattle.std.specs.Prelude.{◌≡◌, ℕ, true, List, [], ◌∷◌, Option, Some, None}
use Rattle.subj.specs.declared.keys.Key.{Key}
use Rattle.subj.specs.Names.{pattern_fault, queue_name_fault}
use Rattle.route_values.specs.Snapshots.{Weighted, is_weight, are_snapshot_keys}

abbrev pub IsQueue : Option (List ℕ) → Type 0
IsQueue None = Unit {0}
IsQueue (Some queue) = queue_name_fault queue ≡ None

pub record IsKey (key : Key) : Type 0 where
  pub pattern : pattern_fault key.pattern ≡ None
  pub queue : IsQueue key.queue

pub record IsWeighted (weighted : Weighted) : Type 0 where
  pub key : IsKey weighted.0
  pub weight : is_weight weighted.0 weighted.1 ≡ true

abbrev pub AreWeighted : List Weighted → Type 0
AreWeighted [] = Unit {0}
AreWeighted (weighted ∷ others) = IsWeighted weighted × AreWeighted others

pub record AreSnapshotKeys (keys : List Weighted) : Type 0 where
  pub each : AreWeighted keys
  pub ordered : are_snapshot_keys keys ≡ true
