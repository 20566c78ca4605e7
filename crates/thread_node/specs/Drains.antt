-- A drain of all shards, once the hub has answered (profile).
use Rattle.std.specs.Prelude.{◌≡◌, ◌||◌, ℕ, Bool, true, false, Option, Some, None, Result, Ok, Err, if◌then◌else◌}
use Rattle.std.specs.List.{FoldsTo, range_with_len}
use Rattle.subj.specs.declared.failures.Failure.{Failure}
use Rattle.subj.specs.declared.failures.Failure.TheVariants.{Refused, OutOfMemory}
use Rattle.hub_core.specs.declared.faults.HubFault.{HubFault}
use Rattle.hub_core.specs.declared.faults.HubFault.TheVariants.{Draining}
use Rattle.node_law.specs.declared.faults.NodeFault.{NodeFault}
use Rattle.node_law.specs.declared.faults.NodeFault.TheVariants.{Hub}

abbrev pub hub_failure : Failure HubFault → Failure NodeFault
hub_failure (Refused fault) = Refused (Hub fault)
hub_failure OutOfMemory = OutOfMemory

-- one shard is asked, which says whether it drains only now; and whether any did so far
pub record Asks {F : Type 0} (step : F → ℕ → Bool → F → Type 0) (before : F × Bool) (shard : ℕ)
    (after : F × Bool) : Type 0 where
  pub is_new : Bool
  pub asked : step before.0 shard is_new after.0
  pub any : after.1 ≡ (is_new || before.1)

-- each shard is asked once, in order, whatever those before it said
pub record AreAsked {F : Type 0} (step : F → ℕ → Bool → F → Type 0) (drain : F) (shards : ℕ)
    (before any : Bool) : Type 0 where
  pub last : F
  pub asked : FoldsTo (Asks step) (drain, before) (range_with_len 1 shards) (last, any)

-- The answer to all: what the hub told; nothing, where it drained already and a shard did not; else
-- 59. For another cause the hub's answer is all.
abbrev pub DrainsAll : {F T : Type 0}
    → (F → ℕ → Bool → F → Type 0)
    → F
    → ℕ
    → Result T (Failure HubFault)
    → Result (Option T) (Failure NodeFault)
    → Type 0
DrainsAll step drain shards (Ok told) result =
    AreAsked step drain shards true true × (result ≡ Ok (Some told))
DrainsAll step drain shards (Err (Refused Draining)) result =
    (any : Bool)
    × AreAsked step drain shards false any
    × (result ≡ (if any then Ok None else Err (Refused (Hub Draining))))
DrainsAll step drain shards (Err why) result = result ≡ Err (hub_failure why)
