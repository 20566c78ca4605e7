-- A header block and the payload behind it, which share one piece of memory.
use Rattle.std.specs.Prelude.{◌≡◌, ℕ, ◌≤◌, true, List, length, take, drop, Option, Some, None}
use Rattle.subj.specs.Messages.{is_block}
use Rattle.subj.specs.declared.bodies.Headed.{Headed}
use Rattle.subj.specs.declared.limits.TheConstants.{MAX_PAYLOAD}

abbrev pub block_in : Headed → List ℕ
block_in headed = take headed.size headed.whole

-- the block is the first part, and the payload is what stands behind it
pub record IsHeaded (headed : Headed) (payload : List ℕ) : Type 0 where
  pub within : headed.size ≤ length headed.whole
  pub behind : payload ≡ drop headed.size headed.whole
  pub begun : is_block (block_in headed) ≡ true
  pub most : length headed.whole ≤ MAX_PAYLOAD

abbrev pub IsWithin : Option Headed → List ℕ → Type 0
IsWithin None payload = length payload ≤ MAX_PAYLOAD
IsWithin (Some headed) payload = IsHeaded headed payload
