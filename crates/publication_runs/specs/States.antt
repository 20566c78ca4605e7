-- Where a scan stands.
use Rattle.std.specs.Prelude.{ℕ, List}

pub record RunState : Type 0 where
  -- what stands behind the publications that were given
  pub behind : List ℕ
  -- how many may still be given
  pub left : ℕ
