-- What is seen of a buffer whose front is used up.
use Rattle.std.specs.Prelude.{ℕ, List}

pub record WindowState : Type 0 where
  -- bytes that were used up, and still lie in front of the unread ones
  pub used : List ℕ
  -- bytes that came in and were not used yet
  pub unread : List ℕ
