-- The keys that are still to come.
use Rattle.std.specs.Prelude.{ℕ, List}
use Rattle.subj.specs.declared.keys.Key.{Key}
use Rattle.interest.specs.declared.keys.Keys.{Keys}

abbrev pub keys_left : Keys → List (Key × ℕ)
keys_left keys = keys.left.now
