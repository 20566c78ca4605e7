use Rattle.std.proofs.Common.{◌≡◌, ◌++◌, drop}
use Rattle.hub_core.proofs.audience.copies_of.Given as goal

abbrev pub invariant-loop-place : goal.invariant-loop-place
invariant-loop-place l = l.copies.items ++ drop l.place l.names ≡ l.names
