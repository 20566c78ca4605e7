use Rattle.std.proofs.Common.{◌≡◌, ◌++◌, false, take, drop}
use Rattle.interest.specs.Counts.{IsInterest}
use Rattle.interest.specs.Told.{counts_told, changes_told, are_refused}
use Rattle.interest.specs.Tally.{keys_opened}
use Rattle.interest.proofs.local.Local.plan_few.Given as goal

abbrev pub invariant-loop-place : goal.invariant-loop-place
invariant-loop-place l = record {
  valid : IsInterest (counts_told l.self (take l.place l.deltas));
  taken : are_refused (counts_told l.self (take l.place l.deltas)) (drop l.place l.deltas) ≡ false;
  opened : l.plan.opened.items ++ keys_opened (counts_told l.self (take l.place l.deltas)) (drop l.place l.deltas)
      ≡ keys_opened l.self l.deltas;
  changes : l.plan.changes.items ++ changes_told (counts_told l.self (take l.place l.deltas)) (drop l.place l.deltas)
      ≡ changes_told l.self l.deltas;
}
