use Rattle.std.proofs.Common.{◌≡◌, false, drop}
use Rattle.interest.specs.Told.{counts_told, are_refused}
use Rattle.interest.specs.Tally.{keys_opened}
use Rattle.interest.proofs.local.Local.commit_few.Given as goal

abbrev pub invariant-loop-delta : goal.invariant-loop-delta
invariant-loop-delta l = record {
  taken : are_refused l.self (drop l.delta-index l.deltas) ≡ false;
  counts : counts_told l.self (drop l.delta-index l.deltas) ≡ counts_told l.fn.self l.deltas;
  opened : l.opened.items ≡ keys_opened l.self (drop l.delta-index l.deltas);
}
