use Rattle.std.proofs.Common.{◌≡◌, take}
use Rattle.outbox.specs.Kept.{copied_of, written_in}
use Rattle.outbox.proofs.entry_queue.copy_first.Given as goal

abbrev pub invariant-loop-place : goal.invariant-loop-place
invariant-loop-place l = record {
  at : l.at ≡ copied_of (take l.place l.kept.items);
  copies : l.copies.items ≡ take l.place (written_in l.kept.items l.text);
}
