use Rattle.std.proofs.Common.{◌≡◌, ◌++◌, take}
use Rattle.outbox.specs.Views.{bytes_of_all}
use Rattle.outbox.specs.Kept.{copied_of, written_in}
use Rattle.outbox.proofs.entry_queue.append_first.Given as goal

abbrev pub invariant-loop-place : goal.invariant-loop-place
invariant-loop-place l = record {
  at : l.at ≡ copied_of (take l.place l.kept.items);
  out : l.out.items ≡ l.fn.out.items ++ bytes_of_all (take l.place (written_in l.kept.items l.text));
}
