use Rattle.std.proofs.Common.{◌≡◌, ◌-◌, take}
use Rattle.outbox.specs.Views.{size_of}
use Rattle.outbox.specs.Kept.{written_in}
use Rattle.outbox.proofs.entry_queue.EntryQueue.bytes_left.Given as goal

abbrev pub invariant-loop-place : goal.invariant-loop-place
invariant-loop-place l =
    l.left ≡ l.bytes - size_of (take l.place (written_in l.self-inside.kept.items l.self-inside.text))
