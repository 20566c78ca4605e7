use Rattle.std.proofs.Common.{◌≡◌, ℕ, ◌+◌, ◌≤◌, length, take}
use Rattle.outbox.proofs.entry_queue.EntryQueue.truncate.Given as goal

abbrev pub invariant-loop-dropped : goal.invariant-loop-dropped
invariant-loop-dropped l = record {
  entries : l.self.entries ≡ take (length l.self.entries) l.fn.self.entries;
  left : length l.self.entries + l._dropped ≡ length l.fn.self.entries + l.count;
  places : (count : ℕ) → count ≤ length l.self.entries → count + 1 ≤ l.fn.self.places → count + 1 ≤ l.self.places;
}
