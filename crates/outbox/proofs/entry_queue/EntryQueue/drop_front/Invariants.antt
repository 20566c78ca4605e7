use Rattle.std.proofs.Common.{◌≡◌, ◌+◌, ◌-◌, ◌≤◌, length, take, drop}
use Rattle.outbox.specs.Views.{size_of}
use Rattle.outbox.proofs.entry_queue.EntryQueue.drop_front.Given as goal

abbrev pub invariant-loop-dropped : goal.invariant-loop-dropped
invariant-loop-dropped l = record {
  entries : l.self.entries ≡ drop l.dropped l.fn.self.entries;
  place : length l.fn.self.entries + 1 ≤ l.fn.self.places → length l.self.entries + 1 ≤ l.self.places;
  bytes : l.bytes ≡ l.fn.bytes - size_of (take l.dropped l.fn.self.entries);
}
