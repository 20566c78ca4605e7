-- As much stands to be asked.
use Rattle.std.proofs.Common.{◌≡◌}
use Rattle.client_conn.specs.Streams.{IsInStep, asking_at, end_of, left_of}
use Rattle.client_conn.proofs.conn.advance.Given as goal

abbrev pub invariant-loop-reader : goal.invariant-loop-reader
invariant-loop-reader l =
    IsInStep l.reader
    × (asking_at l.open_asks (end_of l.reader) ≡ asking_at l.initial.open_asks (end_of l.initial.reader))

abbrev pub decreases-loop-reader : goal.decreases-loop-reader
decreases-loop-reader l = left_of (end_of l.reader)
