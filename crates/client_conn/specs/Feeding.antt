-- What a connection reads of a source.
use Rattle.std.specs.Prelude.{◌≡◌, ℕ, ◌+◌, ◌<◌, ◌≤◌, Bool, true, false, List, length, Option, Result, Ok, Err, ⊤}
use Rattle.std.specs.Io.KnownBytes.{Consumes, IsAtEnd}
use Rattle.client_conn.specs.declared.faults.ReadFault.{ReadFault}
use Rattle.client_conn.specs.declared.faults.ReadFault.TheVariants.{Closed, Failed, OutOfMemory}
use Rattle.client_conn.specs.Asks.{Asking, over, asks_after_bytes, is_finished}

-- n bytes of the source came, at most as many as asked for, and none only at its end
pub record HasRead (old new : Asking) (before after : Option (List ℕ)) (asked n : ℕ) : Type 0 where
  pub bytes : List ℕ
  pub came : new ≡ asks_after_bytes bytes old
  pub count : length bytes ≡ n
  pub bound : n ≤ asked
  pub consumed : Consumes before after bytes
  pub end : n ≡ 0 → 0 < asked → IsAtEnd after

-- one read was made, which failed just where the answer says so, or the source was not asked
abbrev pub CountsRead : Result ℕ ReadFault → Type 0 → ℕ → ℕ → ℕ → ℕ → Type 0
CountsRead (Ok n) untouched reads reads_after failures failures_after =
    (reads_after ≡ reads + 1) × (failures_after ≡ failures)
CountsRead (Err Failed) untouched reads reads_after failures failures_after =
    (reads_after ≡ reads + 1) × (failures_after ≡ failures + 1)
CountsRead (Err Closed) untouched reads reads_after failures failures_after = untouched
CountsRead (Err OutOfMemory) untouched reads reads_after failures failures_after = untouched

-- `Closed` is answered just where nothing is read any more
abbrev pub ClosedWhere : Bool → Result ℕ ReadFault → Type 0
ClosedWhere true result = result ≡ Err Closed
ClosedWhere false (Ok n) = ⊤
ClosedWhere false (Err Closed) = ⊥
ClosedWhere false (Err Failed) = ⊤
ClosedWhere false (Err OutOfMemory) = ⊤

-- once all is asked and answered and nothing is read any more, and otherwise only where a closing
-- text stands to be asked
pub record AnswersClosed (s : Asking) (result : Result ℕ ReadFault) : Type 0 where
  pub always : is_finished s ≡ true → result ≡ Err Closed
  pub only : result ≡ Err Closed → s.onward ≡ over
