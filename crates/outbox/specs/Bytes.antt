-- The bytes of an entry.
use Rattle.std.specs.Prelude.{ℕ, List, ◌++◌, Option}
use Rattle.line_fields.specs.LineEnd.{payload_bytes}
pub use Rattle.line_fields.specs.LineEnd.{line_end}

-- a line and its end, and behind it the payload and its end where there is one
abbrev pub bytes_of : List ℕ → Option (List ℕ) → List ℕ
bytes_of line payload = (line ++ line_end) ++ payload_bytes payload
