-- What stands behind the line of an entry.
use Rattle.std.specs.Prelude.{ℕ, List, Some, None}
use Rattle.outbox.specs.Bytes.{bytes_of}
use Rattle.outbox.specs.declared.entries.Behind.{Behind}
use Rattle.outbox.specs.declared.entries.Behind.TheVariants.{Nothing, LineEnd, Payload}

abbrev pub line_with_behind : List ℕ → Behind → List ℕ
line_with_behind line Nothing = line
line_with_behind line LineEnd = bytes_of line None
line_with_behind line (Payload payload) = bytes_of line (Some payload)
