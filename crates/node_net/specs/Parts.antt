-- Which of all bytes that were taken stand in a part.
use Rattle.std.specs.Prelude.{ℕ, ◌≤◌, List, length, slice_range}
use Rattle.node_net.specs.declared.parts.Part.{Part}

-- the bytes of a part, among all that were taken, with the key of the connection that they are for
abbrev pub part_of : List ℕ → Part → ℕ × List ℕ
part_of bytes part = (part.key, slice_range bytes part.start part.end)

-- It stands within these bytes.
abbrev pub IsWithin : List ℕ → Part → Type 0
IsWithin bytes part = (part.start ≤ part.end) × (part.end ≤ length bytes)
