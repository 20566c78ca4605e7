use Rattle.std.proofs.Common.{◌+◌, ◌≤◌}
use Rattle.mesh_file.proofs.tables.line_at.Given as goal

abbrev pub invariant-loop-at : goal.invariant-loop-at
invariant-loop-at l = l.line ≤ l.at + 1
