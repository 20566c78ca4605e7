use Rattle.std.proofs.Common.{◌≡◌, length}
use Rattle.audit_log.specs.Logs.{lines_of, with_lines}
use Rattle.audit_log.proofs.logs.Log.add_lines.Given as goal

-- what the rest tells is what all of it tells
abbrev pub invariant-loop-bytes : goal.invariant-loop-bytes
invariant-loop-bytes l = with_lines l.self (lines_of l.rest) ≡ with_lines l.fn.self (lines_of l.fn.bytes)

abbrev pub decreases-loop-bytes : goal.decreases-loop-bytes
decreases-loop-bytes l = length l.rest
