use Rattle.std.proofs.Common.{◌≡◌, ◌++◌, take}
use Rattle.node_parts.specs.Sides.{new_side}
use Rattle.thread_report.specs.HubAnswers.{state_after}
use Rattle.thread_report.specs.Owed.{owed_by_hub}
use Rattle.thread_report.proofs.passes_told.behind_hub.Given as goal

abbrev pub invariant-loop-place : goal.invariant-loop-place
invariant-loop-place l =
    (l.calls ≡ owed_by_hub 0 (new_side l.server) (take l.place l.tape) ++ l.rest)
    × (l.side ≡ state_after (new_side l.server) (take l.place l.tape))
