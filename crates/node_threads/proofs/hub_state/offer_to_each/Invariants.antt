use Rattle.std.proofs.Common.{◌≡◌, ◌++◌, map, drop, Some}
use Rattle.node_threads.specs.Outlets.{jobs_owed}
use Rattle.node_threads.proofs.hub_state.offer_to_each.Given as goal

abbrev pub invariant-loop-line : goal.invariant-loop-line
invariant-loop-line g l =
    (map (λ line. line.pushed ++ jobs_owed line.taken (Some l.run)) l.lines
    ≡ map (λ line. line.pushed ++ jobs_owed line.taken (Some l.run)) l.initial.lines)
    × (drop l.line-index l.lines ≡ drop l.line-index l.initial.lines)
