use Rattle.std.proofs.Common.{◌≡◌, false, map, take, All}
use Rattle.node_threads.proofs.hub_state.begin_each.Given as goal

abbrev pub invariant-loop-line : goal.invariant-loop-line
invariant-loop-line g l =
    (map (λ line. line.pushed) l.lines ≡ map (λ line. line.pushed) l.initial.lines)
    × All (λ line. line.taken ≡ false) (take l.line-index l.lines)
