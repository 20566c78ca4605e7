use Rattle.std.proofs.Common.{◌≡◌, ◌++◌, map, take, drop}
use Rattle.route_session.specs.Steps.{kept_at}
use Rattle.route_session.proofs.session.keep.Given as goal

-- those that the loop was at are changed, and the others are as they were
abbrev pub invariant-loop-session : goal.invariant-loop-session
invariant-loop-session l =
    l.session-items
    ≡ map (kept_at l.number l.offer) (take l.session-index l.fn.standing) ++ drop l.session-index l.fn.standing
