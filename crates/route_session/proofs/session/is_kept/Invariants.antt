use Rattle.std.proofs.Common.{◌≡◌, drop}
use Rattle.std.specs.List.{list_any}
use Rattle.route_session.specs.State.{is_kept_at}
use Rattle.route_session.proofs.session.is_kept.Given as goal

abbrev pub invariant-loop-session : goal.invariant-loop-session
invariant-loop-session l =
    list_any (λ session. is_kept_at l.peer l.inc session.kept) (drop l.session-index l.standing)
    ≡ list_any (λ session. is_kept_at l.peer l.inc session.kept) l.standing
