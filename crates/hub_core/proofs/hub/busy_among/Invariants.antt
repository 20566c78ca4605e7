use Rattle.std.proofs.Common.{◌≡◌, drop}
use Rattle.std.specs.List.{position_from}
use Rattle.claim_race.specs.Race.{is_behind}
use Rattle.hub_core.proofs.hub.busy_among.Given as goal

abbrev pub invariant-loop-place : goal.invariant-loop-place
invariant-loop-place l =
    position_from (is_behind l.issued) l.place (drop l.place l.finished)
    ≡ position_from (is_behind l.issued) 0 l.finished
