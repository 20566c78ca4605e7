use Rattle.std.proofs.Common.{◌≡◌, drop}
use Rattle.hub_core.specs.Local.{wants_plain_from}
use Rattle.hub_core.proofs.local.is_wanted_elsewhere.Given as goal

abbrev pub invariant-loop-place : goal.invariant-loop-place
invariant-loop-place l =
    wants_plain_from l.server l.subject l.place (drop l.place l.peers) ≡ wants_plain_from l.server l.subject 0 l.peers
