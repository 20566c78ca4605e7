use Rattle.std.proofs.Common.{◌≡◌, drop}
use Rattle.hub_core.specs.Chosen.{wants_name_from}
use Rattle.hub_core.proofs.publishing.is_name_wanted.Given as goal

abbrev pub invariant-loop-place : goal.invariant-loop-place
invariant-loop-place l =
    wants_name_from l.server l.subject l.place (drop l.place l.peers) ≡ wants_name_from l.server l.subject 0 l.peers
