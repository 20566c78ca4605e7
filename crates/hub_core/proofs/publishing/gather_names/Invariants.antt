use Rattle.std.proofs.Common.{◌≡◌, drop}
use Rattle.hub_core.specs.Choice.{names_from}
use Rattle.hub_core.proofs.publishing.gather_names.Given as goal

abbrev pub invariant-loop-place : goal.invariant-loop-place
invariant-loop-place l =
    names_from l.server l.subject l.place (drop l.place l.peers) l.names
    ≡ names_from l.server l.subject 0 l.peers l.initial.names
