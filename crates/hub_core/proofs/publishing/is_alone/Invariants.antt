use Rattle.std.proofs.Common.{◌≡◌, drop}
use Rattle.hub_core.specs.Serving.{is_alone_from}
use Rattle.hub_core.proofs.publishing.is_alone.Given as goal

abbrev pub invariant-loop-place : goal.invariant-loop-place
invariant-loop-place l = is_alone_from l.server l.place (drop l.place l.peers) ≡ is_alone_from l.server 0 l.peers
