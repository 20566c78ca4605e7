use Rattle.std.proofs.Common.{◌≡◌, take}
use Rattle.std.specs.List.{count_by}
use Rattle.hub_core.proofs.hub.count_up.Given as goal

abbrev pub invariant-loop-peer : goal.invariant-loop-peer
invariant-loop-peer l = l.count ≡ count_by (λ peer. peer.up) (take l.peer-index l.peers)
