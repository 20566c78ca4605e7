use Rattle.std.proofs.Common.{◌≡◌, ◌++◌, map, take, drop}
use Rattle.hub_core.specs.Telling.{without_slow}
use Rattle.hub_core.proofs.collects.cut_slow.Given as goal

abbrev pub invariant-loop-peer : goal.invariant-loop-peer
invariant-loop-peer l =
    l.peer-items ≡ map (without_slow l.count) (take l.peer-index l.fn.peers) ++ drop l.peer-index l.fn.peers
