use Rattle.std.proofs.Common.{◌≡◌, ◌++◌, drop}
use Rattle.hub_core.specs.Telling.{frames_of_change}
use Rattle.hub_core.proofs.collects.add_frames.Given as goal

abbrev pub invariant-loop-place : goal.invariant-loop-place
invariant-loop-place l =
    l.frames.items ++ frames_of_change l.server l.count l.number l.change l.place (drop l.place l.peers)
    ≡ l.fn.frames.items ++ frames_of_change l.server l.count l.number l.change 0 l.peers
