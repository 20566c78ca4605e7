use Rattle.std.proofs.Common.{◌≡◌, ◌+◌, ◌++◌, drop, length}
use Rattle.hub_core.specs.Telling.{frames_behind}
use Rattle.hub_core.proofs.collects.frames_of_changes.Given as goal

abbrev pub invariant-loop-change : goal.invariant-loop-change
invariant-loop-change l = record {
  number : l.number ≡ l.changed + l.change-index;
  frames : l.frames.items ++ frames_behind l.server (length l.changes) l.number (drop l.change-index l.changes) l.peers
      ≡ frames_behind l.server (length l.changes) l.changed l.changes l.peers;
}
