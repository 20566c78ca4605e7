use Rattle.std.proofs.Common.{◌≡◌, drop}
use Rattle.settled_law.specs.Orders.{frames_order}
use Rattle.mesh_script.proofs.settled_order.order.put_frames.Given as goal

-- none so far was for the server
abbrev pub invariant-loop-frame : goal.invariant-loop-frame
invariant-loop-frame l = record {
  events : l.events ≡ l.fn.events;
  rest : frames_order l.origin.names.now l.node l.origin.shards l.number (drop l.frame-index l.frames)
      ≡ frames_order l.origin.names.now l.node l.origin.shards l.origin.first l.frames;
}
