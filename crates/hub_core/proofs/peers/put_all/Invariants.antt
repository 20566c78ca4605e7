use Rattle.std.proofs.Common.{◌≡◌, length}
use Rattle.hub_core.specs.Publishing.{with_frames}
use Rattle.hub_core.specs.Calls.{HasRoomFor}
use Rattle.hub_core.proofs.peers.put_all.Given as goal

abbrev pub invariant-loop-frame : goal.invariant-loop-frame
invariant-loop-frame l = record {
  placed : length l.peers ≡ length l.server.names;
  room : HasRoomFor l.server l.frames.items l.peers;
  whole : with_frames l.server l.frames.items 0 l.peers ≡ with_frames l.fn.server l.fn.frames.items 0 l.fn.peers;
}

abbrev pub decreases-loop-frame : goal.decreases-loop-frame
decreases-loop-frame l = length l.frames.items
