-- The frames that are left are spelt behind what is encoded.
use Rattle.std.proofs.Common.{◌≡◌, ◌++◌}
use Rattle.node_net.specs.Telling.{spelling}
use Rattle.node_net.proofs.flushing.encode_frames.Given as goal

abbrev pub invariant-loop-frame : goal.invariant-loop-frame
invariant-loop-frame l =
    l.encoded.items ++ spelling l.frame-iterator.rest.items
    ≡ l.fn.encoded.items ++ spelling l.initial.frame-iterator.rest.items
