use Rattle.std.proofs.Common.{◌≡◌}
use Rattle.mesh_pipe.specs.PipeRuns.{HasMoved, left_of}
use Rattle.mesh_pipe.proofs.pipe.work.Given as goal

abbrev pub invariant-loop-server : goal.invariant-loop-server
invariant-loop-server g l =
    HasMoved l.initial.conn l.initial.server (g.W.Sink.written l.initial.sink) l.conn l.server (g.W.Sink.written l.sink)
    × (g.W.Sink.failures l.sink ≡ g.W.Sink.failures l.initial.sink)

abbrev pub decreases-loop-server : goal.decreases-loop-server
decreases-loop-server g l = left_of l.conn
