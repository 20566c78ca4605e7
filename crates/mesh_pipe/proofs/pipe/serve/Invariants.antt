use Rattle.std.proofs.Common.{◌≡◌, ◌+◌}
use Rattle.mesh_pipe.proofs.Text.Serves.{HasServed}
use Rattle.mesh_pipe.proofs.pipe.serve.Given as goal

abbrev pub invariant-loop : goal.invariant-loop
invariant-loop g l =
    HasServed l.conn l.server (g.S.Source.remaining l.fn.source) (g.S.Source.remaining l.source)
    (g.W.Sink.written l.fn.sink) (g.W.Sink.written l.sink)
    × (g.S.Source.reads l.source ≡ g.S.Source.reads l.fn.source + l.counter)
    × (g.S.Source.failures l.source ≡ g.S.Source.failures l.fn.source)
    × (g.W.Sink.failures l.sink ≡ g.W.Sink.failures l.fn.sink)
