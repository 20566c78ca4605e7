-- What was written so far stands in front of what is left.
use Rattle.std.proofs.Common.{length}
use Rattle.wire_cut.proofs.SinkLemmas.{HasWritten}
use Rattle.wire_cut.proofs.sink.Sink.write_all.Given as goal

abbrev pub invariant-loop-rest : goal.invariant-loop-rest
invariant-loop-rest g l =
    let sink = g.Self.Sink in
    HasWritten (sink.written l.initial.self) (sink.written l.self) (sink.failures l.initial.self) (sink.failures l.self)
    l.bytes l.rest

abbrev pub decreases-loop-rest : goal.decreases-loop-rest
decreases-loop-rest g l = length l.rest
