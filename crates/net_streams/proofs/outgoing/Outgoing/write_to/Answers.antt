-- What the stream did not take is what stays unwritten.
use Rattle.std.proofs.Common.{arith}
use Rattle.net_streams.proofs.OutgoingLemmas.{unwritten}
use Rattle.net_streams.proofs.outgoing.Outgoing.write_to.Goals as goal

pub returns-else-left-eq0-clause-written : goal.returns-else-left-eq0-clause-written
returns-else-left-eq0-clause-written g c =
    let written = rw c.deref.ensures.value at c.write-left.ensures.written in
    unwritten g.S.Stream.wrote c.self.inside.bytes.items c.args.self.now c.self.inside.start c.len.result
    c.args.wire.now.has_failed c.args.wire.now.stream c.write-left.result.now c.write-left.new.self.has_failed
    c.write-left.new.self.stream (omega arith) (omega arith) c.self.view_is written
