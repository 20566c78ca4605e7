-- What a write took stands in front of what is left behind it.
use Rattle.std.proofs.Common.{ap, arith}
use Rattle.net_streams.specs.declared.wire.Wire.{Wire}
use Rattle.net_streams.proofs.RunLemmas.{takes_more}
use Rattle.net_streams.proofs.wire.Wire.write.Goals as goal

pub loop-self-preserved : goal.loop-self-preserved
loop-self-preserved g c = record {
  so_far =
      takes_more g.S.Stream.wrote c.args.bytes.now c.args.self.now.stream c.loop-self.rest.now c.loop-self.self.stream
      c.in-Ok.count c.write.new.self c.loop-self.invariant.so_far (omega arith) c.in-Ok.ensures.bound
      c.in-Ok.ensures.wrote;
  fine = c.loop-self.invariant.fine;
  others = ap (λ (w : Wire g.row.S.Denot). record w { stream = c.write.new.self }) c.loop-self.invariant.others;
}
