use Rattle.std.proofs.Common.{sym, ap}
use Rattle.client_frames.specs.declared.client_line.Awaited.TheVariants as awaits
use Rattle.client_conn.specs.Streams.{end_of}
use Rattle.client_conn.proofs.Looking.{announced, too_large}
use Rattle.client_conn.proofs.conn.ItemReader.announce.Goals as goal

pub returns-in-Err-clause-tells : goal.returns-in-Err-clause-tells
returns-in-Err-clause-tells c =
    too_large c.end_with.result c.args.open_asks.now c.end_with.new.open_asks c.args.self.now c.end_with.new.self
    (awaits.Payload c.args.head) c.args.head.size c.in-Err.fault c.of_cut.result c.requires.behind
    (sym c.in-Err.ensures.answer) c.end_with.ensures.told c.of_cut.ensures c.end_with.ensures.asks
    (ap end_of c.end_with.ensures.ended)

pub returns-clause-tells : goal.returns-clause-tells
returns-clause-tells c =
    announced c.args.open_asks.now c.args.self.now c.expect.new.self (awaits.Payload c.args.head) c.args.head.size
    c.requires.behind (sym c.in_default.ensures.answer) c.expect.ensures.state
