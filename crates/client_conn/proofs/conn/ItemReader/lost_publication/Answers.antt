use Rattle.std.proofs.Common.{sym}
use Rattle.wire_cut.specs.Cut.{payload}
use Rattle.client_conn.proofs.Looking.{moved, lost_found, passed, unread_moved}
use Rattle.client_conn.proofs.conn.ItemReader.lost_publication.Goals as goal

pub returns-in-Err-clause-looked : goal.returns-in-Err-clause-looked
returns-in-Err-clause-looked c =
    let cut = rw c.in-Err.fault-is at c.in-Err.ensures.answer in
    unread_moved c.end_with.result c.args.open_asks.now c.end_with.new.open_asks c.args.self.now c.end_with.new.self
    c.in-Err.fault c.of_cut.result c.requires.step c.requires.reads (sym cut) c.end_with.ensures.told c.of_cut.ensures
    c.end_with.ensures.asks c.end_with.ensures.ended

pub returns-clause-looked : goal.returns-clause-looked
returns-clause-looked c =
    let cut =
    rw (c.in-Ok-Some-Payload.field-0-is, c.in-Ok-Some-Payload.field-0-0-is) at c.in-Ok-Some-Payload.ensures.answer in
    moved c.lose.result c.args.open_asks.now c.lose.new.open_asks c.args.self.now
    (payload c.in-Ok-Some-Payload.payload.now) _ c.requires.step c.requires.reads (sym cut)
    (lost_found c.lose.result c.args.open_asks.now c.lose.new.open_asks c.requires.due.0 c.args.self.now.awaited
    c.in-Ok-Some-Payload.payload.now _ _ c.lose.ensures.told c.requires.due.1 c.lose.ensures.asks
    (passed c.args.self.now c.lose.new.self c.requires.reads c.lose.ensures.passed))
