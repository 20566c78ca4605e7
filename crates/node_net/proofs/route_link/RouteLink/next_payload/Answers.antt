use Rattle.std.proofs.Common.{refl, sym}
use Rattle.node_net.proofs.ReadingLemmas.{payload_copied, payload_waits, payload_fault, payload_no_line}
use Rattle.node_net.proofs.route_link.RouteLink.next_payload.Goals as goal

pub returns-in-Ok-None-clause-payload : goal.returns-in-Ok-None-clause-payload
returns-in-Ok-None-clause-payload c =
    let cut = rw c.in-Ok-None.field-0-is at c.in-Ok-None.ensures.answer in
    payload_waits c.args.self.now.cutter (sym cut)

pub returns-in-Err-copy_from_slice-clause-payload : goal.returns-in-Err-copy_from_slice-clause-payload
returns-in-Err-copy_from_slice-clause-payload c = λ text size at. refl

pub returns-in-Ok-Some-Line-clause-payload : goal.returns-in-Ok-Some-Line-clause-payload
returns-in-Ok-Some-Line-clause-payload c =
    let due = rw (c.in-Ok-Some-Line.field-0-is, c.in-Ok-Some-Line.field-0-0-is) at c.in-Ok-Some-Line.ensures.due in
    payload_no_line c.args.self.now.cutter c.args.self.now.cutter _ due

pub returns-in-Err-clause-payload : goal.returns-in-Err-clause-payload
returns-in-Err-clause-payload c =
    payload_fault c.args.self.now.cutter c.args.self.now.cutter _ (sym c.in-Err.ensures.answer)

pub returns-clause-payload : goal.returns-clause-payload
returns-clause-payload c =
    let cut =
    rw (c.in-Ok-Some-Payload.field-0-is, c.in-Ok-Some-Payload.field-0-0-is) at c.in-Ok-Some-Payload.ensures.answer in
    payload_copied c.args.self.now.cutter c.consume.new.self c.in-Ok-Some-Payload.payload.now c.in-Ok.copy (sym cut)
    c.consume.ensures c.in-Ok.ensures
