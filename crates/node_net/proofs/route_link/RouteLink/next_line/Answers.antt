use Rattle.std.proofs.Common.{refl, sym}
use Rattle.node_net.proofs.ReadingLemmas.{line_ok, line_waits, line_refused, line_fault, line_no_payload}
use Rattle.node_net.proofs.route_link.RouteLink.next_line.Goals as goal

pub returns-in-Ok-None-clause-line : goal.returns-in-Ok-None-clause-line
returns-in-Ok-None-clause-line c =
    let cut = rw c.in-Ok-None.field-0-is at c.in-Ok-None.ensures.answer in
    line_waits c.args.self.now.cutter (sym cut)

pub returns-in-Err-OutOfMemory-clause-line : goal.returns-in-Err-OutOfMemory-clause-line
returns-in-Err-OutOfMemory-clause-line c = λ at. refl

pub returns-in-Err-Refused-clause-line : goal.returns-in-Err-Refused-clause-line
returns-in-Err-Refused-clause-line c =
    let cut = rw (c.in-Ok-Some-Line.field-0-is, c.in-Ok-Some-Line.field-0-0-is) at c.in-Ok-Some-Line.ensures.answer in
    let means = rw c.in-Err-Refused.field-0-is at c.in-Err-Refused.ensures.means in
    line_refused c.args.self.now.cutter c.args.self.now.cutter c.in-Ok-Some-Line.line.now _ (sym cut) means

pub returns-in-Ok-Some-Payload-clause-line : goal.returns-in-Ok-Some-Payload-clause-line
returns-in-Ok-Some-Payload-clause-line c =
    let due =
    rw (c.in-Ok-Some-Payload.field-0-is, c.in-Ok-Some-Payload.field-0-0-is) at c.in-Ok-Some-Payload.ensures.due in
    line_no_payload c.args.self.now.cutter c.args.self.now.cutter _ due

pub returns-in-Err-clause-line : goal.returns-in-Err-clause-line
returns-in-Err-clause-line c =
    line_fault c.args.self.now.cutter c.args.self.now.cutter _ (sym c.in-Err.ensures.answer)

pub returns-clause-line : goal.returns-clause-line
returns-clause-line c =
    let cut = rw (c.in-Ok-Some-Line.field-0-is, c.in-Ok-Some-Line.field-0-0-is) at c.in-Ok-Some-Line.ensures.answer in
    line_ok c.args.self.now.cutter c.consume.new.self c.in-Ok-Some-Line.line.now c.in-Ok.read (sym cut)
    c.in-Ok.ensures.means c.consume.ensures
