use Rattle.std.proofs.Common.{Ok, Err, refl, sym, ap}
use Rattle.wire_cut.specs.Cut.{after_next}
use Rattle.client_frames.specs.Lines.{line_meaning}
use Rattle.client_conn.specs.Streams.{end_of}
use Rattle.client_conn.proofs.Looking.{line_moved, means_refused, unread_moved}
use Rattle.client_conn.proofs.conn.ItemReader.line.Goals as goal

pub returns-in-Err-clause-ok : goal.returns-in-Err-clause-ok
returns-in-Err-clause-ok c =
    let cut = rw c.in-Err.fault-is at c.in-Err.ensures.answer in
    unread_moved c.end_with.result c.args.open_asks.now c.end_with.new.open_asks c.args.self.now c.end_with.new.self
    c.in-Err.fault c.of_cut.result c.requires.step c.requires.reads (sym cut) c.end_with.ensures.told c.of_cut.ensures
    c.end_with.ensures.asks c.end_with.ensures.ended

pub returns-in-Ok-clause-ok : goal.returns-in-Ok-clause-ok
returns-in-Ok-clause-ok c =
    let cut = rw (c.in-Ok-Some-Line.field-0-is, c.in-Ok-Some-Line.field-0-0-is) at c.in-Ok-Some-Line.ensures.answer in
    let means = rw c.in-Ok.is at c.decode_line.ensures in
    let mid = record c.args.self.now { cutter = after_next c.args.self.now.cutter } in
    line_moved c.take.result c.args.open_asks.now c.take.new.open_asks c.args.self.now mid c.in-Ok-Some-Line.line.now
    (Ok c.in-Ok.command) (end_of c.take.new.self) c.requires.step c.requires.reads c.requires.due (sym cut) refl means
    c.take.ensures.tells

pub returns-in-Err-Refused-clause-ok : goal.returns-in-Err-Refused-clause-ok
returns-in-Err-Refused-clause-ok c =
    let cut = rw (c.in-Ok-Some-Line.field-0-is, c.in-Ok-Some-Line.field-0-0-is) at c.in-Ok-Some-Line.ensures.answer in
    let refuses = rw c.in-Err-Refused.is at c.in-Err-Refused.field-0-is in
    let means = means_refused (line_meaning c.in-Ok-Some-Line.line.now) c.decode_line.result c.in-Err-Refused.field-0
    c.in-Err-Refused.fault c.in-Err-Refused.is refuses c.decode_line.ensures in
    let mid = record c.args.self.now { cutter = c.consume.new.self } in
    line_moved c.refuse.result c.args.open_asks.now c.refuse.new.open_asks c.args.self.now mid
    c.in-Ok-Some-Line.line.now (Err c.in-Err-Refused.fault) (end_of c.refuse.new.self) c.requires.step c.requires.reads
    c.requires.due (sym cut) (ap (λ k. record c.args.self.now { cutter = k }) c.consume.ensures) means
    c.refuse.ensures.tells
