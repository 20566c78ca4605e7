use Rattle.std.proofs.Common.{sym, ◌∙◌}
use Rattle.client_conn.specs.Streams.{end_of}
use Rattle.client_conn.proofs.Answering.{goes_on, lessens, nothing_asked, same_asks}
use Rattle.client_conn.proofs.Looking.{starves}
use Rattle.client_conn.proofs.conn.advance.Goals as goal

pub returns-in-Waits-clause-same : goal.returns-in-Waits-clause-same
returns-in-Waits-clause-same c =
    let has = rw c.in-Waits.is at c.in_ok-look.ensures.ok in
    let none =
    starves c.loop-reader.open_asks c.look.new.open_asks (end_of c.loop-reader.reader) (end_of c.look.new.self) has in
    same_asks c.loop-reader.open_asks c.look.new.open_asks (end_of c.loop-reader.reader) (end_of c.look.new.self) none.1
    none.0.same
    ∙ c.loop-reader.invariant.1

pub returns-in-Waits-clause-first : goal.returns-in-Waits-clause-first
returns-in-Waits-clause-first c empty =
    let has = rw c.in-Waits.is at c.in_ok-look.ensures.ok in
    let none =
    starves c.loop-reader.open_asks c.look.new.open_asks (end_of c.loop-reader.reader) (end_of c.look.new.self) has in
    nothing_asked c.loop-reader.open_asks c.look.new.open_asks (end_of c.loop-reader.reader) (end_of c.look.new.self)
    none.1 none.0 (sym c.loop-reader-test.ensures)

pub loop-reader-smaller : goal.loop-reader-smaller
loop-reader-smaller c =
    lessens c.in_ok-look.field-0 c.loop-reader.open_asks c.look.new.open_asks (end_of c.loop-reader.reader)
    (end_of c.look.new.self) c.in-Announced.is c.in_ok-look.ensures.ok

pub loop-reader-preserved : goal.loop-reader-preserved
loop-reader-preserved c = (
  c.in_ok-look.ensures.step,
  goes_on c.in_ok-look.field-0 c.loop-reader.open_asks c.look.new.open_asks (end_of c.loop-reader.reader)
      (end_of c.look.new.self) c.in-Announced.is (sym c.loop-reader-test.ensures) c.in_ok-look.ensures.ok
      ∙ c.loop-reader.invariant.1,
)
