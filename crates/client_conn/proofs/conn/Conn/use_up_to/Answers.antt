use Rattle.std.proofs.Common.{refl, ap}
use Rattle.client_conn.proofs.Lending.{uses_up}
use Rattle.client_conn.proofs.conn.Conn.use_up_to.Goals as goal

pub returns : goal.returns
returns c =
    let shorter = ap (λ k. k.unread) c.consume_to.ensures in
    record {
      asks =
          rw (← c.self.view_is)
          (uses_up c.self.inside.open_asks c.self.inside.reader
          (record c.self.inside.reader { cutter = c.consume_to.new.self }) _ c.args.left c.run_is_read.ensures.reads
          c.run_is_read.ensures.leaves refl refl shorter);
    }
