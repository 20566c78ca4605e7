use Rattle.std.proofs.lemmas.Result.{IfOk-weaker}
use Rattle.client_conn.specs.Streams.{end_of}
use Rattle.client_conn.proofs.Answering.{has_read, answers_closed}
use Rattle.client_conn.proofs.conn.Conn.read_from.Goals as goal

pub returns-clause-ok : goal.returns-clause-ok
returns-clause-ok g c =
    rw (← c.self.view_is)
    (IfOk-weaker c.read_from.result _ _
    (λ n h.
    has_read c.self.inside.open_asks (end_of c.self.inside.reader) (end_of c.read_from.new.self) _ _ c.args.most n h)
    c.read_from.ensures.ok)

pub returns-clause-closed : goal.returns-clause-closed
returns-clause-closed g c =
    rw (← c.self.view_is)
    (answers_closed c.self.inside.open_asks c.self.inside.reader c.read_from.result c.read_from.ensures.closed)
