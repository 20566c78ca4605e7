use Rattle.std.proofs.Common.{◌∙◌}
use Rattle.client_conn.proofs.Closing.{finished_behind_none}
use Rattle.client_conn.proofs.conn.Conn.is_closed.Goals as goal

pub returns-then-is_empty : goal.returns-then-is_empty
returns-then-is_empty c =
    rw (← c.self.view_is)
    (c.has_ended.ensures
    ∙ finished_behind_none c.self.inside.open_asks c.self.inside.reader c.is_empty.result c.is_empty.ensures
    c.if-is_empty.true)
