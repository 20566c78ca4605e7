use Rattle.std.proofs.Common.{ap, sym, ◌∙◌}
use Rattle.std.proofs.lemmas.Result.{on_ok_weaker}
use Rattle.client_conn.specs.Streams.{asking_at, end_of}
use Rattle.client_conn.proofs.Telling.{fed_standing}
use Rattle.client_conn.proofs.conn.Conn.feed.Goals as goal

pub returns-clause-ok : goal.returns-clause-ok
returns-clause-ok c =
    rw (← c.self.view_is)
    (on_ok_weaker c.feed.result
    (λ d.
    ap (asking_at c.self.inside.open_asks) d
    ∙ sym (fed_standing c.self.inside.open_asks (end_of c.self.inside.reader) c.args.bytes.now))
    c.feed.ensures.ok)
