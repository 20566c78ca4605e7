use Rattle.std.proofs.Common.{sym, ◌∙◌}
use Rattle.client_conn.proofs.Looking.{refused_to_the_end, refused_and_read_on}
use Rattle.client_conn.proofs.conn.ItemReader.refuse.Goals as goal

pub returns-then-closes-clause-tells : goal.returns-then-closes-clause-tells
returns-then-closes-clause-tells c =
    refused_to_the_end c.end_with.result c.args.open_asks.now c.end_with.new.open_asks c.args.self.now
    c.end_with.new.self c.args.fault c.of_line-text.result (sym c.closes.ensures ∙ c.if-closes.true)
    c.end_with.ensures.told c.of_line-text.ensures c.end_with.ensures.asks c.end_with.ensures.ended

pub returns-clause-tells : goal.returns-clause-tells
returns-clause-tells c =
    refused_and_read_on c.args.open_asks.now c.refuse.new.self c.args.self.now c.args.fault c.of_line-text.result
    c.requires.behind (sym c.closes.ensures ∙ c.if-closes.false) c.of_line-text.ensures c.refuse.ensures
