use Rattle.client_calls.proofs.Lent.{published_lent}
use Rattle.client_calls.proofs.link.publish_lent.Goals as goal

pub returns-clause-some : goal.returns-clause-some
returns-clause-some g c =
    published_lent g.C.ClientCalls.made c.args.id c.args.most c.publish_run-count.result c.left.result c.args.conn.now
    c.in_ok-run.run' c.publish_run-count.new.run c.args.calls.now c.publish_run-count.new.self c.in_ok-run.ensures.lent
    c.in_ok-run.ensures.most c.publish_run-count.ensures c.if-count-eq0.false c.left.ensures
