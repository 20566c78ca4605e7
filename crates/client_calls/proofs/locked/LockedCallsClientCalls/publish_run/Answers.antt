use Rattle.client_calls.proofs.Lent.{published_under}
use Rattle.client_calls.proofs.locked.LockedCallsClientCalls.publish_run.Goals as goal

pub returns : goal.returns
returns g c =
    published_under g.C.ClientCalls.made c.args.conn c.publish_run.result c.args.run.now c.publish_run.new.run _ _
    c.args.self.now c.publish_run.ensures
