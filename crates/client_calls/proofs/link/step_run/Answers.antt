use Rattle.client_calls.proofs.Lent.{lends_as_much}
use Rattle.client_calls.proofs.link.step_run.Goals as goal

pub use_up_to-requires : goal.use_up_to-requires
use_up_to-requires g c =
    lends_as_much g.C.ClientCalls.made c.args.id c.args.most c.in-Some.published.count c.in-Some.published.left
    c.args.conn.now c.args.calls.now c.publish_lent.new.calls c.in-Some.ensures.some
