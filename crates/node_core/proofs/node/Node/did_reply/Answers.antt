use Rattle.std.proofs.Common.{sym, subst}
use Rattle.node_law.specs.Events.{Own, OfConn}
use Rattle.node_law.specs.declared.events.ConnEvent.TheVariants.{Reply}
use Rattle.node_core.specs.Outcome.{Outcome, Does}
use Rattle.node_core.proofs.Outcomes.Told.{reply_does}
use Rattle.node_core.proofs.node.Node.did_reply.Goals as goal

pub returns : goal.returns
returns g c =
    let old = c.args.self.now in
    let new = c.reply.new.self in
    let closed = c.in_ok-closed.closed in (
      c.in_ok-closed.ensures.0,
      subst (λ (o : Outcome). Does old (Own (OfConn c.args.conn (Reply c.args.frame.now))) o new)
          (sym c.did_of_reply.ensures)
          (reply_does old new c.args.conn c.args.frame.now c.in_ok-puts.puts closed.shut closed.ended.items
          c.in_ok-puts.ensures.answer c.in_ok-puts.ensures.last c.in_ok-puts.ensures.shut c.in_ok-closed.ensures.1),
    )
