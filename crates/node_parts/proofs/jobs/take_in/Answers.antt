use Rattle.std.proofs.Common.{sym}
use Rattle.node_parts.proofs.Routing.{news_received}
use Rattle.node_parts.proofs.jobs.take_in.Goals as goal

pub returns-then-not-is_message : goal.returns-then-not-is_message
returns-then-not-is_message c =
    let heard = c.in_ok-apply_update.ensures in (
      heard.0,
      (
        heard.1.after,
        news_received c.args.side.now.hub c.args.frame.now c.number.result c.args.count c.args.copies.now.items
            (sym c.if-not-is_message.ensures) c.number.ensures.same,
      ),
    )
