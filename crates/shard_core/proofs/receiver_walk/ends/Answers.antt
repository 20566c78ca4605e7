use Rattle.std.proofs.Common.{sym, ap, ◌∙◌}
use Rattle.std.specs.Prelude.{find}
use Rattle.sub_table.specs.Subscriptions.{has_serial}
use Rattle.shard_core.proofs.Turns.Received.{can_count_found}
use Rattle.shard_core.proofs.receiver_walk.ends.Goals as goal

pub is_last-requires : goal.is_last-requires
is_last-requires g c =
    can_count_found c.serial.result c.args.openings.now.subs c.in-Some.sub.now c.requires
    (sym (c.in-Some.ensures ∙ ap (find (has_serial c.serial.result)) c.table.ensures.subs))
