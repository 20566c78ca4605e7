use Rattle.std.proofs.Common.{true≢false, sym, ap, ◌∙◌}
use Rattle.shard_core.specs.Owed.{owed_entry}
use Rattle.shard_core.specs.Shards.{fits}
use Rattle.shard_core.proofs.queue_claim.stage_chosen.Goals as goal

pub unreachable-requires : goal.unreachable-requires
unreachable-requires c =
    let claim = c.args.claim.now in
    let sub = c.args.sub.now in
    true≢false (sym c.requires.room
    ∙ ap (λ o. fits o (owed_entry claim.shard c.args.conns.now.next claim.job.now sub.key.queue sub))
    (c.seat.ensures.none c.in_default.is))
