use Rattle.std.proofs.Common.{rules, ap, ◌∙◌}
use Rattle.std.proofs.lemmas.Fn.{filter_same}
use Rattle.shard_core.specs.Claims.{is_member}
use Rattle.shard_core.specs.Tallies.{lent_subs}
use Rattle.shard_core.proofs.Turns.Claims.{lent_kept}
use Rattle.shard_core.proofs.queue_claim.keep_candidates.Goals as goal

pub returns : goal.returns
returns c =
    let claim = c.args.claim.now in
    let test = is_member claim.shard c.args.conns.now.next claim.job.now claim.name.now in
    ap lent_subs
    (filter_same _ (λ b. test b.now) _ (λ x b f' h. (search rules, search rules)) _ _ c.retain.ensures.filtered)
    ∙ lent_kept test c.args.subs.now.items
