use Rattle.std.proofs.Common.{sym, subst}
use Rattle.node_law.specs.Events.{Own, AtShard}
use Rattle.node_law.specs.declared.events.ShardWork.TheVariants.{Claim}
use Rattle.node_core.specs.Outcome.{Outcome, Does}
use Rattle.node_core.proofs.Outcomes.Told.{claim_does}
use Rattle.node_core.proofs.node.Node.did_claim.Goals as goal

pub returns : goal.returns
returns g c =
    let old = c.args.self.now in
    let new = c.claim.new.self in (
      c.in_ok-claimed.ensures.0,
      subst (λ (o : Outcome). Does old (Own (AtShard c.args.shard (Claim c.args.index))) o new)
          (sym c.did_of_claim.ensures)
          (claim_does old new c.args.shard c.args.index c.in_ok-claimed.claimed c.in_ok-claimed.ensures.1),
    )
