use Rattle.std.proofs.Common.{sym, subst}
use Rattle.node_law.specs.Events.{Own, AtShard}
use Rattle.node_law.specs.declared.events.ShardWork.TheVariants.{DropJob}
use Rattle.node_core.specs.Outcome.{Outcome, Does}
use Rattle.node_core.proofs.Outcomes.Told.{drop_does}
use Rattle.node_core.proofs.node.Node.did_drop_job.Goals as goal

pub returns : goal.returns
returns g c =
    let old = c.args.self.now in
    let new = c.drop_job.new.self in (
      c.in_default.ensures.0,
      subst (λ (o : Outcome). Does old (Own (AtShard c.args.shard DropJob)) o new) (sym c.answer_alone.ensures)
          (drop_does old new c.args.shard c.in_default.field-0 c.in_default.ensures.1),
    )
