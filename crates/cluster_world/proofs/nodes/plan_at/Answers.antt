use Rattle.std.proofs.Common.{ap, subst}
use Rattle.std.specs.Prelude.{⊤}
use Rattle.std.specs.Option.{option_map}
use Rattle.subj.specs.Answers.{IsRefused}
use Rattle.hub_core.specs.Chosen.{publication_by}
use Rattle.node_law.specs.Events.{Own, Publish}
use Rattle.node_core.specs.Served.{refusal}
use Rattle.world_law.specs.declared.faults.WorldFault.TheVariants as fault
use Rattle.cluster_world.proofs.nodes.plan_at.Goals as goal

pub returns-in-Err-Refused : goal.returns-in-Err-Refused
returns-in-Err-Refused g c =
    let p = publication_by c.args.conn c.args.publication.now c.args.word in
    let cause = subst (IsRefused (refusal c.args.node.now (Own (Publish p))) ⊤) c.in-Err-Refused.field-0-is
    c.in-Err-Refused.ensures in
    (fault.Node c.in-Err-Refused.field-0-0, ap (option_map fault.Node) cause.0)
