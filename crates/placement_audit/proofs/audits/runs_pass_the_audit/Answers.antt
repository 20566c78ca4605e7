use Rattle.placement_audit.proofs.Walking.{none_of_headline}
use Rattle.placement_audit.proofs.audits.runs_pass_the_audit.Goals as goal

pub returns : goal.returns
returns c =
    λ l set_up events w run. none_of_headline w (c.publications_are_placed_once.ensures.once l set_up events w run)
