use Rattle.std.proofs.Common.{sym, ap, ◌∙◌}
use Rattle.std.specs.List.{list_any}
use Rattle.list_laws.proofs.Tests.{or_false}
use Rattle.hub_core.specs.InMind.{is_of_queue, are_plain}
use Rattle.hub_core.proofs.Choices.InMind.{plain_told}
use Rattle.hub_core.proofs.own_interest.OwnInterest.commit.Goals as goal

pub invariant_of-self : goal.invariant_of-self
invariant_of-self c = λ none.
    let parts = or_false c.self.inside.is_queued (list_any is_of_queue c.args.deltas.now)
    (sym c.is_queued_by-self-inside.ensures ∙ none) in
    ap are_plain c.commit.ensures
    ∙ plain_told c.self.inside.counts c.args.deltas.now parts.1 (c.self.invariant parts.0)
