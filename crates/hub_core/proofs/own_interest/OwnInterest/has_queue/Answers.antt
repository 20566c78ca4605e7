use Rattle.std.proofs.Common.{sym, ap, ◌∙◌}
use Rattle.interest.specs.Matches.{has_queue_match}
use Rattle.hub_core.proofs.Choices.InMind.{none_matches}
use Rattle.hub_core.proofs.own_interest.OwnInterest.has_queue.Goals as goal

pub returns-then-not-self : goal.returns-then-not-self
returns-then-not-self c =
    sym (none_matches c.args.subject.now c.self.inside.counts (c.self.invariant c.if-not-self.true))
    ∙ ap (has_queue_match c.args.subject.now) c.self.view_is
