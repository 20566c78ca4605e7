use Rattle.std.proofs.Common.{map-id, ap, ◌∙◌}
use Rattle.interest.specs.Heard.{Heard}
use Rattle.interest.specs.Matches.{has_queue_match}
use Rattle.interest.proofs.views.View.has_queue.Goals as goal

pub returns : goal.returns
returns c =
    c.has_match.ensures
    ∙ ap (has_queue_match c.args.subject.now)
    (map-id c.deref.result.now ∙ c.deref.ensures.value ∙ ap (λ (heard : Heard). heard.keys) c.self.view_is)
