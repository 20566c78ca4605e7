use Rattle.std.proofs.Common.{map-id, subst, ◌∙◌}
use Rattle.interest.specs.Matches.{AreGathered, names_in}
use Rattle.interest.specs.Views.{View}
use Rattle.interest.proofs.local.Local.names_in.Goals as goal

pub returns : goal.returns
returns c =
    subst (λ (keys : View).
    AreGathered (names_in c.args.subject.now keys c.args.names.now) c.names_in.new.names c.names_in.result)
    (map-id c.deref.result.now ∙ c.deref.ensures.value ∙ c.self.view_is) c.names_in.ensures
