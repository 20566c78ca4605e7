use Rattle.interest.proofs.Matching.ByBytes.{behind_stripped, behind_unstripped}
use Rattle.std.proofs.Common.{◌∙◌}
use Rattle.interest.proofs.sights.Beginning.is_behind.Goals as goal

pub returns-in-Some : goal.returns-in-Some
returns-in-Some c =
    let so = c.in-Some.ensures.cases in
    c.is_before.ensures
    ∙ behind_stripped c.args.text.now c.args.self.now.before.now c.in-Some.rest.now c.args.self.now.last.now so.0 so.1

pub returns-in-None : goal.returns-in-None
returns-in-None c =
    c.is_before-in-None.ensures
    ∙ behind_unstripped c.args.text.now c.args.self.now.before.now c.args.self.now.last.now c.in-None.ensures.cases
