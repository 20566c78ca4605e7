use Rattle.std.proofs.Common.{sym}
use Rattle.subj.proofs.Tokens.{tokens_without_dot, tokens_around_dot}
use Rattle.subj.proofs.names.split_token.Goals as goal

pub returns-in-None-clause-cut : goal.returns-in-None-clause-cut
returns-in-None-clause-cut c = tokens_without_dot _ (sym c.in-None.ensures)

pub returns-in-Some-clause-cut : goal.returns-in-Some-clause-cut
returns-in-Some-clause-cut c = tokens_around_dot _ _ (sym c.in-Some.ensures)
