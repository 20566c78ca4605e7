use Rattle.std.proofs.Common.{sym}
use Rattle.audit_log.proofs.Cutting.{line_and_rest, one_line}
use Rattle.audit_log.proofs.logs.first_line.Goals as goal

pub returns-in-None-clause-cut : goal.returns-in-None-clause-cut
returns-in-None-clause-cut c = one_line _ (sym c.in-None.ensures)

pub returns-in-Some-clause-cut : goal.returns-in-Some-clause-cut
returns-in-Some-clause-cut c = line_and_rest _ _ (sym c.in-Some.ensures)
