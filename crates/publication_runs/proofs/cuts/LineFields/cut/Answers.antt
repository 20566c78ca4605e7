use Rattle.publication_runs.proofs.Scanned.{ends_otherwise, has_one_field}
use Rattle.publication_runs.proofs.cuts.LineFields.cut.Goals as goal

pub returns-in_err-behind_line : goal.returns-in_err-behind_line
returns-in_err-behind_line c =
    rw c.from_residual-in_err-behind_line.ensures
    (ends_otherwise c.args.text.now c.in_ok-behind.field-0.now c.in_ok-line.line.now c.in_ok-line.end.now
    c.in_ok-behind.ensures c.in_ok-line.ensures c.in_err-behind_line.ensures)

pub returns-in_err-subject : goal.returns-in_err-subject
returns-in_err-subject c =
    rw c.from_residual-in_err-subject.ensures
    (has_one_field c.args.text.now c.in_ok-behind.field-0.now c.in_ok-line.line.now c.in_ok-line.end.now
    c.in_ok-behind.ensures c.in_ok-line.ensures c.in_err-subject.ensures)
