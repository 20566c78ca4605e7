use Rattle.std.proofs.Common.{ap, ◌∙◌}
use Rattle.std.specs.Prelude.{not}
use Rattle.std.specs.Str.{bytes_eq}
use Rattle.publication_runs.specs.Cuts.{fields_in}
use Rattle.publication_runs.proofs.Scanned.{no_line_on, on_another}
use Rattle.publication_runs.proofs.lines.PlainLine.read_on.Goals as goal

pub returns-in_err-line : goal.returns-in_err-line
returns-in_err-line c =
    rw c.from_residual-in_err-line.ensures (no_line_on c.args.subject.now c.args.text.now c.in_err-line.ensures)

pub returns-then-ne : goal.returns-then-ne
returns-then-ne c =
    on_another (fields_in c.in_ok-line.line.fields) c.in_ok-line.line.size c.in_ok-line.line.text.now c.args.subject.now
    c.args.text.now c.in_ok-line.rest.now c.in_ok-line.line.plain c.in_ok-line.ensures
    (c.if-ne.ensures ∙ ap (λ s. not (bytes_eq c.in_ok-line.line.fields.subject.now s)) c.bytes-2.ensures.same)
