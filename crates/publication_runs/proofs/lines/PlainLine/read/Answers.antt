use Rattle.std.proofs.Common.{ap, ◌∙◌}
use Rattle.std.specs.Prelude.{is_some}
use Rattle.publication_runs.specs.Cuts.{fields_in}
use Rattle.publication_runs.proofs.Scanned.{no_fields, no_size, too_large, bad_subject, bad_reply, plain_found, rejoined}
use Rattle.publication_runs.proofs.lines.PlainLine.read.Goals as goal
use Rattle.publication_runs.proofs.lines.PlainLine.read.Goals.{then-size-via-then-size, then-size-via-else-size+then-is_some, then-size-via-else-size+else-is_some+then-not-is_reply}

pub returns-in_err-fields : goal.returns-in_err-fields
returns-in_err-fields c =
    rw c.from_residual.ensures (no_fields c.args.text.now c.in_err-fields.ensures)

pub returns-in_err-size : goal.returns-in_err-size
returns-in_err-size c =
    rw c.from_residual-in_err-size.ensures
    (no_size (fields_in c.in_ok-fields.fields) c.args.text.now c.in_ok-fields.rest.now
    c.in_ok-fields.ensures c.in_err-size.ensures)

pub returns-then-size : goal.returns-then-size
returns-then-size c =
    let fields = fields_in c.in_ok-fields.fields in
    let text = c.args.text.now in
    let rest = c.in_ok-fields.rest.now in
    elim c.then-size.branch [
      | then-size-via-then-size w ↦
          too_large fields text rest c.in_ok-size.size c.in_ok-fields.ensures c.in_ok-size.ensures w.if-size.true
      | then-size-via-else-size+then-is_some w ↦
          bad_subject fields text rest c.in_ok-fields.ensures (w.if-is_some.ensures ∙ ap is_some w.fault.ensures)
      | then-size-via-else-size+else-is_some+then-not-is_reply w ↦
          bad_reply fields text rest c.in_ok-fields.ensures w.if-not-is_reply.ensures
    ]

pub invariant_of-line : goal.invariant_of-line
invariant_of-line c = record {
  plain = plain_found (fields_in c.in_ok-fields.fields) c.args.text.now c.in_ok-fields.rest.now
      c.in_ok-size.size c.in_ok-fields.ensures c.in_ok-size.ensures c.if-size.false
      (c.if-is_some.ensures ∙ ap is_some c.fault.ensures) c.if-not-is_reply.ensures;
}

pub returns : goal.returns
returns c =
    rejoined (fields_in c.in_ok-fields.fields) c.args.text.now c.in_ok-fields.rest.now c.in_ok-fields.ensures
