use Rattle.std.proofs.Common.{Err}
use Rattle.std.proofs.lemmas.Result.{err_from_is_err_and}
use Rattle.subj.specs.declared.failures.Failure.TheVariants.{Refused}
use Rattle.route_frames.proofs.Refused.Answered.{size_fault, size_means, size_answered}
use Rattle.route_frames.proofs.reading.payload_size.Goals as goal

pub returns-in_err-text-clause-spelt : goal.returns-in_err-text-clause-spelt
returns-in_err-text-clause-spelt c =
    let p = err_from_is_err_and c.from_residual.result c.from_residual.ensures.1 in
    rw (p.1, p.2) (size_answered c.args.line.now (Err (Refused c.in_err-text.field-0.0))
    (size_fault c.args.line.now c.in_err-text.field-0.0 c.in_err-text.ensures))

pub returns-clause-spelt : goal.returns-clause-spelt
returns-clause-spelt c =
    size_answered c.args.line.now c.payload_size.result
    (size_means c.args.line.now c.in_ok-text.text c.payload_size.result c.in_ok-text.ensures.0 c.in_ok-text.ensures.1
    c.payload_size.ensures)
