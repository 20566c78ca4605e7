use Rattle.std.proofs.Common.{◌≡◌, Ok, Err, ap, rules}
use Rattle.std.proofs.lemmas.Result.{err_from_is_err_and}
use Rattle.route_frames.specs.declared.reading.Unjoined.TheVariants.{Refused}
use Rattle.route_frames.specs.Meaning.{◌>>=◌}
use Rattle.route_frames.specs.Decoding.{line_fits, frame_behind}
use Rattle.route_frames.proofs.Refused.Answered.{fitting_joins, joined_answered}
use Rattle.route_frames.proofs.reading.RouteLine.into_frame.Goals as goal

pub returns-in_err-check_payload-clause-spelt : goal.returns-in_err-check_payload-clause-spelt
returns-in_err-check_payload-clause-spelt c = λ line is.
    let p = err_from_is_err_and c.from_residual.result c.from_residual.ensures.1 in
    let bad : line_fits c.args.self c.args.payload ≡ Err c.in_err-check_payload.field-0.0 = search rules in
    rw (p.1, p.2) (joined_answered line c.args.payload c.args.self (Err (Refused c.in_err-check_payload.field-0.0)) is
    (ap (λ fits. fits >>= λ fits. frame_behind c.args.self c.args.payload) bad))

pub returns-clause-spelt : goal.returns-clause-spelt
returns-clause-spelt c = λ line is.
    let fits : line_fits c.args.self c.args.payload ≡ Ok tt = search rules in
    joined_answered line c.args.payload c.args.self c.join.result is
    (fitting_joins c.args.self c.args.payload c.join.result fits c.join.ensures)
