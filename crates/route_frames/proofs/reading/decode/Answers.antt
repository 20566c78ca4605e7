use Rattle.std.proofs.Common.{◌≡◌, true, ap, ◌∙◌}
use Rattle.std.proofs.lemmas.Result.{err_from_is_err_and}
use Rattle.route_frames.specs.TextViews.{numbered_view, text_meaning, is_json}
use Rattle.route_frames.proofs.Refused.Answered.{bad_line_means, numbered_means, greeting_means, greeting_is_json, frame_answered}
use Rattle.route_frames.proofs.reading.decode.Goals as goal

pub returns-in_err-text-clause-means : goal.returns-in_err-text-clause-means
returns-in_err-text-clause-means c =
    let p = err_from_is_err_and c.from_residual.result c.from_residual.ensures.1 in
    rw (p.1, p.2) (bad_line_means c.args.line.now c.args.payload c.in_err-text.field-0.0 c.in_err-text.ensures)

pub returns-in_err-text-clause-spelt : goal.returns-in_err-text-clause-spelt
returns-in_err-text-clause-spelt c =
    frame_answered c.args.line.now c.args.payload c.from_residual.result (returns-in_err-text-clause-means c)

pub returns-in-Numbered-clause-means : goal.returns-in-Numbered-clause-means
returns-in-Numbered-clause-means c =
    numbered_means c.args.line.now c.args.payload (numbered_view c.in-Numbered.line) c.decode_numbered.result
    (c.in_ok-text.ensures.0 ∙ ap text_meaning c.in-Numbered.is) c.decode_numbered.ensures

pub returns-in-Numbered-clause-spelt : goal.returns-in-Numbered-clause-spelt
returns-in-Numbered-clause-spelt c =
    frame_answered c.args.line.now c.args.payload c.decode_numbered.result (returns-in-Numbered-clause-means c)

pub returns-in-Info-clause-means : goal.returns-in-Info-clause-means
returns-in-Info-clause-means c =
    let json : is_json c.in_ok-text.text ≡ true = greeting_is_json c.in_ok-text.text c.in-Info.is in
    greeting_means c.args.line.now c.args.payload c.in_ok-text.text c.decode_greeting.result c.in_ok-text.ensures.0
    (c.in_ok-text.ensures.1 ∙ json) c.decode_greeting.ensures

pub returns-in-Info-clause-spelt : goal.returns-in-Info-clause-spelt
returns-in-Info-clause-spelt c =
    frame_answered c.args.line.now c.args.payload c.decode_greeting.result (returns-in-Info-clause-means c)
