use Rattle.std.proofs.Common.{ap, sym, ◌∙◌, Ok}
use Rattle.std.proofs.lemmas.Result.{err_from_is_err_and}
use Rattle.route_frames.proofs.Cuts.Pieces.{one_more_key, bad_key}
use Rattle.route_frames.proofs.snapshot_reading.read_keys.Goals as goal

pub returns-in_err-read : goal.returns-in_err-read
returns-in_err-read c =
    let p = err_from_is_err_and c.from_residual.result c.from_residual.ensures.1 in
    rw (p.1, p.2) (bad_key c.in_err-read.field-0.0 c.loop-line.keys.items c.loop-line.rest.now c.in-Some.line.now
    c.in-Some.behind.now c.args.text.now c.in-Some.ensures c.in_err-read.ensures c.loop-line.invariant)

pub loop-line-preserved : goal.loop-line-preserved
loop-line-preserved c =
    let told = c.in_ok-read.ensures ∙ ap (λ key. Ok key) (sym c.in_ok-key.ensures) in
    rw c.in_ok-push.ensures.items
    (one_more_key c.loop-line.keys.items c.loop-line.rest.now c.in-Some.line.now c.in-Some.behind.now c.in_ok-key.key
    c.in-Some.ensures told ∙ c.loop-line.invariant)
