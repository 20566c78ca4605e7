-- Each write moves some bytes from the front of what is left to what was written.
use Rattle.std.proofs.Common.{◌+◌, ◌∙◌, ap, sym, eqb-true}
use Rattle.std.proofs.lemmas.Bool.{eqb-false}
use Rattle.std.proofs.lemmas.Result.{err_from_is_err_and}
use Rattle.wire_cut.proofs.SinkLemmas.{HasWritten-none, HasWritten-more, HasWritten-all, HasWritten-failed}
use Rattle.wire_cut.proofs.sink.Sink.write_all.Goals as goal

pub loop-rest-init : goal.loop-rest-init
loop-rest-init g c = HasWritten-none _ _ _

pub loop-rest-preserved : goal.loop-rest-preserved
loop-rest-preserved g c =
    HasWritten-more _ _ _ _ _ _ _ _ c.in_ok-count.count c.loop-rest.invariant c.in_ok-count.ensures.bytes
    c.in_ok-count.ensures.failures

pub returns-clause-ok : goal.returns-clause-ok
returns-clause-ok g c = HasWritten-all _ _ _ _ _ _ c.loop-rest.invariant (eqb-true _ _ (sym c.loop-rest-test.ensures))

pub returns-clause-failures : goal.returns-clause-failures
returns-clause-failures g c = c.loop-rest.invariant.failures

pub returns-in_err-count-clause-err : goal.returns-in_err-count-clause-err
returns-in_err-count-clause-err g c =
    let failed = err_from_is_err_and c.from_residual.result c.from_residual.ensures.1 in
    rw failed.1 (HasWritten-failed _ _ _ _ _ _ _ c.loop-rest.invariant (eqb-false _ _ (sym c.loop-rest-test.ensures))
    c.in_err-count.ensures.bytes)

pub returns-in_err-count-clause-failures : goal.returns-in_err-count-clause-failures
returns-in_err-count-clause-failures g c =
    let failed = err_from_is_err_and c.from_residual.result c.from_residual.ensures.1 in
    rw failed.1 (c.in_err-count.ensures.failures ∙ ap (λ n. n + 1) c.loop-rest.invariant.failures)
