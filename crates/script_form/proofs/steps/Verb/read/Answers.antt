use Rattle.std.proofs.Common.{ap, sym, ◌∙◌}
use Rattle.std.specs.Str.{bytes_eq}
use Rattle.script_form.specs.Words.{verbs}
use Rattle.script_form.proofs.Words.{among_rest}
use Rattle.script_form.proofs.steps.Verb.read.Goals as goal

-- another word is that of a later one
pub loop-verb-preserved : goal.loop-verb-preserved
loop-verb-preserved c =
    let other = ap (bytes_eq c.args.word.now) (sym c.word.ensures) ∙ sym c.eq.ensures ∙ c.if-eq.false in
    sym (among_rest verbs _ _ _ c.loop-verb-test.true other) ∙ c.loop-verb.invariant
