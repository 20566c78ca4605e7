use Rattle.std.proofs.Common.{◌≡◌, drop}
use Rattle.script_form.specs.Words.{verbs, verb_among}
use Rattle.script_form.proofs.steps.Verb.read.Given as goal

-- it is among those that are left, or nowhere
abbrev pub invariant-loop-verb : goal.invariant-loop-verb
invariant-loop-verb l = verb_among (drop l.verb-index verbs) l.word ≡ verb_among verbs l.word
