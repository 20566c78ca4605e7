use Rattle.std.proofs.Common.{refl, ◌+◌, ◌<◌, ◌≤◌, length, map, drop, ap, sym, subst, ◌∙◌, arith}
use Rattle.std.proofs.lemmas.Result.{err_from_is_err_and}
use Rattle.subj.specs.declared.keys.Key.{Key}
use Rattle.subj.specs.declared.limits.TheConstants.{MAX_QUEUE_NAMES}
use Rattle.subj.specs.Matching.{subject_matches}
use Rattle.interest.specs.Matches.{add_queue, names_in}
use Rattle.interest.proofs.Matching.Wanting.{names_at, too_many_at, names_at_end}
use Rattle.interest.proofs.matches.names_among.Goals as goal

pub loop-place-init : goal.loop-place-init
loop-place-init g c = refl

pub returns-in_err-add_wanted : goal.returns-in_err-add_wanted
returns-in_err-add_wanted g c =
    let entries = c.args.entries.now in
    let subject = c.args.subject.now in
    let place = c.loop-place.place in
    let x = c.index-entries-place.result in
    let below : place < length entries = grind (arith, c.loop-place-test.true, c.loop-place.auto.place-end) in
    let all = names_in subject (map g.T.Keyed.entry entries) c.args.names.now in
    let more = subst (λ (key : Key).
    MAX_QUEUE_NAMES < length (add_queue (subject_matches key.pattern subject) key.queue c.loop-place.names))
    c.key_of.ensures c.in_err-add_wanted.ensures in
    let p = err_from_is_err_and c.from_residual.result c.from_residual.ensures.1 in
    rw p.1 (too_many_at g.T.Keyed.entry subject entries place x below c.index-entries-place.is c.loop-place.names all
    MAX_QUEUE_NAMES c.loop-place.invariant more)

pub loop-place-preserved : goal.loop-place-preserved
loop-place-preserved g c =
    let entries = c.args.entries.now in
    let subject = c.args.subject.now in
    let place = c.loop-place.place in
    let x = c.index-entries-place.result in
    let below : place < length entries = grind (arith, c.loop-place-test.true, c.loop-place.auto.place-end) in
    let added = c.in_ok-add_wanted.ensures
    ∙ ap (λ (key : Key). add_queue (subject_matches key.pattern subject) key.queue c.loop-place.names)
    c.key_of.ensures in
    ap (names_in subject (map g.T.Keyed.entry (drop (place + 1) entries))) added
    ∙ sym (names_at g.T.Keyed.entry subject entries place x below c.index-entries-place.is c.loop-place.names)
    ∙ c.loop-place.invariant

pub returns : goal.returns
returns g c =
    let entries = c.args.entries.now in let subject = c.args.subject.now in let place = c.loop-place.place in
    let end : length entries ≤ place = grind (arith, c.loop-place-test.false, c.loop-place.auto.place-end) in
    sym (names_at_end g.T.Keyed.entry subject entries place c.loop-place.names end) ∙ c.loop-place.invariant
