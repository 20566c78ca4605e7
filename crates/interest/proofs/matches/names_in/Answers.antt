use Rattle.std.proofs.Common.{◌+◌, ◌<◌, List, ℕ, true, length, map, drop, ap, sym, subst, ◌∙◌}
use Rattle.std.proofs.lemmas.Result.{err_from_is_err_and}
use Rattle.subj.specs.declared.keys.Key.{Key}
use Rattle.subj.specs.declared.limits.TheConstants.{MAX_QUEUE_NAMES}
use Rattle.interest.specs.Matches.{add_queue, names_in}
use Rattle.interest.proofs.Matching.Wanting.{names_on, names_here, too_many, found_here}
use Rattle.interest.proofs.matches.names_in.Goals as goal

pub loop-place-init : goal.loop-place-init
loop-place-init g c =
    let on = c.next_match-place.ensures in
    record {
      within = on.within;
      found = on.found;
      left =
          ap (λ (f : List (List ℕ) → List (List ℕ)). f c.args.names.now)
          (sym (names_on g.T.Keyed.entry c.args.subject.now c.args.entries.now 0 c.next_match-place.result on));
    }

pub loop-place-preserved : goal.loop-place-preserved
loop-place-preserved g c =
    let on = c.next_match-place-in-loop-place.ensures in
    let entries = c.args.entries.now in
    let subject = c.args.subject.now in
    let place = c.loop-place.place in
    let x = c.index-entries-place.result in
    let found = found_here g.T.Keyed.entry subject entries place x c.index-entries-place.is c.loop-place-test.true
    c.loop-place.invariant.found in
    let added = c.in_ok-add_queue.ensures.gathered
    ∙ ap (λ (key : Key). add_queue true key.queue c.loop-place.names) c.key_of.ensures in
    record {
      within = on.within;
      found = on.found;
      left =
          ap (λ (f : List (List ℕ) → List (List ℕ)). f c.add_queue.new.self)
          (sym (names_on g.T.Keyed.entry subject entries (place + 1) c.next_match-place-in-loop-place.result on))
          ∙ ap (names_in subject (map g.T.Keyed.entry (drop (place + 1) entries))) added
          ∙ sym (names_here g.T.Keyed.entry subject entries place x c.loop-place-test.true c.index-entries-place.is
          found c.loop-place.names)
          ∙ c.loop-place.invariant.left;
    }

pub returns-in_err-add_queue : goal.returns-in_err-add_queue
returns-in_err-add_queue g c =
    let entries = c.args.entries.now in
    let subject = c.args.subject.now in
    let place = c.loop-place.place in
    let x = c.index-entries-place.result in
    let found = found_here g.T.Keyed.entry subject entries place x c.index-entries-place.is c.loop-place-test.true
    c.loop-place.invariant.found in
    let all = names_in subject (map g.T.Keyed.entry entries) c.args.names.now in
    let more = subst (λ (key : Key). MAX_QUEUE_NAMES < length (add_queue true key.queue c.loop-place.names))
    c.key_of.ensures c.in_err-add_queue.ensures.gathered in
    let p = err_from_is_err_and c.from_residual.result c.from_residual.ensures.1 in
    rw p.1 (too_many g.T.Keyed.entry subject entries place x c.loop-place-test.true c.index-entries-place.is found
    c.loop-place.names all MAX_QUEUE_NAMES c.loop-place.invariant.left more)
