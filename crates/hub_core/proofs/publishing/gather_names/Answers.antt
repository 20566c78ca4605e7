use Rattle.std.proofs.Common.{◌<◌, List, [], ℕ, length, ap, subst, ◌∙◌, arith}
use Rattle.std.proofs.lemmas.Result.{err_from_is_err_and}
use Rattle.subj.specs.declared.limits.TheConstants.{MAX_QUEUE_NAMES}
use Rattle.interest.specs.Matches.{names_in}
use Rattle.hub_core.proofs.Choices.Choosing.{not_fewer_from, too_many_at}
use Rattle.hub_core.proofs.publishing.gather_names.Goals as goal

pub returns-in_err-names_in : goal.returns-in_err-names_in
returns-in_err-names_in c =
    let subject = c.args.subject.now in
    let counts = c.args.counts.now in
    let more = subst (λ (names : List (List ℕ)). MAX_QUEUE_NAMES < length (names_in subject counts names)) c.requires
    c.in_err-names_in.ensures in
    let rest = not_fewer_from c.args.server.now subject 0 c.args.peers.now (names_in subject counts []) in
    let p = err_from_is_err_and c.from_residual.result c.from_residual.ensures.1 in
    rw p.1 (omega arith)

pub returns-in_err-add_names : goal.returns-in_err-add_names
returns-in_err-add_names c =
    let subject = c.args.subject.now in
    let counts = c.args.counts.now in
    let begun = c.in_ok-names_in.ensures ∙ ap (names_in subject counts) c.requires in
    let p = err_from_is_err_and c.from_residual-in_err-add_names.result c.from_residual-in_err-add_names.ensures.1 in
    rw p.1 (too_many_at c.args.server.now subject c.args.peers.now c.loop-place.place c.index-peers-place.result
    c.loop-place.names _ (names_in subject counts []) MAX_QUEUE_NAMES c.loop-place-test.true c.index-peers-place.is
    c.loop-place.invariant begun c.in_err-add_names.ensures)
