use Rattle.std.proofs.Common.{◌≡◌, ℕ, ◌+◌, take, ap, sym, subst, ◌∙◌}
use Rattle.std.proofs.lemmas.Option.{slice_get_within}
use Rattle.shard_core.specs.RunSteps.{GoTogether}
use Rattle.shard_core.proofs.RunJobs.{run_together}
use Rattle.shard_core.proofs.run_delivery.jobs_together.Goals as goal

pub returns-clause-together : goal.returns-clause-together
returns-clause-together c =
    let jobs = c.args.jobs.now in
    let first = c.args.first.now in
    let count = c.run_len-count.result in
    let told = c.run_len-count.ensures in
    let turn : first.turn ≡ c.args.finished + 1 =
    sym c.turn.ensures ∙ sym c.get.ensures.same ∙ c.if-get.false ∙ ap (λ (n : ℕ). n + 1) c.get-2.ensures.same in
    subst (λ (n : ℕ). GoTogether first c.args.finished n (take count jobs)) (sym c.turn-2.ensures)
    (run_together first c.get-3.result c.args.finished count jobs c.requires.first c.requires.begins turn
    (told.some (slice_get_within jobs 0 first c.requires.first)) told.most told.run c.get-3.ensures)
