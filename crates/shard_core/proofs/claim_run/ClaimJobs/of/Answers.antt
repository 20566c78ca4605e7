use Rattle.std.proofs.Common.{◌≡◌, ◌≤◌, ℕ, ◌+◌, length, ap, sym, subst, ◌∙◌}
use Rattle.job_block.specs.Publications.{IsShort}
use Rattle.subj.specs.declared.limits.TheConstants.{MAX_COUNTER}
use Rattle.shard_core.specs.ClaimMembers.{IsRunOf}
use Rattle.shard_core.proofs.ClaimSound.{last_turn}
use Rattle.shard_core.proofs.ClaimStage.{run_of}
use Rattle.shard_core.proofs.claim_run.ClaimJobs.of.Goals as goal

pub returns-clause-run : goal.returns-clause-run
returns-clause-run c =
    let turn : c.get-first.result.turn ≡ c.args.finished + 1 =
    sym c.turn.ensures ∙ sym c.get.ensures.same ∙ c.if-get.false
    ∙ ap (λ (n : ℕ). n + 1) c.get-else-not-is_short.ensures.same in
    let told = c.run_len.ensures in
    run_of c.args.finished c.args.jobs.now c.first-jobs.result c.get-first.result c.in_ok-name.name.now c.run_len.result
    c.get-first.ensures c.in_ok-name.ensures
    (subst IsShort c.publication.ensures.same (c.is_short.ensures c.if-not-is_short.false)) turn (told.some c.requires)
    told.most told.run c.first-jobs.ensures

pub returns-clause-last : goal.returns-clause-last
returns-clause-last c =
    let turn : c.get-first.result.turn ≡ c.args.finished + 1 =
    sym c.turn.ensures ∙ sym c.get.ensures.same ∙ c.if-get.false
    ∙ ap (λ (n : ℕ). n + 1) c.get-else-not-is_short.ensures.same in
    let told = c.run_len.ensures in
    let run : IsRunOf c.args.finished c.args.jobs.now c.get-first.result c.in_ok-name.name.now c.first-jobs.result =
    run_of c.args.finished c.args.jobs.now c.first-jobs.result c.get-first.result c.in_ok-name.name.now c.run_len.result
    c.get-first.ensures c.in_ok-name.ensures
    (subst IsShort c.publication.ensures.same (c.is_short.ensures c.if-not-is_short.false)) turn (told.some c.requires)
    told.most told.run c.first-jobs.ensures in
    subst (λ (n : ℕ). n ≤ MAX_COUNTER)
    (last_turn c.args.finished c.args.jobs.now c.get-first.result c.in_ok-name.name.now c.first-jobs.result
    (length c.first-jobs.result) c.last_turn-last.result run run.some c.last_turn-last.ensures.turn)
    c.last_turn-last.ensures.most
