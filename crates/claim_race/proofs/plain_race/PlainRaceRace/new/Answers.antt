use Rattle.std.proofs.Common.{rules, ◌≡◌, ℕ, ◌*◌, Some, None, refl, ap, ◌∙◌}
use Rattle.std.specs.Prelude.{replicate}
use Rattle.claim_race.specs.declared.plain_race.Progress.{Progress}
use Rattle.subj.specs.declared.limits.TheConstants.{WINDOW, MAX_QUEUE_NAMES}
use Rattle.claim_race.specs.PlainRace.{finished_in, wins_in}
use Rattle.claim_race.proofs.Steps.{begins, none_won, starts}
use Rattle.claim_race.proofs.plain_race.PlainRaceRace.new.Goals as goal

pub returns : goal.returns
returns c =
    let start : Progress = record { finished = c.zero.result; next = 0 } in
    let size : ℕ = WINDOW * MAX_QUEUE_NAMES in
    let same : c.in_ok-progress.progress.items ≡ replicate c.args.shards start = search rules in
    let free : c.in_ok-table.table.items ≡ replicate size None =
    c.in_ok-table.ensures.items_if_clones_equal (elim [ None ↦ λ h. refl | Some x ↦ λ h. absurd h ]) in
    begins c.args.shards c.zero-2.result c.in_ok-progress.progress.items c.in_ok-table.table.items start
    c.zero-2.ensures same c.zero.ensures refl (ap wins_in free ∙ none_won size)

pub invariant_of-result : goal.invariant_of-result
invariant_of-result c =
    let size : ℕ = WINDOW * MAX_QUEUE_NAMES in
    let same : c.in_ok-table.table.items ≡ replicate size None =
    c.in_ok-table.ensures.items_if_clones_equal (elim [ None ↦ λ h. refl | Some x ↦ λ h. absurd h ]) in
    starts size c.zero-2.result (finished_in c.in_ok-progress.progress.items) c.in_ok-table.table.items c.zero-2.ensures
    same refl
