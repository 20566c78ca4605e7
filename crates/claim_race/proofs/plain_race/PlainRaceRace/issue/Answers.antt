use Rattle.std.proofs.Common.{◌≡◌, ℕ, None, sym, ap, ◌∙◌, subst}
use Rattle.subj.specs.declared.limits.TheConstants.{MAX_COUNTER}
use Rattle.claim_race.specs.Race.{RaceState, busy_of, IsIssued}
use Rattle.claim_race.specs.PlainRace.{finished_in, race_of_table, IsTable}
use Rattle.claim_race.proofs.Steps.{issue_table, issues, turn_is}
use Rattle.claim_race.proofs.plain_race.PlainRaceRace.issue.Goals as goal

pub invariant_of-self : goal.invariant_of-self
invariant_of-self c =
    let race = c.self.inside in
    let next = turn_is MAX_COUNTER race.issued c.unwrap-turn.result (sym c.next.ensures ∙ c.unwrap-turn.ensures) in
    let idle = sym (c.busy.ensures ∙ ap (λ progress. busy_of race.issued (finished_in progress)) c.deref.ensures.value)
    ∙ c.in_default.is in
    subst (λ (n : ℕ). IsTable n (finished_in race.progress.items) race.table.items) (sym next)
    (issue_table race.issued (finished_in race.progress.items) race.table.items c.self.invariant idle)

pub returns : goal.returns
returns c =
    let race = c.self.inside in
    let next = turn_is MAX_COUNTER race.issued c.unwrap-turn.result (sym c.next.ensures ∙ c.unwrap-turn.ensures) in
    let idle = sym (c.busy.ensures ∙ ap (λ progress. busy_of race.issued (finished_in progress)) c.deref.ensures.value)
    ∙ c.in_default.is in
    subst (λ (old : RaceState).
    (busy_of old.issued old.finished ≡ None)
    × IsIssued old c.unwrap-turn.result (race_of_table c.unwrap-turn.result race.progress.items race.table.items))
    c.self.view_is (
      idle,
      subst (λ (n : ℕ).
          IsIssued (race_of_table race.issued race.progress.items race.table.items) n
          (race_of_table n race.progress.items race.table.items))
          (sym next) (issues race.issued race.progress.items race.table.items c.self.invariant),
    )
