use Rattle.std.proofs.Common.{rules, ◌≡◌, ℕ, Result, Ok, ap, subst}
use Rattle.subj.specs.Answers.{IsDecided}
use Rattle.subj.specs.declared.turns.Busy.{Busy}
use Rattle.claim_race.specs.Race.{RaceState, busy_of, IsIssued}
use Rattle.claim_cells.specs.Calls.{IsIssueAt}
use Rattle.claim_cells.specs.OneSeat.{race_of_seat}
use Rattle.claim_cells.proofs.SeatSteps.OneSeat.{issues}
use Rattle.claim_cells.proofs.cells_race.CellsRaceRace.issue.Goals as goal

pub returns-in_err-turn : goal.returns-in_err-turn
returns-in_err-turn c =
    let me = c.self.inside.place.me in
    let new = c.issue_at.new.place.me in
    let shards : ℕ = c.self.inside.cells.shards in
    let same : c.issue_at.result ≡ c.from_residual.result = search rules in
    subst (λ (r : RaceState).
    IsDecided (busy_of r.issued r.finished) (λ turn. IsIssued r turn (race_of_seat new)) (race_of_seat new ≡ r)
    c.from_residual.result)
    c.self.view_is
    (issues me new shards c.from_residual.result c.self.invariant.whole (ap (λ r. r.shards) c.self.invariant.same)
    (subst (λ (r : Result ℕ Busy). IsIssueAt shards me r new) same c.issue_at.ensures.told)).3

pub returns : goal.returns
returns c =
    let me = c.self.inside.place.me in
    let new = c.issue_at.new.place.me in
    let shards : ℕ = c.self.inside.cells.shards in
    let result : Result ℕ Busy = Ok c.in_ok-turn.turn in
    subst (λ (r : RaceState).
    IsDecided (busy_of r.issued r.finished) (λ turn. IsIssued r turn (race_of_seat new)) (race_of_seat new ≡ r) result)
    c.self.view_is
    (issues me new shards result c.self.invariant.whole (ap (λ r. r.shards) c.self.invariant.same)
    (subst (λ (r : Result ℕ Busy). IsIssueAt shards me r new) c.in_ok-turn.was c.issue_at.ensures.told)).3
