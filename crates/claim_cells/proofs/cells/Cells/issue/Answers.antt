use Rattle.std.proofs.Common.{rules, ◌≡◌, ℕ, Result, Ok, subst}
use Rattle.subj.specs.declared.turns.Busy.{Busy}
use Rattle.claim_cells.specs.Steps.{hub_of}
use Rattle.claim_cells.specs.Seats.{HubShown}
use Rattle.claim_cells.specs.Calls.{IsIssueAt, IsIssuedOrBusy}
use Rattle.claim_cells.proofs.SeatSteps.Issuing.{issued_hub, never_busy}
use Rattle.claim_cells.proofs.cells.Cells.issue.Goals as goal

pub returns-in_err-turn-clause-told : goal.returns-in_err-turn-clause-told
returns-in_err-turn-clause-told c =
    let me = c.seat.inside.place.me in
    let new = c.issue_at.new.place.me in
    let shards : ℕ = c.args.self.now.shards in
    let same : c.issue_at.result ≡ c.from_residual.result = search rules in
    subst (λ (v : HubShown). IsIssuedOrBusy shards v.part c.from_residual.result (hub_of new)) c.seat.view_is
    (issued_hub me new shards c.from_residual.result
    (subst (λ (r : Result ℕ Busy). IsIssueAt shards me r new) same c.issue_at.ensures.told))

pub returns-clause-told : goal.returns-clause-told
returns-clause-told c =
    let me = c.seat.inside.place.me in
    let new = c.issue_at.new.place.me in
    let shards : ℕ = c.args.self.now.shards in
    let result : Result ℕ Busy = Ok c.in_ok-turn.turn in
    subst (λ (v : HubShown). IsIssuedOrBusy shards v.part result (hub_of new)) c.seat.view_is
    (issued_hub me new shards result
    (subst (λ (r : Result ℕ Busy). IsIssueAt shards me r new) c.in_ok-turn.was c.issue_at.ensures.told))

pub returns-in_err-turn-clause-sure : goal.returns-in_err-turn-clause-sure
returns-in_err-turn-clause-sure c =
    never_busy c.args.self.now.shards c.args.seat.now.part (hub_of c.issue_at.new.place.me) c.from_residual.result
    (returns-in_err-turn-clause-told c)
