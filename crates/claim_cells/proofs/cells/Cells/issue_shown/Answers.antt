-- The loads that the seat keeps are those of its part, and the turn that is issued is the next one.
use Rattle.std.proofs.Common.{◌≡◌, ℕ, ◌+◌, arith, sym, subst}
use Rattle.claim_cells.specs.Seats.{HubShown}
use Rattle.claim_cells.specs.Steps.{hub_of}
use Rattle.claim_cells.specs.Calls.{ShowsRoom}
use Rattle.claim_cells.proofs.SeatSteps.Turns.{same_turn}
use Rattle.claim_cells.proofs.cells.Cells.issue_shown.Goals as goal

pub store_issued-requires-clause-near : goal.store_issued-requires-clause-near
store_issued-requires-clause-near c =
    let issued : ℕ = c.seat.inside.issued in
    let last : (hub_of c.seat.inside.place.me).issued ≡ issued = c.seat.invariant.last in
    let turn_is : c.unwrap-turn.result ≡ issued + 1 =
    same_turn (issued + 1) c.unwrap-turn.result c.next.result c.next.ensures c.unwrap-turn.ensures in
    let room = subst (λ (v : HubShown). ShowsRoom c.args.self.now.shards v.part) (sym c.seat.view_is) c.requires.room in
    λ s low.
    let near = room s low in
    (near.0, near.1, (let up = near.2 in omega arith))
