use Rattle.std.proofs.Common.{ap, ◌∙◌, subst}
use Rattle.claim_cells.specs.Steps.{hub_of, with_loads}
use Rattle.claim_cells.specs.Seats.{HubShown}
use Rattle.claim_cells.specs.Calls.{IsLooked}
use Rattle.claim_cells.proofs.SeatSteps.Kept.{hub_now}
use Rattle.claim_cells.proofs.SeatSteps.Issuing.{looked_loads}
use Rattle.claim_cells.proofs.cells.Cells.look.Goals as goal

pub invariant_of-seat : goal.invariant_of-seat
invariant_of-seat c =
    let me = c.seat.inside.place.me in
    let look = c.look_at_all in
    let told = look.ensures.told in
    let now =
    hub_now me look.new.place.me (with_loads (hub_of me) told.0) told.1.1.0 c.seat.invariant.whole told.1.1.1 in
    record {
      whole = now.0;
      last = ap (λ h. h.issued) now.1 ∙ c.seat.invariant.last;
    }

pub returns-clause-told : goal.returns-clause-told
returns-clause-told c =
    let me = c.seat.inside.place.me in
    let look = c.look_at_all in
    let told = look.ensures.told in
    let now =
    hub_now me look.new.place.me (with_loads (hub_of me) told.0) told.1.1.0 c.seat.invariant.whole told.1.1.1 in
    subst (λ (v : HubShown). IsLooked c.args.self.now.shards v.part look.result (hub_of look.new.place.me))
    c.seat.view_is (told.0, told.1.0, told.2, now.1)

pub returns-clause-loads : goal.returns-clause-loads
returns-clause-loads c =
    looked_loads c.args.self.now.shards c.args.seat.now.part (hub_of c.look_at_all.new.place.me) c.look_at_all.result
    (returns-clause-told c)
