use Rattle.std.proofs.Common.{ℕ, ◌≤◌, subst}
use Rattle.claim_cells.specs.Rule.{Has}
use Rattle.claim_cells.specs.Seats.{ShardShown}
use Rattle.claim_cells.proofs.SeatSteps.Kept.{seat_saw}
use Rattle.claim_cells.proofs.cells.Cells.see.Goals as goal

pub invariant_of-seat : goal.invariant_of-seat
invariant_of-seat c =
    let seat = c.seat.inside in
    seat_saw seat.place.me c.load_issued-seat-inside.new.place.me seat.shard seat.finished seat.next seat.seen
    c.seat.invariant c.load_issued-seat-inside.result c.load_issued-seat-inside.ensures.told.0

pub returns-clause-rises : goal.returns-clause-rises
returns-clause-rises c =
    subst (λ (v : ShardShown). (n : ℕ) → Has v.part.loads n → n ≤ c.load_issued-seat-inside.result) c.seat.view_is
    c.load_issued-seat-inside.ensures.told.2

pub returns-clause-last : goal.returns-clause-last
returns-clause-last c =
    let seat = c.seat.inside in
    (seat_saw seat.place.me c.load_issued-seat-inside.new.place.me seat.shard seat.finished seat.next seat.seen
    c.seat.invariant c.load_issued-seat-inside.result c.load_issued-seat-inside.ensures.told.0).sight
