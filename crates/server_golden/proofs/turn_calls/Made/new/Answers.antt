use Rattle.std.proofs.Common.{rules, ◌≡◌, [], ◌∷◌, ◌++◌}
use Rattle.server_golden.proofs.Turns.{only_seat}
use Rattle.server_golden.proofs.turn_calls.Made.new.Goals as goal

pub invariant_of-result : goal.invariant_of-result
invariant_of-result c =
    let seats = c.in_ok-cells.seats.items in
    let made = c.in_ok-cells.ensures in
    let is : seats ≡ c.pop.new.self.items ++ c.unwrap-seat.result ∷ [] = search rules in
    let one = only_seat c.in_ok-cells.cells seats c.pop.new.self.items c.unwrap-seat.result made.3 is in
    let ends = c.in_ok-near.ensures in
    record {
      parts = record {
        shards = made.0;
        hubs = made.1;
        first = made.2;
        seats = one.0;
        fresh = one.1;
        lane = ends.of_one;
        pushed = ends.new.0;
        popped = ends.new.1;
        hand = ends.new.2;
      };
    }
