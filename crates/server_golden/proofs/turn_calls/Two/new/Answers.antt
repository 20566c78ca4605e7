use Rattle.std.proofs.Common.{rules, ◌≡◌, [], ◌∷◌, ◌++◌}
use Rattle.server_golden.proofs.Claims.{last_is, rest_is}
use Rattle.server_golden.proofs.turn_calls.Two.new.Goals as goal

pub invariant_of-result : goal.invariant_of-result
invariant_of-result c =
    let race = c.in_ok-cells.cells in
    let seats = c.in_ok-cells.seats.items in
    let made = c.in_ok-cells.ensures in
    let second : seats ≡ c.pop.new.self.items ++ c.unwrap-second.result ∷ [] = search rules in
    let first : c.pop.new.self.items ≡ c.pop-2.new.self.items ++ c.unwrap-first.result ∷ [] = search rules in
    let rest = rest_is race seats c.pop.new.self.items c.unwrap-second.result second 1 made.3 in
    let one = last_is race c.pop.new.self.items c.pop-2.new.self.items c.unwrap-first.result first 0 rest in
    let two = last_is race seats c.pop.new.self.items c.unwrap-second.result second 1 made.3 in
    record {
      of = record { count = made.0; hubs = made.1; firsts = one.0; seconds = two.0; shard_1 = one.1; shard_2 = two.1 };
    }
