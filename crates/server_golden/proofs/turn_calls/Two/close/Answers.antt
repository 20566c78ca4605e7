use Rattle.std.proofs.Common.{rules, ◌≡◌, [], ◌∷◌}
use Rattle.server_golden.proofs.Claims.{each_of_two}
use Rattle.server_golden.proofs.turn_calls.Two.close.Goals as goal

pub close-requires-clause-each : goal.close-requires-clause-each
close-requires-clause-each c =
    let two = c.args.self.of in
    let seats : c.in-Ok.seats.items ≡ c.args.self.first ∷ c.args.self.second ∷ [] = search rules in
    each_of_two c.args.self.cells.shards c.in-Ok.seats.items c.args.self.first c.args.self.second two.count seats
    two.shard_1 two.shard_2
