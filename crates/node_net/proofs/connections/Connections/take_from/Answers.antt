use Rattle.std.proofs.Common.{rules, ◌≡◌, Some, None}
use Rattle.std.specs.Prelude.{slice_get}
use Rattle.node_net.specs.Taking.{all_parts, keys_of}
use Rattle.node_net.proofs.TakingLemmas.{taken_more, taken_short}
use Rattle.node_net.proofs.connections.Connections.take_from.Goals as goal

pub returns-then-is_err : goal.returns-then-is_err
returns-then-is_err g c =
    let is : slice_get (keys_of c.args.awaited) c.loop-place.place ≡ Some c.in-Some.key = search rules in
    let none : c.loop-place.taken.last ≡ None = search rules in
    taken_short g.H.ShardCalls.takes g.H.ShardCalls.number (keys_of c.args.awaited) c.args.from c.loop-place.place
    c.in-Some.key _ c.args.self.now.table c.loop-place.self.table c.take_one.new.self.table c.args.shard.now
    c.loop-place.shard c.take_one.new.shard (all_parts c.args.taken.now) (all_parts c.loop-place.taken)
    (all_parts c.take_one.new.taken) c.loop-place.invariant is (c.take_one.ensures none)

pub loop-place-preserved : goal.loop-place-preserved
loop-place-preserved g c =
    let is : slice_get (keys_of c.args.awaited) c.loop-place.place ≡ Some c.in-Some.key = search rules in
    let none : c.loop-place.taken.last ≡ None = search rules in
    taken_more g.H.ShardCalls.takes g.H.ShardCalls.number (keys_of c.args.awaited) c.args.from c.loop-place.place
    c.in-Some.key c.args.self.now.table c.loop-place.self.table c.take_one.new.self.table c.args.shard.now
    c.loop-place.shard c.take_one.new.shard (all_parts c.args.taken.now) (all_parts c.loop-place.taken)
    (all_parts c.take_one.new.taken) c.loop-place.invariant is (c.take_one.ensures none)
