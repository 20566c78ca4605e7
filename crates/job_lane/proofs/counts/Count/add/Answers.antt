use Rattle.std.proofs.Common.{rules, ◌≡◌, length, arith, deque_len}
use Rattle.job_lane.proofs.Lists.{fewer}
use Rattle.job_lane.proofs.counts.Count.add.Goals as goal

pub push_back_reserved-requires : goal.push_back_reserved-requires
push_back_reserved-requires c =
    let least = fewer c.self.inside.lengths.items c.self.invariant.some in
    let len : deque_len c.self.inside.lengths ≡ length c.self.inside.lengths.items = search rules in
    let total = c.self.invariant.total in
    let room = c.self.invariant.room in
    grind (arith, c.requires.some, c.requires.room, c.self.view_is)
