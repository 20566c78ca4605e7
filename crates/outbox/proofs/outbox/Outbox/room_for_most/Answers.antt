use Rattle.std.proofs.Common.{subst, arith}
use Rattle.outbox.specs.Views.{Waiting, HasRoomForEach}
use Rattle.outbox.proofs.Staged.{least_of, room_for_each}
use Rattle.outbox.proofs.outbox.Outbox.room_for_most.Goals as goal

pub returns-clause-room : goal.returns-clause-room
returns-clause-room c = λ some.
    let own = c.self.inside in
    let sound = c.self.invariant.0 in
    let few = c.min-few.ensures in
    let left = c.saturating_sub.ensures in
    let count = c.len.ensures in
    let least = least_of _ _ _ c.min.ensures in
    let one = least.0 in
    subst (λ (box : Waiting). HasRoomForEach c.min.result c.args.len box.max_entries box.max_bytes box.next)
    c.self.view_is
    (room_for_each own.entries.entries c.min.result c.args.len own.max_entries own.max_bytes own.bytes own.closing
    c.if-self.false (sound.counted c.if-self.false) sound.bytes_fit some
    (omega (arith, few, left, count, one)) least.1)
