use Rattle.std.proofs.Common.{◌+◌, ◌++◌, length, length-append, ap, sym, ◌∙◌}
use Rattle.outbox.specs.Views.{Waiting, has_room, with_entry, spelt_entry}
use Rattle.outbox.specs.declared.entries.Mode.TheVariants.{Queue}
use Rattle.outbox.proofs.Staged.{room_left, sound_with, sound_still, seen_still, seen_with, left_after}
use Rattle.outbox.proofs.outbox.Outbox.stage_queued.Goals as goal

pub invariant_of-self : goal.invariant_of-self
invariant_of-self c = (
  sound_still _ _ _ _ _ _ _ _ _ _ c.self.invariant.0 c.in_err-push_queued.ensures.err c.push_queued.ensures.kept,
  c.self.invariant.1,
)

pub returns-in_err-push_queued-clause-err : goal.returns-in_err-push_queued-clause-err
returns-in_err-push_queued-clause-err c =
    left_after c.from_residual.result (seen_still _ _ _ _ _ _ _ c.in_err-push_queued.ensures.err ∙ c.self.view_is)

pub invariant_of-self-2 : goal.invariant_of-self-2
invariant_of-self-2 c =
    let entry = spelt_entry c.args.id c.args.sub (Queue c.args.name.now) (c.args.head.now ++ c.args.tail.now) in
    let room = room_left _ _ _ _ _ _
    (ap (λ (box : Waiting). has_room box.max_entries box.max_bytes (length entry.bytes) box.next) c.self.view_is
    ∙ c.requires.room) in (
      sound_with _ _ entry _ _ _ _ _ _ _ _ _ c.self.invariant.0 room.0 room.1 c.in_ok-push_queued.ensures.ok
          c.in_ok-push_queued.ensures.place
          (ap (λ n. c.self.inside.bytes + n) (sym (length-append c.args.head.now c.args.tail.now))),
      c.self.invariant.1,
    )

pub returns-clause-ok : goal.returns-clause-ok
returns-clause-ok c =
    let entry = spelt_entry c.args.id c.args.sub (Queue c.args.name.now) (c.args.head.now ++ c.args.tail.now) in
    seen_with _ _ entry _ _ _ _ _ c.self.invariant.0.within c.in_ok-push_queued.ensures.ok
    ∙ ap (λ (box : Waiting). record box { next = with_entry entry box.next }) c.self.view_is
