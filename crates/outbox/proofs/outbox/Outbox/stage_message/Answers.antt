use Rattle.std.proofs.Common.{arith, length, ap, ◌∙◌}
use Rattle.outbox.specs.Views.{Waiting, has_room, with_entry, message_entry}
use Rattle.outbox.proofs.Staged.{message_size, room_left, sound_with, sound_still, seen_still, seen_with, left_after}
use Rattle.outbox.proofs.outbox.Outbox.stage_message.Goals as goal

pub invariant_of-self : goal.invariant_of-self
invariant_of-self c = (
  sound_still _ _ _ _ _ _ _ _ _ _ c.self.invariant.0 c.in_err-push_message.ensures.err c.push_message.ensures.kept,
  c.self.invariant.1,
)

pub returns-in_err-push_message-clause-err : goal.returns-in_err-push_message-clause-err
returns-in_err-push_message-clause-err c =
    left_after c.from_residual.result (seen_still _ _ _ _ _ _ _ c.in_err-push_message.ensures.err ∙ c.self.view_is)

pub invariant_of-self-2 : goal.invariant_of-self-2
invariant_of-self-2 c =
    let entry = message_entry c.args.id c.args.sub c.args.mode c.args.line.now c.args.payload.now in
    let room = room_left _ _ _ _ _ _
    (ap (λ (box : Waiting). has_room box.max_entries box.max_bytes (length entry.bytes) box.next) c.self.view_is
    ∙ c.requires.room) in (
      sound_with _ _ entry _ _ _ _ _ _ _ _ _ c.self.invariant.0 room.0 room.1 c.in_ok-push_message.ensures.ok
          c.in_ok-push_message.ensures.place
          (let size = message_size c.args.line.now c.args.payload.now in omega (arith, size)),
      c.self.invariant.1,
    )

pub returns-clause-ok : goal.returns-clause-ok
returns-clause-ok c =
    let entry = message_entry c.args.id c.args.sub c.args.mode c.args.line.now c.args.payload.now in
    seen_with _ _ entry _ _ _ _ _ c.self.invariant.0.within c.in_ok-push_message.ensures.ok
    ∙ ap (λ (box : Waiting). record box { next = with_entry entry box.next }) c.self.view_is
