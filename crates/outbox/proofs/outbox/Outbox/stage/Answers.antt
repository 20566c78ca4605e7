use Rattle.std.proofs.Common.{◌+◌, length, ap, ◌∙◌}
use Rattle.outbox.specs.Views.{Waiting, has_room, with_entry}
use Rattle.outbox.proofs.Staged.{room_left, sound_with, sound_still, seen_still, seen_with, left_after}
use Rattle.outbox.proofs.outbox.Outbox.stage.Goals as goal

pub invariant_of-self : goal.invariant_of-self
invariant_of-self c = (
  sound_still _ _ _ _ _ _ _ _ _ _ c.self.invariant.0 c.in_err-push.ensures.err c.push.ensures.kept,
  c.self.invariant.1,
)

pub returns-in_err-push-clause-err : goal.returns-in_err-push-clause-err
returns-in_err-push-clause-err c =
    left_after c.from_residual.result (seen_still _ _ _ _ _ _ _ c.in_err-push.ensures.err ∙ c.self.view_is)

pub invariant_of-self-2 : goal.invariant_of-self-2
invariant_of-self-2 c =
    let entry = c.args.entry in
    let room = room_left _ _ _ _ _ _
    (ap (λ (box : Waiting). has_room box.max_entries box.max_bytes (length entry.bytes) box.next) c.self.view_is
    ∙ c.requires) in (
      sound_with _ _ entry _ _ _ _ _ _ _ _ _ c.self.invariant.0 room.0 room.1 c.in_ok-push.ensures.ok
          c.in_ok-push.ensures.place (ap (λ n. c.self.inside.bytes + n) c.len-size.ensures),
      c.self.invariant.1,
    )

pub returns-clause-ok : goal.returns-clause-ok
returns-clause-ok c =
    let entry = c.args.entry in
    seen_with _ _ entry _ _ _ _ _ c.self.invariant.0.within c.in_ok-push.ensures.ok
    ∙ ap (λ (box : Waiting). record box { next = with_entry entry box.next }) c.self.view_is
