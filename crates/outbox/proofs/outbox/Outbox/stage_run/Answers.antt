use Rattle.std.proofs.Common.{◌+◌, ap, ◌∙◌, arith}
use Rattle.outbox.specs.Views.{Waiting, has_room_for_all, with_entries, message_run}
use Rattle.outbox.proofs.Runs.{room_for_all, run_length}
use Rattle.outbox.proofs.Staged.{sound_with_all, sound_still, seen_still, seen_with_all, left_after}
use Rattle.outbox.proofs.outbox.Outbox.stage_run.Goals as goal

pub push_run-requires-clause-few : goal.push_run-requires-clause-few
push_run-requires-clause-few c =
    let run = message_run c.args.sub c.args.head.now c.args.tails.now in
    let room = room_for_all _ _ run _
    (ap (λ (box : Waiting). has_room_for_all box.max_entries box.max_bytes run box.next) c.self.view_is ∙ c.requires) in
    let few = room.few in
    let count = run_length c.args.sub c.args.head.now c.args.tails.now in
    omega (arith, few, count)

pub push_run-requires-clause-small : goal.push_run-requires-clause-small
push_run-requires-clause-small c =
    let run = message_run c.args.sub c.args.head.now c.args.tails.now in
    let room = room_for_all _ _ run _
    (ap (λ (box : Waiting). has_room_for_all box.max_entries box.max_bytes run box.next) c.self.view_is ∙ c.requires) in
    let small = room.small in
    omega (arith, small)

pub invariant_of-self : goal.invariant_of-self
invariant_of-self c = (
  sound_still _ _ _ _ _ _ _ _ _ _ c.self.invariant.0 c.in_err-len.ensures.err c.push_run.ensures.kept,
  c.self.invariant.1,
)

pub returns-in_err-len-clause-err : goal.returns-in_err-len-clause-err
returns-in_err-len-clause-err c =
    left_after c.from_residual.result (seen_still _ _ _ _ _ _ _ c.in_err-len.ensures.err ∙ c.self.view_is)

pub invariant_of-self-2 : goal.invariant_of-self-2
invariant_of-self-2 c =
    let run = message_run c.args.sub c.args.head.now c.args.tails.now in
    let room = room_for_all _ _ run _
    (ap (λ (box : Waiting). has_room_for_all box.max_entries box.max_bytes run box.next) c.self.view_is ∙ c.requires) in
    let sound = c.self.invariant.0 in
    let place = c.in_ok-len.ensures.place (sound.places room.unshut) in (
      sound_with_all _ _ run _ _ _ _ _ _ _ _ _ sound room.unshut room.small c.in_ok-len.ensures.ok place
          (ap (λ n. c.self.inside.bytes + n) c.in_ok-len.ensures.len),
      c.self.invariant.1,
    )

pub returns-clause-ok : goal.returns-clause-ok
returns-clause-ok c =
    let run = message_run c.args.sub c.args.head.now c.args.tails.now in
    seen_with_all _ _ run _ _ _ _ _ c.self.invariant.0.within c.in_ok-len.ensures.ok
    ∙ ap (λ (box : Waiting). record box { next = with_entries run box.next }) c.self.view_is
