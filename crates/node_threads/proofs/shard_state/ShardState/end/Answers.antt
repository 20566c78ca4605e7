use Rattle.std.proofs.Common.{◌≡◌, ◌-◌, sym, ap, ◌∙◌, subst}
use Rattle.std.specs.Prelude.{slice_get}
use Rattle.shard_core.specs.Held.{Held}
use Rattle.shard_core.specs.ShardEvents.{End}
use Rattle.shard_core.specs.ShardSteps.{shard_after}
use Rattle.claim_cells.specs.Steps.{finished_one}
use Rattle.node_threads.specs.AtWork.{IsAtWork, seen_as}
use Rattle.node_threads.specs.Turns.{HasEnded}
use Rattle.node_threads.specs.Tapes.{Tells}
use Rattle.node_threads.proofs.Shards.Claims.{end_at_work, end_ends, end_makes}
use Rattle.node_threads.proofs.Shards.Telling.{tells_one}
use Rattle.node_threads.proofs.Shards.Working.{step_of}
use Rattle.node_threads.proofs.shard_state.ShardState.end.Goals as goal

pub invariant_of-self : goal.invariant_of-self
invariant_of-self g c =
    let s = c.self.inside in
    let i = c.self.invariant in
    let after = ap (λ (h : Held). h.state) c.in-Ok.ensures.1.after in
    let is : seen_as c.end.new.self.state c.finish.new.seat.part s.lane.popped s.lane.hand s.waits
    ≡ seen_as (shard_after s.shard.state End) (finished_one s.seat.part) s.lane.popped s.lane.hand s.waits =
    λ k. seen_as (after k) (c.finish.ensures.part k) s.lane.popped s.lane.hand s.waits in (
      subst (IsAtWork g.N.NodeName.race.shards 0) (sym is)
          (end_at_work g.N.NodeName.race.shards s.next_index
          (seen_as s.shard.state s.seat.part s.lane.popped s.lane.hand s.waits) c.in-Some.job.now i.0
          (sym c.in-Some.ensures) c.in-Ok.ensures.0),
      i.1,
      c.finish.ensures.race ∙ i.2,
      (λ k. slice_get g.N.NodeName.lanes ((c.finish.ensures.part k).shard - 1)) ∙ i.3,
    )

pub returns-clause-ends : goal.returns-clause-ends
returns-clause-ends g c =
    let s = c.self.inside in
    let after = ap (λ (h : Held). h.state) c.in-Ok.ensures.1.after in
    let new = seen_as c.end.new.self.state c.finish.new.seat.part s.lane.popped s.lane.hand s.waits in
    let is : seen_as c.end.new.self.state c.finish.new.seat.part s.lane.popped s.lane.hand s.waits
    ≡ seen_as (shard_after s.shard.state End) (finished_one s.seat.part) s.lane.popped s.lane.hand s.waits =
    λ k. seen_as (after k) (c.finish.ensures.part k) s.lane.popped s.lane.hand s.waits in
    let w = seen_as s.shard.state s.seat.part s.lane.popped s.lane.hand s.waits in
    let turn = c.in-Some.job.now.turn in
    subst (λ old. HasEnded old turn new) c.self.view_is
    (subst (HasEnded w turn) (sym is)
    (end_ends g.N.NodeName.race.shards s.next_index w c.in-Some.job.now c.self.invariant.0 (sym c.in-Some.ensures)
    c.in-Ok.ensures.0))

pub returns-clause-tells : goal.returns-clause-tells
returns-clause-tells g c =
    let s = c.self.inside in
    let after = ap (λ (h : Held). h.state) c.in-Ok.ensures.1.after in
    let new = seen_as c.end.new.self.state c.finish.new.seat.part s.lane.popped s.lane.hand s.waits in
    let is : seen_as c.end.new.self.state c.finish.new.seat.part s.lane.popped s.lane.hand s.waits
    ≡ seen_as (shard_after s.shard.state End) (finished_one s.seat.part) s.lane.popped s.lane.hand s.waits =
    λ k. seen_as (after k) (c.finish.ensures.part k) s.lane.popped s.lane.hand s.waits in
    let w = seen_as s.shard.state s.seat.part s.lane.popped s.lane.hand s.waits in
    subst (λ old. Tells old c.args.tape.now new c.note_end.new.tape) c.self.view_is
    (subst (λ v. Tells w c.args.tape.now v c.note_end.new.tape) (sym is)
    (tells_one w _ (step_of w.state End) c.args.tape.now c.note_end.new.tape (end_makes w c.in-Ok.ensures.0)
    c.note_end.ensures))
