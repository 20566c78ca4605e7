use Rattle.std.proofs.Common.{◌≡◌, ◌-◌, true≢false, false, cond, [], ◌∷◌, Some, None, sym, ap, ◌∙◌, subst}
use Rattle.std.specs.Prelude.{slice_get}
use Rattle.shard_core.specs.Held.{Held}
use Rattle.shard_core.specs.ShardEvents.{DropJob}
use Rattle.shard_core.specs.ShardSteps.{shard_after}
use Rattle.node_threads.specs.AtWork.{AtWork, IsAtWork, seen_as}
use Rattle.node_threads.specs.Tapes.{Grows, Tells, drop_entry}
use Rattle.node_threads.specs.Turns.{HasDropped, MayBegin}
use Rattle.node_threads.proofs.Shards.Drops.{dropped_one, dropped_at_work, has_dropped, same_drop, same_job, with_dropped}
use Rattle.node_threads.proofs.Shards.Telling.{dropped_tells, waiting_dropped, waits_alone}
use Rattle.node_threads.proofs.shard_state.ShardState.drop_now.Goals as goal

pub invariant_of-self : goal.invariant_of-self
invariant_of-self g c =
    let s = c.self.inside in
    let i = c.self.invariant in
    let w = seen_as s.shard.state s.seat.part s.lane.popped s.lane.hand s.waits in
    let d =
    dropped_one g.N.NodeName.race.shards s.next_index w i.0 (subst MayBegin (sym c.self.view_is) c.requires.may) in
    let waits = c.requires.waits ∙ ap (λ (o : AtWork). o.waiting) (sym c.self.view_is) in
    let after =
    ap (λ (h : Held). h.state) c.drop_job.ensures.after ∙ ap (λ o. shard_after s.shard.state (DropJob o)) waits in
    let is : seen_as c.drop_job.new.self.state c.finish.new.seat.part s.lane.popped s.lane.hand false ≡ with_dropped w =
    λ k. seen_as (after k) (c.finish.ensures.part k) s.lane.popped s.lane.hand false in (
      subst (IsAtWork g.N.NodeName.race.shards 0) (sym is)
          (dropped_at_work g.N.NodeName.race.shards s.next_index w d.0 i.0 d.1),
      λ e. absurd (true≢false (sym e)),
      c.finish.ensures.race ∙ i.2,
      (λ k. slice_get g.N.NodeName.lanes ((c.finish.ensures.part k).shard - 1)) ∙ i.3,
    )

pub returns-clause-dropped : goal.returns-clause-dropped
returns-clause-dropped g c =
    let s = c.self.inside in
    let w = seen_as s.shard.state s.seat.part s.lane.popped s.lane.hand s.waits in
    let d = dropped_one g.N.NodeName.race.shards s.next_index w c.self.invariant.0
    (subst MayBegin (sym c.self.view_is) c.requires.may) in
    let waits = c.requires.waits ∙ ap (λ (o : AtWork). o.waiting) (sym c.self.view_is) in
    let after =
    ap (λ (h : Held). h.state) c.drop_job.ensures.after ∙ ap (λ o. shard_after s.shard.state (DropJob o)) waits in
    let new = seen_as c.drop_job.new.self.state c.finish.new.seat.part s.lane.popped s.lane.hand false in
    let is : new ≡ with_dropped w = λ k. seen_as (after k) (c.finish.ensures.part k) s.lane.popped s.lane.hand false in
    let turn : d.0.turn ≡ c.in-Some.job.turn =
    same_drop s.shard.state w.waiting c.args.waiting d.0 c.in-Some.job d.1.job_is waits c.in-Some.ensures.answered in
    subst (λ old. HasDropped old c.in-Some.job.turn new) c.self.view_is
    (subst (λ n. HasDropped w n new) turn (subst (HasDropped w d.0.turn) (sym is) (has_dropped w d.0 d.1)))

pub returns-clause-tells : goal.returns-clause-tells
returns-clause-tells g c =
    let s = c.self.inside in
    let i = c.self.invariant in
    let w = seen_as s.shard.state s.seat.part s.lane.popped s.lane.hand s.waits in
    let d =
    dropped_one g.N.NodeName.race.shards s.next_index w i.0 (subst MayBegin (sym c.self.view_is) c.requires.may) in
    let waits = c.requires.waits ∙ ap (λ (o : AtWork). o.waiting) (sym c.self.view_is) in
    let after =
    ap (λ (h : Held). h.state) c.drop_job.ensures.after ∙ ap (λ o. shard_after s.shard.state (DropJob o)) waits in
    let new = seen_as c.drop_job.new.self.state c.finish.new.seat.part s.lane.popped s.lane.hand false in
    let is : new ≡ with_dropped w = λ k. seen_as (after k) (c.finish.ensures.part k) s.lane.popped s.lane.hand false in
    let tape = c.args.tape.now in
    let more = c.note_drop.new.tape in
    let same =
    same_job s.shard.state w.waiting c.args.waiting d.0 c.in-Some.job d.1.job_is waits c.in-Some.ensures.answered in
    let noted = subst (λ job. Grows tape (drop_entry (cond s.waits (Some job) None) (Some job) ∷ []) more) (sym same)
    c.note_drop.ensures in
    let alone = waits_alone g.N.NodeName.race.shards s.next_index s.shard.state s.seat.part s.lane.popped s.lane.hand
    s.waits i.0 i.1 in
    let grows = subst (λ o. Grows tape (drop_entry o (Some d.0) ∷ []) more)
    (sym (waiting_dropped s.waits s.lane.hand s.shard.state.hand d.0 alone d.1.job_is)) noted in
    subst (λ old. Tells old tape new more) c.self.view_is
    (subst (λ v. Tells w tape v more) (sym is) (dropped_tells w d.0 d.1 tape more grows))
