use Rattle.std.proofs.Common.{rules, ◌≡◌, false, true≢false, None, refl, sym, ap, ◌∙◌, subst}
use Rattle.shard_core.specs.Held.{Held, IsLeft}
use Rattle.shard_core.specs.ShardEvents.{Begin}
use Rattle.shard_core.specs.ShardSteps.{shard_refusal}
use Rattle.node_threads.specs.AtWork.{IsAtWork, seen_as}
use Rattle.node_threads.specs.Tapes.{Tells}
use Rattle.node_threads.specs.Turns.{HasWorked, MayBegin}
use Rattle.node_threads.proofs.Shards.Joining.{makes_nothing, works_nothing}
use Rattle.node_threads.proofs.Shards.Placing.{begun_grows}
use Rattle.node_threads.proofs.Shards.Telling.{tells_nothing, tells_one}
use Rattle.node_threads.proofs.Shards.Working.{begun_at_work, begun_makes, begun_works, handed_back, step_of, waits_for}
use Rattle.node_threads.proofs.shard_state.ShardState.begin_next.Goals as goal

pub invariant_of-self : goal.invariant_of-self
invariant_of-self g c =
    let s = c.self.inside in
    let i = c.self.invariant in
    let same = ap (λ (h : Held). h.state)
    (handed_back (shard_refusal s.shard.state (Begin c.in-Some.job)) c.in-Some.job c.in-Err.field-0.job
    (IsLeft s.shard c.begin.new.self) c.in-Err.field-0.cause c.in-Err.ensures) in (
      subst (λ t.
          IsAtWork g.N.NodeName.race.shards s.next_index (seen_as t s.seat.part s.lane.popped s.lane.hand s.waits))
          (sym same) i.0,
      i.1,
      i.2,
      i.3,
    )

pub returns-in-Err-clause-works : goal.returns-in-Err-clause-works
returns-in-Err-clause-works g c =
    let s = c.self.inside in
    let w = seen_as s.shard.state s.seat.part s.lane.popped s.lane.hand s.waits in
    let same = ap (λ (h : Held). h.state)
    (handed_back (shard_refusal s.shard.state (Begin c.in-Some.job)) c.in-Some.job c.in-Err.field-0.job
    (IsLeft s.shard c.begin.new.self) c.in-Err.field-0.cause c.in-Err.ensures) in
    subst (λ t. HasWorked c.args.self.now (seen_as t s.seat.part s.lane.popped s.lane.hand s.waits)) (sym same)
    (subst (λ old. HasWorked old w) c.self.view_is (works_nothing w w (makes_nothing w)))

pub invariant_of-self-in-Ok : goal.invariant_of-self-in-Ok
invariant_of-self-in-Ok g c =
    let s = c.self.inside in
    let i = c.self.invariant in
    let w = seen_as s.shard.state s.seat.part s.lane.popped s.lane.hand s.waits in
    let free : s.shard.state.hand ≡ None = search rules in
    let may = subst MayBegin (sym c.self.view_is) c.requires free in
    let waits =
    waits_for s.waits s.lane.hand c.in-Some.job c.in-Some.job may.0 (sym c.in_ok-copy.ensures ∙ c.in-Some.is) refl in
    let after = ap (λ (h : Held). h.state) c.in-Ok.ensures.1.after in (
      subst (λ t. IsAtWork g.N.NodeName.race.shards 0 (seen_as t s.seat.part s.lane.popped s.lane.hand false))
          (sym after)
          (begun_at_work g.N.NodeName.race.shards s.next_index w c.in-Some.job i.0 waits may.1 c.in-Ok.ensures.0),
      λ e. absurd (true≢false (sym e)),
      i.2,
      i.3,
    )

pub returns-clause-works : goal.returns-clause-works
returns-clause-works g c =
    let s = c.self.inside in
    let w = seen_as s.shard.state s.seat.part s.lane.popped s.lane.hand s.waits in
    let free : s.shard.state.hand ≡ None = search rules in
    let may = subst MayBegin (sym c.self.view_is) c.requires free in
    let waits =
    waits_for s.waits s.lane.hand c.in-Some.job c.in-Some.job may.0 (sym c.in_ok-copy.ensures ∙ c.in-Some.is) refl in
    let after = ap (λ (h : Held). h.state) c.in-Ok.ensures.1.after in
    subst (λ old. HasWorked old (seen_as c.begin.new.self.state s.seat.part s.lane.popped s.lane.hand false))
    c.self.view_is
    (subst (λ t. HasWorked w (seen_as t s.seat.part s.lane.popped s.lane.hand false)) (sym after)
    (begun_works w c.in-Some.job waits c.in-Ok.ensures.0))

pub returns-then-is_some-clause-tells : goal.returns-then-is_some-clause-tells
returns-then-is_some-clause-tells g c = tells_nothing c.args.self.now c.args.tape.now

pub returns-in_err-copy-clause-tells : goal.returns-in_err-copy-clause-tells
returns-in_err-copy-clause-tells g c = tells_nothing c.args.self.now c.args.tape.now

pub returns-in-Err-clause-tells : goal.returns-in-Err-clause-tells
returns-in-Err-clause-tells g c =
    let s = c.self.inside in
    let w = seen_as s.shard.state s.seat.part s.lane.popped s.lane.hand s.waits in
    let same = ap (λ (h : Held). h.state)
    (handed_back (shard_refusal s.shard.state (Begin c.in-Some.job)) c.in-Some.job c.in-Err.field-0.job
    (IsLeft s.shard c.begin.new.self) c.in-Err.field-0.cause c.in-Err.ensures) in
    subst (λ t.
    Tells c.args.self.now c.args.tape.now (seen_as t s.seat.part s.lane.popped s.lane.hand s.waits) c.args.tape.now)
    (sym same)
    (subst (λ old. Tells old c.args.tape.now w c.args.tape.now) c.self.view_is (tells_nothing w c.args.tape.now))

pub returns-clause-tells : goal.returns-clause-tells
returns-clause-tells g c =
    let s = c.self.inside in
    let w = seen_as s.shard.state s.seat.part s.lane.popped s.lane.hand s.waits in
    let free : s.shard.state.hand ≡ None = search rules in
    let may = subst MayBegin (sym c.self.view_is) c.requires free in
    let waits =
    waits_for s.waits s.lane.hand c.in-Some.job c.in-Some.job may.0 (sym c.in_ok-copy.ensures ∙ c.in-Some.is) refl in
    let after = ap (λ (h : Held). h.state) c.in-Ok.ensures.1.after in
    let more = c.note_begun.new.tape in
    let grows = begun_grows c.is_kept.result w.state c.in-Some.job c.in-Ok.begun c.of.result c.args.tape.now more
    c.is_kept.ensures.kept c.in-Ok.ensures.1.answered c.of.ensures
    (c.note_begun.ensures c.in-Some.job (ap (λ t. t.hand) after)) in
    subst
    (λ old. Tells old c.args.tape.now (seen_as c.begin.new.self.state s.seat.part s.lane.popped s.lane.hand false) more)
    c.self.view_is
    (subst (λ t. Tells w c.args.tape.now (seen_as t s.seat.part s.lane.popped s.lane.hand false) more) (sym after)
    (tells_one w _ (step_of w.state (Begin c.in-Some.job)) c.args.tape.now more
    (begun_makes w c.in-Some.job waits c.in-Ok.ensures.0) grows))
