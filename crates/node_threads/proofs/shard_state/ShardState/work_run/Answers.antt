use Rattle.std.proofs.Common.{rules, ◌≡◌, ◌+◌, ◌-◌, ◌<◌, false, true, true≢false, Some, sym, ap, ◌∙◌, subst, arith}
use Rattle.std.specs.Prelude.{slice_get}
use Rattle.node_threads.specs.AtWork.{IsAtWork, seen_as}
use Rattle.node_threads.specs.Tapes.{Tells}
use Rattle.node_threads.specs.Turns.{HasWorkedRun, WorksFirst}
use Rattle.node_threads.proofs.Shards.Runs.{first_to_claim, last_turn, run_done, run_told, same_shard}
use Rattle.node_threads.proofs.Shards.Telling.{tells_nothing, tells_steps}
use Rattle.node_threads.proofs.shard_state.ShardState.work_run.Goals as goal

pub returns-then-not-self-clause-tells : goal.returns-then-not-self-clause-tells
returns-then-not-self-clause-tells g c = tells_nothing c.args.self.now c.args.tape.now

pub work_first-count-requires-clause-finished : goal.work_first-count-requires-clause-finished
work_first-count-requires-clause-finished g c =
    let same : c.self.inside.seat.part.finished ≡ c.self.inside.shard.state.finished = c.self.invariant.0.finished in
    search same

pub work_first-count-requires-clause-next : goal.work_first-count-requires-clause-next
work_first-count-requires-clause-next g c =
    let s = c.self.inside in
    let i = c.self.invariant in
    let on : s.waits ≡ true = search rules in
    let first = first_to_claim g.N.NodeName.race.shards s.next_index s.shard.state s.seat.part s.lane.popped s.lane.hand
    s.waits i.0 on (i.1 on) in
    let next : s.seat.part.next ≡ 0 = first.1 in
    search next

pub returns-then-count-eq0-clause-tells : goal.returns-then-count-eq0-clause-tells
returns-then-count-eq0-clause-tells g c =
    let s = c.self.inside in
    let w = seen_as s.shard.state s.seat.part s.lane.popped s.lane.hand s.waits in
    let works = c.work_first-count.ensures.works in
    let state = works.none c.if-count-eq0.true in
    let part = works.left c.if-count-eq0.true in
    let tape = c.args.tape.now in
    subst (λ v. Tells c.args.self.now tape v tape)
    (λ k. seen_as (sym state k) (sym part k) s.lane.popped s.lane.hand s.waits)
    (subst (λ old. Tells old tape w tape) c.self.view_is (tells_nothing w tape))

pub returns-then-count-eq0-clause-none : goal.returns-then-count-eq0-clause-none
returns-then-count-eq0-clause-none g c =
    let s = c.self.inside in
    let works = c.work_first-count.ensures.works in
    let state = works.none c.if-count-eq0.true in
    let part = works.left c.if-count-eq0.true in
    (λ k. seen_as (state k) (part k) s.lane.popped s.lane.hand s.waits) ∙ c.self.view_is

pub invariant_of-self : goal.invariant_of-self
invariant_of-self g c =
    let s = c.self.inside in
    let i = c.self.invariant in
    let works = c.work_first-count.ensures.works in
    let state = works.none c.if-count-eq0.true in
    let part = works.left c.if-count-eq0.true in (
      subst (IsAtWork g.N.NodeName.race.shards s.next_index)
          (λ k. seen_as (sym state k) (sym part k) s.lane.popped s.lane.hand s.waits) i.0,
      i.1,
      c.work_first-count.ensures.race ∙ i.2,
      (λ k. slice_get g.N.NodeName.lanes ((part k).shard - 1)) ∙ i.3,
    )

pub invariant_of-self-2 : goal.invariant_of-self-2
invariant_of-self-2 g c =
    let s = c.self.inside in
    let i = c.self.invariant in
    let count = c.work_first-count.result in
    let on : s.waits ≡ true = search rules in
    let some : 0 < count = omega arith in
    let state = c.work_first-count.new.shard.state in
    let part = c.work_first-count.new.seat.part in
    let works = subst (λ jobs. WorksFirst jobs count s.shard.state s.seat.part state part) c.in-Some.ensures.jobs
    c.work_first-count.ensures.works in
    let same = same_shard g.N.NodeName.race.shards s.next_index s.shard.state state s.seat.part part s.lane.popped
    c.pop_behind.new.self.popped s.lane.behind s.lane.hand c.pop_behind.new.self.hand s.waits count i.0 on (i.1 on) some
    works c.pop_behind.ensures.popped in (
      run_done g.N.NodeName.race.shards s.next_index s.shard.state state s.seat.part part s.lane.popped
          c.pop_behind.new.self.popped s.lane.behind s.lane.hand c.pop_behind.new.self.hand s.waits count i.0 on
          (i.1 on) some works c.pop_behind.ensures.popped,
      λ e. absurd (true≢false (sym e)),
      c.work_first-count.ensures.race ∙ i.2,
      (λ k. slice_get g.N.NodeName.lanes (same k - 1)) ∙ i.3 ∙ ap (λ lane. Some lane) (sym c.pop_behind.ensures.lane),
    )

pub returns-clause-some : goal.returns-clause-some
returns-clause-some g c =
    let s = c.self.inside in
    let i = c.self.invariant in
    let count = c.work_first-count.result in
    let on : s.waits ≡ true = search rules in
    let some : 0 < count = omega arith in
    let state = c.work_first-count.new.shard.state in
    let part = c.work_first-count.new.seat.part in
    let works = subst (λ jobs. WorksFirst jobs count s.shard.state s.seat.part state part) c.in-Some.ensures.jobs
    c.work_first-count.ensures.works in
    let told = run_told g.N.NodeName.race.shards s.next_index s.shard.state state s.seat.part part s.lane.popped
    c.pop_behind.new.self.popped s.lane.behind s.lane.hand c.pop_behind.new.self.hand s.waits count i.0 on (i.1 on) some
    works c.pop_behind.ensures.popped in
    let turn = last_turn g.N.NodeName.race.shards s.next_index s.shard.state state s.seat.part part s.lane.popped
    c.pop_behind.new.self.popped s.lane.behind s.lane.hand c.pop_behind.new.self.hand s.waits count i.0 on (i.1 on) some
    works c.pop_behind.ensures.popped in
    let new = seen_as state part c.pop_behind.new.self.popped c.pop_behind.new.self.hand false in
    let last : c.finished.result ≡ s.shard.state.finished + count = c.finished.ensures ∙ turn in
    subst (λ old. HasWorkedRun old count c.finished.result new) c.self.view_is
    (subst (λ n. HasWorkedRun (seen_as s.shard.state s.seat.part s.lane.popped s.lane.hand s.waits) count n new)
    (sym last) told)

pub returns-clause-tells : goal.returns-clause-tells
returns-clause-tells g c =
    let s = c.self.inside in
    let i = c.self.invariant in
    let count = c.work_first-count.result in
    let on : s.waits ≡ true = search rules in
    let some : 0 < count = omega arith in
    let state = c.work_first-count.new.shard.state in
    let part = c.work_first-count.new.seat.part in
    let works = subst (λ jobs. WorksFirst jobs count s.shard.state s.seat.part state part) c.in-Some.ensures.jobs
    c.work_first-count.ensures.works in
    let told = run_told g.N.NodeName.race.shards s.next_index s.shard.state state s.seat.part part s.lane.popped
    c.pop_behind.new.self.popped s.lane.behind s.lane.hand c.pop_behind.new.self.hand s.waits count i.0 on (i.1 on) some
    works c.pop_behind.ensures.popped in
    let new = seen_as state part c.pop_behind.new.self.popped c.pop_behind.new.self.hand false in
    let tape = c.args.tape.now in
    let tells : Tells (seen_as s.shard.state s.seat.part s.lane.popped s.lane.hand s.waits) tape new tape =
    tells_steps (seen_as s.shard.state s.seat.part s.lane.popped s.lane.hand s.waits) new told.steps tape told.makes
    (c.is_kept.ensures.none c.if-is_kept.false) in
    subst (λ old. Tells old tape new tape) c.self.view_is tells
