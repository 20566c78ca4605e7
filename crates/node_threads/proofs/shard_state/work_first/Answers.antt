use Rattle.std.proofs.Common.{List, drop, subst, ◌∙◌}
use Rattle.subj.specs.declared.jobs.Job.{Job}
use Rattle.node_threads.specs.Turns.{WorksFirst}
use Rattle.node_threads.proofs.Shards.Following.{first_join, rests_at}
use Rattle.node_threads.proofs.shard_state.work_first.Goals as goal

pub loop-done-preserved : goal.loop-done-preserved
loop-done-preserved g c =
    let jobs = c.args.jobs.now in
    let done = c.loop-done.done in
    let count = c.work_alike-count.result in
    let state = c.loop-done.shard.state in
    let part = c.loop-done.seat.part in
    let new = c.work_alike-count.new.shard.state in
    let after = c.work_alike-count.new.seat.part in
    let kept = c.loop-done.invariant in
    let more = subst (λ (l : List Job). WorksFirst l count state part new after) c.behind.ensures
    c.work_alike-count.ensures.works in
    let rests = rests_at (drop done jobs) count state new part after kept.finished kept.next more in
    let works =
    first_join jobs done count c.args.shard.now.state state new c.args.seat.now.part part after kept.works more in
    record {
      few = works.few;
      race = c.work_alike-count.ensures.race ∙ kept.race;
      finished = rests.0;
      next = rests.1;
      works = works;
    }
