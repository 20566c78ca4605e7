use Rattle.std.proofs.Common.{◌≡◌, ◌<◌, false, length, set, Some, None, sym, ap, ◌∙◌, subst, refl}
use Rattle.std.specs.Prelude.{slice_get}
use Rattle.std.proofs.lemmas.Option.{slice_get-get_or}
use Rattle.node_law.specs.declared.faults.NodeFault.TheVariants.{NoShard}
use Rattle.node_law.specs.Events.{Own, AtShard}
use Rattle.node_law.specs.declared.events.ShardWork.TheVariants.{DropJob}
use Rattle.node_core.specs.Served.{DropStep, served_of_parts, refusal}
use Rattle.node_law.specs.Steps.{work_refusal}
use Rattle.node_core.proofs.Calls.Composed.{no_shard, shard_found, dropped_held, waits_next, drop_done, step_keeps, lines_same}
use Rattle.node_core.proofs.node.Node.drop_job.Goals as goal

pub drop_job-requires : goal.drop_job-requires
drop_job-requires g c =
    let old = c.self.inside in
    let lines = old.lines.items in
    let x = c.index_mut-line.result.now in
    let count : c.len.result ≡ length lines = c.len.ensures ∙ old.lines.ok.0 in
    let within : c.in-Some.place < length lines = subst (λ n. c.in-Some.place < n) count c.in-Some.ensures.within in
    let here : slice_get lines c.in-Some.place ≡ Some x =
    slice_get-get_or lines c.in-Some.place x within ∙ ap Some (sym c.index_mut-line.ensures.value) in
    let before = served_of_parts old.side (g.R.Race.contents old.race) lines in
    let p = shard_found before.node c.args.shard c.len.result c.in-Some.place c.place_of_shard.result x count
    c.place_of_shard.ensures.place c.in-Some.is here in
    waits_next before c.args.shard c.in-Some.place x c.self.invariant p

pub finish-requires : goal.finish-requires
finish-requires g c =
    let old = c.self.inside in
    let lines = old.lines.items in
    let x = c.index_mut-line.result.now in
    let count : c.len.result ≡ length lines = c.len.ensures ∙ old.lines.ok.0 in
    let within : c.in-Some.place < length lines = subst (λ n. c.in-Some.place < n) count c.in-Some.ensures.within in
    let here : slice_get lines c.in-Some.place ≡ Some x =
    slice_get-get_or lines c.in-Some.place x within ∙ ap Some (sym c.index_mut-line.ensures.value) in
    let before = served_of_parts old.side (g.R.Race.contents old.race) lines in
    let p = shard_found before.node c.args.shard c.len.result c.in-Some.place c.place_of_shard.result x count
    c.place_of_shard.ensures.place c.in-Some.is here in
    (dropped_held before c.args.shard c.in-Some.place c.in-Ok.turn x c.self.invariant p c.in-Ok.ensures.1.held).1

pub invariant_of-self-in-Ok : goal.invariant_of-self-in-Ok
invariant_of-self-in-Ok g c =
    let old = c.self.inside in
    let lines = old.lines.items in
    let x = c.index_mut-line.result.now in
    let count : c.len.result ≡ length lines = c.len.ensures ∙ old.lines.ok.0 in
    let within : c.in-Some.place < length lines = subst (λ n. c.in-Some.place < n) count c.in-Some.ensures.within in
    let here : slice_get lines c.in-Some.place ≡ Some x =
    slice_get-get_or lines c.in-Some.place x within ∙ ap Some (sym c.index_mut-line.ensures.value) in
    let before = served_of_parts old.side (g.R.Race.contents old.race) lines in
    let p = shard_found before.node c.args.shard c.len.result c.in-Some.place c.place_of_shard.result x count
    c.place_of_shard.ensures.place c.in-Some.is here in
    let does = drop_done old.side (g.R.Race.contents old.race) (g.R.Race.contents c.finish.new.self) lines c.args.shard
    c.in-Some.place c.in-Ok.turn x c.drop_job.new.self c.self.invariant p c.in-Ok.ensures.0 c.in-Ok.ensures.1
    c.finish.ensures in
    let after =
    served_of_parts old.side (g.R.Race.contents c.finish.new.self) (set lines c.in-Some.place c.drop_job.new.self) in
    step_keeps before (Own (AtShard c.args.shard DropJob)) false after c.self.invariant does.step

pub returns-in-Err : goal.returns-in-Err
returns-in-Err g c =
    let old = c.self.inside in
    let lines = old.lines.items in
    let x = c.index_mut-line.result.now in
    let count : c.len.result ≡ length lines = c.len.ensures ∙ old.lines.ok.0 in
    let within : c.in-Some.place < length lines = subst (λ n. c.in-Some.place < n) count c.in-Some.ensures.within in
    let here : slice_get lines c.in-Some.place ≡ Some x =
    slice_get-get_or lines c.in-Some.place x within ∙ ap Some (sym c.index_mut-line.ensures.value) in
    let before = served_of_parts old.side (g.R.Race.contents old.race) lines in
    let p = shard_found before.node c.args.shard c.len.result c.in-Some.place c.place_of_shard.result x count
    c.place_of_shard.ensures.place c.in-Some.is here in
    let after = served_of_parts old.side (g.R.Race.contents old.race) (set lines c.in-Some.place c.drop_job.new.self) in
    subst (λ s. (refusal s (Own (AtShard c.args.shard DropJob)) ≡ Some c.in-Err.fault) × (after ≡ s)) c.self.view_is (
      ap (work_refusal DropJob) p.is ∙ c.in-Err.ensures.0,
      ap (served_of_parts old.side (g.R.Race.contents old.race))
          (lines_same lines c.in-Some.place x c.drop_job.new.self here c.in-Err.ensures.1),
    )

pub returns-in-Ok : goal.returns-in-Ok
returns-in-Ok g c =
    let old = c.self.inside in
    let lines = old.lines.items in
    let x = c.index_mut-line.result.now in
    let count : c.len.result ≡ length lines = c.len.ensures ∙ old.lines.ok.0 in
    let within : c.in-Some.place < length lines = subst (λ n. c.in-Some.place < n) count c.in-Some.ensures.within in
    let here : slice_get lines c.in-Some.place ≡ Some x =
    slice_get-get_or lines c.in-Some.place x within ∙ ap Some (sym c.index_mut-line.ensures.value) in
    let before = served_of_parts old.side (g.R.Race.contents old.race) lines in
    let p = shard_found before.node c.args.shard c.len.result c.in-Some.place c.place_of_shard.result x count
    c.place_of_shard.ensures.place c.in-Some.is here in
    let does = drop_done old.side (g.R.Race.contents old.race) (g.R.Race.contents c.finish.new.self) lines c.args.shard
    c.in-Some.place c.in-Ok.turn x c.drop_job.new.self c.self.invariant p c.in-Ok.ensures.0 c.in-Ok.ensures.1
    c.finish.ensures in
    let after =
    served_of_parts old.side (g.R.Race.contents c.finish.new.self) (set lines c.in-Some.place c.drop_job.new.self) in
    subst (λ s. (refusal s (Own (AtShard c.args.shard DropJob)) ≡ None) × DropStep s c.args.shard c.in-Ok.turn after)
    c.self.view_is (ap (work_refusal DropJob) p.is ∙ c.in-Ok.ensures.0, does)

pub returns-in_default : goal.returns-in_default
returns-in_default g c =
    let old = c.self.inside in
    let race = g.R.Race.contents old.race in
    let lines = old.lines.items in (
      subst (λ s. refusal s (Own (AtShard c.args.shard DropJob)) ≡ Some NoShard) c.self.view_is
          (ap (work_refusal DropJob)
          (no_shard (served_of_parts old.side race lines).node c.args.shard c.len.result c.place_of_shard.result
          (c.len.ensures ∙ old.lines.ok.0) c.place_of_shard.ensures.place c.in_default.is)),
      refl,
    )
