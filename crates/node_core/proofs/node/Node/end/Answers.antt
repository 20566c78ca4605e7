use Rattle.std.proofs.Common.{◌≡◌, ◌<◌, false, length, set, Some, None, sym, ap, ◌∙◌, subst, refl}
use Rattle.std.specs.Prelude.{slice_get}
use Rattle.std.proofs.lemmas.Option.{slice_get-get_or}
use Rattle.shard_core.specs.ShardEvents.{Finished}
use Rattle.node_law.specs.declared.faults.NodeFault.TheVariants.{NoShard}
use Rattle.node_law.specs.Events.{Own, AtShard}
use Rattle.node_law.specs.declared.events.ShardWork.TheVariants.{End}
use Rattle.node_core.specs.Served.{WorkStep, served_of_parts, refusal}
use Rattle.node_law.specs.Steps.{work_refusal}
use Rattle.node_core.proofs.Calls.Composed.{no_shard, shard_found, held_turn, end_done, step_keeps, lines_same}
use Rattle.node_core.proofs.node.Node.end.Goals as goal

pub finish-requires : goal.finish-requires
finish-requires g c =
    let old = c.self.inside in
    let lines = old.lines.items in
    let x = c.index_mut-line.result.now in
    let count : c.len.result ≡ length lines = c.len.ensures ∙ old.lines.ok.0 in
    let within : c.in-Some.place < length lines = subst (λ n. c.in-Some.place < n) count c.in-Some.ensures.within in
    let here : slice_get lines c.in-Some.place ≡ Some x =
    slice_get-get_or lines c.in-Some.place x within ∙ ap Some (sym c.index_mut-line.ensures.value) in
    let before = served_of_parts old.side (g.R.Race.contents old.race) lines in
    let p = shard_found before.node c.args.shard c.len.result c.in-Some.place c.place_of_shard.result x count
    c.place_of_shard.ensures.place c.in-Some.is here in
    (held_turn before c.args.shard c.in-Some.place c.in-Ok.turn x c.self.invariant p c.in-Ok.ensures.1.held).1

pub invariant_of-self-in-Ok : goal.invariant_of-self-in-Ok
invariant_of-self-in-Ok g c =
    let old = c.self.inside in
    let lines = old.lines.items in
    let x = c.index_mut-line.result.now in
    let count : c.len.result ≡ length lines = c.len.ensures ∙ old.lines.ok.0 in
    let within : c.in-Some.place < length lines = subst (λ n. c.in-Some.place < n) count c.in-Some.ensures.within in
    let here : slice_get lines c.in-Some.place ≡ Some x =
    slice_get-get_or lines c.in-Some.place x within ∙ ap Some (sym c.index_mut-line.ensures.value) in
    let before = served_of_parts old.side (g.R.Race.contents old.race) lines in
    let p = shard_found before.node c.args.shard c.len.result c.in-Some.place c.place_of_shard.result x count
    c.place_of_shard.ensures.place c.in-Some.is here in
    let does = end_done old.side (g.R.Race.contents old.race) (g.R.Race.contents c.finish.new.self) lines c.args.shard
    c.in-Some.place c.in-Ok.turn x c.end.new.self c.self.invariant p c.in-Ok.ensures.0 c.in-Ok.ensures.1
    c.finish.ensures in
    let after =
    served_of_parts old.side (g.R.Race.contents c.finish.new.self) (set lines c.in-Some.place c.end.new.self) in
    step_keeps before (Own (AtShard c.args.shard End)) false after c.self.invariant does.step

pub returns-in-Err : goal.returns-in-Err
returns-in-Err g c =
    let old = c.self.inside in
    let lines = old.lines.items in
    let x = c.index_mut-line.result.now in
    let count : c.len.result ≡ length lines = c.len.ensures ∙ old.lines.ok.0 in
    let within : c.in-Some.place < length lines = subst (λ n. c.in-Some.place < n) count c.in-Some.ensures.within in
    let here : slice_get lines c.in-Some.place ≡ Some x =
    slice_get-get_or lines c.in-Some.place x within ∙ ap Some (sym c.index_mut-line.ensures.value) in
    let before = served_of_parts old.side (g.R.Race.contents old.race) lines in
    let p = shard_found before.node c.args.shard c.len.result c.in-Some.place c.place_of_shard.result x count
    c.place_of_shard.ensures.place c.in-Some.is here in
    let after = served_of_parts old.side (g.R.Race.contents old.race) (set lines c.in-Some.place c.end.new.self) in
    subst (λ s. (refusal s (Own (AtShard c.args.shard End)) ≡ Some c.in-Err.fault) × (after ≡ s)) c.self.view_is (
      ap (work_refusal End) p.is ∙ c.in-Err.ensures.0,
      ap (served_of_parts old.side (g.R.Race.contents old.race))
          (lines_same lines c.in-Some.place x c.end.new.self here c.in-Err.ensures.1),
    )

pub returns-in-Ok : goal.returns-in-Ok
returns-in-Ok g c =
    let old = c.self.inside in
    let lines = old.lines.items in
    let x = c.index_mut-line.result.now in
    let count : c.len.result ≡ length lines = c.len.ensures ∙ old.lines.ok.0 in
    let within : c.in-Some.place < length lines = subst (λ n. c.in-Some.place < n) count c.in-Some.ensures.within in
    let here : slice_get lines c.in-Some.place ≡ Some x =
    slice_get-get_or lines c.in-Some.place x within ∙ ap Some (sym c.index_mut-line.ensures.value) in
    let before = served_of_parts old.side (g.R.Race.contents old.race) lines in
    let p = shard_found before.node c.args.shard c.len.result c.in-Some.place c.place_of_shard.result x count
    c.place_of_shard.ensures.place c.in-Some.is here in
    let does = end_done old.side (g.R.Race.contents old.race) (g.R.Race.contents c.finish.new.self) lines c.args.shard
    c.in-Some.place c.in-Ok.turn x c.end.new.self c.self.invariant p c.in-Ok.ensures.0 c.in-Ok.ensures.1
    c.finish.ensures in
    let after =
    served_of_parts old.side (g.R.Race.contents c.finish.new.self) (set lines c.in-Some.place c.end.new.self) in
    subst (λ s. (refusal s (Own (AtShard c.args.shard End)) ≡ None) × WorkStep s c.args.shard End false Finished after)
    c.self.view_is (ap (work_refusal End) p.is ∙ c.in-Ok.ensures.0, does)

pub returns-in_default : goal.returns-in_default
returns-in_default g c =
    let old = c.self.inside in
    let race = g.R.Race.contents old.race in
    let lines = old.lines.items in (
      subst (λ s. refusal s (Own (AtShard c.args.shard End)) ≡ Some NoShard) c.self.view_is
          (ap (work_refusal End)
          (no_shard (served_of_parts old.side race lines).node c.args.shard c.len.result c.place_of_shard.result
          (c.len.ensures ∙ old.lines.ok.0) c.place_of_shard.ensures.place c.in_default.is)),
      refl,
    )
