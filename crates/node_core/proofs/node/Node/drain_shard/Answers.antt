use Rattle.std.proofs.Common.{◌≡◌, ◌<◌, false, length, set, Some, refl, sym, ap, ◌∙◌, subst}
use Rattle.std.specs.Prelude.{slice_get}
use Rattle.std.proofs.lemmas.Option.{slice_get-get_or}
use Rattle.subj.specs.Answers.{IsDecided}
use Rattle.shard_core.specs.ShardEvents as of_shard
use Rattle.node_law.specs.declared.faults.NodeFault.TheVariants.{NoShard}
use Rattle.node_law.specs.Events.{Own, AtShard}
use Rattle.node_law.specs.declared.events.ShardWork.TheVariants.{DrainShard}
use Rattle.node_core.specs.Served.{DoesStep, LineStep, WorkStep, work_answer, served_of_parts, refusal}
use Rattle.node_law.specs.Steps.{work_refusal, shard_line}
use Rattle.node_core.proofs.Calls.Composed.{no_shard, work_decision, redecided}
use Rattle.node_core.proofs.node.Node.drain_shard.Goals as goal

pub invariant_of-self : goal.invariant_of-self
invariant_of-self g c =
    let old = c.self.inside in
    let lines = old.lines.items in
    let x = c.index_mut-line.result.now in
    let count : c.len.result ≡ length lines = c.len.ensures ∙ old.lines.ok.0 in
    let within : c.in-Some.place < length lines = subst (λ n. c.in-Some.place < n) count c.in-Some.ensures.within in
    let here : slice_get lines c.in-Some.place ≡ Some x =
    slice_get-get_or lines c.in-Some.place x within ∙ ap Some (sym c.index_mut-line.ensures.value) in
    let before = served_of_parts old.side (g.R.Race.contents old.race) lines in
    let drained = work_decision old.side (g.R.Race.contents old.race) lines c.args.shard c.len.result c.in-Some.place
    c.place_of_shard.result DrainShard x c.drain.new.self
    (λ _. LineStep x of_shard.Drain of_shard.Drains c.drain.new.self)
    (λ _. Some of_shard.Drains ≡ work_answer DrainShard false (shard_line before.node c.args.shard)) c.drain.result
    c.self.invariant count c.place_of_shard.ensures.place c.in-Some.is here refl (λ _ d. d.after)
    (λ is _ d. ap Some d.answered ∙ sym (ap (work_answer DrainShard false) is)) c.drain.ensures in
    drained.keeps

pub returns : goal.returns
returns g c =
    let old = c.self.inside in
    let lines = old.lines.items in
    let x = c.index_mut-line.result.now in
    let count : c.len.result ≡ length lines = c.len.ensures ∙ old.lines.ok.0 in
    let within : c.in-Some.place < length lines = subst (λ n. c.in-Some.place < n) count c.in-Some.ensures.within in
    let here : slice_get lines c.in-Some.place ≡ Some x =
    slice_get-get_or lines c.in-Some.place x within ∙ ap Some (sym c.index_mut-line.ensures.value) in
    let before = served_of_parts old.side (g.R.Race.contents old.race) lines in
    let drained = work_decision old.side (g.R.Race.contents old.race) lines c.args.shard c.len.result c.in-Some.place
    c.place_of_shard.result DrainShard x c.drain.new.self
    (λ _. LineStep x of_shard.Drain of_shard.Drains c.drain.new.self)
    (λ _. Some of_shard.Drains ≡ work_answer DrainShard false (shard_line before.node c.args.shard)) c.drain.result
    c.self.invariant count c.place_of_shard.ensures.place c.in-Some.is here refl (λ _ d. d.after)
    (λ is _ d. ap Some d.answered ∙ sym (ap (work_answer DrainShard false) is)) c.drain.ensures in
    let after = served_of_parts old.side (g.R.Race.contents old.race) (set lines c.in-Some.place c.drain.new.self) in
    subst (λ s.
    IsDecided (refusal s (Own (AtShard c.args.shard DrainShard)))
    (λ _. WorkStep s c.args.shard DrainShard false of_shard.Drains after) (after ≡ s) c.drain.result)
    c.self.view_is
    (redecided (refusal before (Own (AtShard c.args.shard DrainShard))) (after ≡ before)
    (λ _.
    DoesStep before (Own (AtShard c.args.shard DrainShard)) false after
    × (Some of_shard.Drains ≡ work_answer DrainShard false (shard_line before.node c.args.shard)))
    (λ _. WorkStep before c.args.shard DrainShard false of_shard.Drains after) c.drain.result
    (λ _ d. record { step = d.0; answered = d.1 }) drained.answers)

pub returns-in_default : goal.returns-in_default
returns-in_default g c =
    let old = c.self.inside in
    let race = g.R.Race.contents old.race in
    let lines = old.lines.items in (
      subst (λ s. refusal s (Own (AtShard c.args.shard DrainShard)) ≡ Some NoShard) c.self.view_is
          (ap (work_refusal DrainShard)
          (no_shard (served_of_parts old.side race lines).node c.args.shard c.len.result c.place_of_shard.result
          (c.len.ensures ∙ old.lines.ok.0) c.place_of_shard.ensures.place c.in_default.is)),
      refl,
    )
