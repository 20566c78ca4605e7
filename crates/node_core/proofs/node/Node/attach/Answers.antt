use Rattle.std.proofs.Common.{◌≡◌, ◌<◌, false, length, set, Some, refl, sym, ap, ◌∙◌, subst}
use Rattle.std.specs.Prelude.{slice_get}
use Rattle.std.proofs.lemmas.Option.{slice_get-get_or}
use Rattle.subj.specs.Answers.{IsAnswered}
use Rattle.shard_core.specs.ShardEvents as of_shard
use Rattle.node_law.specs.declared.faults.NodeFault.TheVariants.{NoShard}
use Rattle.node_law.specs.Events.{Own, AtShard}
use Rattle.node_law.specs.declared.events.ShardWork.TheVariants.{Attach}
use Rattle.node_core.specs.Served.{DoesStep, LineStep, WorkStep, work_answer, served_of_parts, refusal}
use Rattle.node_law.specs.Steps.{work_refusal, shard_line}
use Rattle.node_core.proofs.Calls.Composed.{no_shard, work_call, reworded}
use Rattle.node_core.proofs.node.Node.attach.Goals as goal

pub invariant_of-self : goal.invariant_of-self
invariant_of-self g c =
    let old = c.self.inside in
    let lines = old.lines.items in
    let x = c.index_mut-line.result.now in
    let count : c.len.result ≡ length lines = c.len.ensures ∙ old.lines.ok.0 in
    let within : c.in-Some.place < length lines = subst (λ n. c.in-Some.place < n) count c.in-Some.ensures.within in
    let here : slice_get lines c.in-Some.place ≡ Some x =
    slice_get-get_or lines c.in-Some.place x within ∙ ap Some (sym c.index_mut-line.ensures.value) in
    let before = served_of_parts old.side (g.R.Race.contents old.race) lines in
    let called = work_call old.side (g.R.Race.contents old.race) lines c.args.shard c.len.result c.in-Some.place
    c.place_of_shard.result Attach x c.attach.new.self
    (λ conn. LineStep x of_shard.Attach (of_shard.Attached conn) c.attach.new.self)
    (λ conn. Some (of_shard.Attached conn) ≡ work_answer Attach false (shard_line before.node c.args.shard))
    c.attach.result c.self.invariant count c.place_of_shard.ensures.place c.in-Some.is here refl (λ conn d. d.after)
    (λ is conn d. ap Some d.answered ∙ sym (ap (work_answer Attach false) is)) c.attach.ensures in
    called.keeps

pub returns : goal.returns
returns g c =
    let old = c.self.inside in
    let lines = old.lines.items in
    let x = c.index_mut-line.result.now in
    let count : c.len.result ≡ length lines = c.len.ensures ∙ old.lines.ok.0 in
    let within : c.in-Some.place < length lines = subst (λ n. c.in-Some.place < n) count c.in-Some.ensures.within in
    let here : slice_get lines c.in-Some.place ≡ Some x =
    slice_get-get_or lines c.in-Some.place x within ∙ ap Some (sym c.index_mut-line.ensures.value) in
    let before = served_of_parts old.side (g.R.Race.contents old.race) lines in
    let called = work_call old.side (g.R.Race.contents old.race) lines c.args.shard c.len.result c.in-Some.place
    c.place_of_shard.result Attach x c.attach.new.self
    (λ conn. LineStep x of_shard.Attach (of_shard.Attached conn) c.attach.new.self)
    (λ conn. Some (of_shard.Attached conn) ≡ work_answer Attach false (shard_line before.node c.args.shard))
    c.attach.result c.self.invariant count c.place_of_shard.ensures.place c.in-Some.is here refl (λ conn d. d.after)
    (λ is conn d. ap Some d.answered ∙ sym (ap (work_answer Attach false) is)) c.attach.ensures in
    let after = served_of_parts old.side (g.R.Race.contents old.race) (set lines c.in-Some.place c.attach.new.self) in
    subst (λ s.
    IsAnswered (refusal s (Own (AtShard c.args.shard Attach)))
    (λ y. WorkStep s c.args.shard Attach false (of_shard.Attached y) after) (after ≡ s) c.attach.result)
    c.self.view_is
    (reworded (refusal before (Own (AtShard c.args.shard Attach))) (after ≡ before)
    (λ y.
    DoesStep before (Own (AtShard c.args.shard Attach)) false after
    × (Some (of_shard.Attached y) ≡ work_answer Attach false (shard_line before.node c.args.shard)))
    (λ y. WorkStep before c.args.shard Attach false (of_shard.Attached y) after) c.attach.result
    (λ y d. record { step = d.0; answered = d.1 }) called.answers)

pub returns-in_default : goal.returns-in_default
returns-in_default g c =
    let old = c.self.inside in
    let race = g.R.Race.contents old.race in
    let lines = old.lines.items in (
      subst (λ s. refusal s (Own (AtShard c.args.shard Attach)) ≡ Some NoShard) c.self.view_is
          (ap (work_refusal Attach)
          (no_shard (served_of_parts old.side race lines).node c.args.shard c.len.result c.place_of_shard.result
          (c.len.ensures ∙ old.lines.ok.0) c.place_of_shard.ensures.place c.in_default.is)),
      refl,
    )
