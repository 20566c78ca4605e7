use Rattle.std.proofs.Common.{◌≡◌, ◌*◌, ◌<◌, ◌≤◌, false, length, set, Some, None, refl, sym, ap, ◌∙◌, subst, arith}
use Rattle.std.specs.Prelude.{slice_get}
use Rattle.std.specs.Option.{option_map}
use Rattle.std.specs.List.{count_by}
use Rattle.std.proofs.lemmas.Option.{slice_get-get_or}
use Rattle.subj.specs.Answers.{IsAnswered}
use Rattle.subj.specs.Servers.{ServerIdentity}
use Rattle.subj.specs.declared.limits.TheConstants.{MAX_NODES, ROUTE_FRAMES}
use Rattle.hub_core.specs.State as hub
use Rattle.hub_core.specs.Telling.{collect_refusal}
use Rattle.node_law.specs.declared.faults.NodeFault.TheVariants as node_fault
use Rattle.node_parts.specs.declared.told.CollectResult.{CollectResult}
use Rattle.node_law.specs.declared.faults.NodeFault.TheVariants.{NoShard}
use Rattle.node_law.specs.Events.{Own, Collect}
use Rattle.node_law.specs.Steps.{collect_refusal_at}
use Rattle.node_core.specs.Served.{Served, CollectStep, served_of_parts, refusal}
use Rattle.node_core.proofs.Calls.Composed.{no_shard, shard_found, step_keeps, same_keeps}
use Rattle.node_core.proofs.Calls.GivenJobs.{hub_refuses, refused_same, refused_as}
use Rattle.node_core.proofs.Calls.Collects.{is_up, told_of, changes_told, ups_told, frames_within, collect_done, collect_left}
use Rattle.node_core.proofs.node.Node.collect.Goals as goal

pub invariant_of-self : goal.invariant_of-self
invariant_of-self g c =
    let old = c.self.inside in
    let lines = old.lines.items in
    let x = c.index_mut-line.result.now in
    let count : c.len.result ≡ length lines = c.len.ensures ∙ old.lines.ok.0 in
    let within : c.in-Some.place < length lines = subst (λ n. c.in-Some.place < n) count c.in-Some.ensures.within in
    let here : slice_get lines c.in-Some.place ≡ Some x =
    slice_get-get_or lines c.in-Some.place x within ∙ ap Some (sym c.index_mut-line.ensures.value) in
    let race = g.R.Race.contents old.race in
    let left = refused_same (collect_refusal old.side.hub c.deltas.result.now) (c.collect.new.self ≡ old.side)
    c.in-Err.fault c.in-Err.ensures in
    same_keeps (served_of_parts old.side race lines)
    (served_of_parts c.collect.new.self race (set lines c.in-Some.place x)) c.self.invariant
    (collect_left old.side c.collect.new.self race lines c.in-Some.place x left here)

pub returns-in-Err : goal.returns-in-Err
returns-in-Err g c =
    let old = c.self.inside in
    let lines = old.lines.items in
    let x = c.index_mut-line.result.now in
    let count : c.len.result ≡ length lines = c.len.ensures ∙ old.lines.ok.0 in
    let within : c.in-Some.place < length lines = subst (λ n. c.in-Some.place < n) count c.in-Some.ensures.within in
    let here : slice_get lines c.in-Some.place ≡ Some x =
    slice_get-get_or lines c.in-Some.place x within ∙ ap Some (sym c.index_mut-line.ensures.value) in
    let race = g.R.Race.contents old.race in
    let before = served_of_parts old.side race lines in
    let after = served_of_parts c.collect.new.self race (set lines c.in-Some.place x) in
    let p = shard_found before.node c.args.shard c.len.result c.in-Some.place c.place_of_shard.result x count
    c.place_of_shard.ensures.place c.in-Some.is here in
    let cause = collect_refusal old.side.hub c.deltas.result.now in
    let causes : option_map node_fault.Hub cause ≡ refusal before (Own (Collect c.args.shard)) =
    ap (λ d. option_map node_fault.Hub (collect_refusal old.side.hub d)) c.deltas.ensures
    ∙ sym (ap (collect_refusal_at old.side.hub) p.is) in
    let told = λ (t : CollectResult). CollectStep before c.args.shard t.changes t.frames t.cut.items after in
    subst (λ (s : Served).
    IsAnswered (refusal s (Own (Collect c.args.shard)))
    (λ (t : CollectResult). CollectStep s c.args.shard t.changes t.frames t.cut.items after) (after ≡ s)
    c.of_hub.result)
    c.self.view_is
    (subst (λ o. IsAnswered o told (after ≡ before) c.of_hub.result) causes
    (hub_refuses cause told (after ≡ before) c.in-Err.fault c.of_hub.result c.of_hub.ensures
    (refused_as cause cause (c.collect.new.self ≡ old.side) (after ≡ before) c.in-Err.fault refl
    (λ left. collect_left old.side c.collect.new.self race lines c.in-Some.place x left here) c.in-Err.ensures)))

pub overflow_mul-frames : goal.overflow_mul-frames
overflow_mul-frames g c =
    let old = c.self.inside in
    let x = c.index_mut-line.result.now in
    let ups = c.up_count.ensures ∙ ap (λ (h : hub.State). count_by is_up h.peers) c.hub-2.ensures.state in
    let told = told_of old.side c.collect.new.self c.args.shard x c.take_deltas.new.self c.deltas.result.now
    c.in-Ok.told.changes.items c.up_count.result c.in-Ok.told.cut.items c.deltas.ensures c.in-Ok.ensures.1 ups
    c.take_deltas.ensures.after in
    let count = c.len-changes.ensures ∙ c.in-Ok.told.changes.ok.0
    ∙ ap length (changes_told old.side c.collect.new.self c.args.shard x c.take_deltas.new.self
    c.in-Ok.told.changes.items c.up_count.result c.in-Ok.told.cut.items told) in
    let few : length old.side.server.names ≤ MAX_NODES = subst (λ (s : ServerIdentity). length s.names ≤ MAX_NODES)
    (c.server.ensures ∙ c.hub.ensures.server) c.me-me.ensures.server.few in
    let bound : c.len-changes.result * c.up_count.result ≤ ROUTE_FRAMES * MAX_NODES =
    frames_within old.side.server old.side.hub x.shard.deltas c.len-changes.result c.up_count.result
    c.self.invariant.sound.peers few count
    (ups_told old.side c.collect.new.self c.args.shard x c.take_deltas.new.self c.in-Ok.told.changes.items
    c.up_count.result c.in-Ok.told.cut.items told) in
    omega (arith, bound)

pub invariant_of-self-2 : goal.invariant_of-self-2
invariant_of-self-2 g c =
    let old = c.self.inside in
    let lines = old.lines.items in
    let x = c.index_mut-line.result.now in
    let count : c.len.result ≡ length lines = c.len.ensures ∙ old.lines.ok.0 in
    let within : c.in-Some.place < length lines = subst (λ n. c.in-Some.place < n) count c.in-Some.ensures.within in
    let here : slice_get lines c.in-Some.place ≡ Some x =
    slice_get-get_or lines c.in-Some.place x within ∙ ap Some (sym c.index_mut-line.ensures.value) in
    let race = g.R.Race.contents old.race in
    let before = served_of_parts old.side race lines in
    let p = shard_found before.node c.args.shard c.len.result c.in-Some.place c.place_of_shard.result x count
    c.place_of_shard.ensures.place c.in-Some.is here in
    let ups = c.up_count.ensures ∙ ap (λ (h : hub.State). count_by is_up h.peers) c.hub-2.ensures.state in
    let told = told_of old.side c.collect.new.self c.args.shard x c.take_deltas.new.self c.deltas.result.now
    c.in-Ok.told.changes.items c.up_count.result c.in-Ok.told.cut.items c.deltas.ensures c.in-Ok.ensures.1 ups
    c.take_deltas.ensures.after in
    let does = collect_done old.side c.collect.new.self race lines c.args.shard c.in-Some.place x c.take_deltas.new.self
    c.in-Ok.told.changes.items c.up_count.result c.in-Ok.told.cut.items p told in
    step_keeps before (Own (Collect c.args.shard)) false
    (served_of_parts c.collect.new.self race (set lines c.in-Some.place c.take_deltas.new.self)) c.self.invariant
    does.step

pub returns : goal.returns
returns g c =
    let old = c.self.inside in
    let lines = old.lines.items in
    let x = c.index_mut-line.result.now in
    let count : c.len.result ≡ length lines = c.len.ensures ∙ old.lines.ok.0 in
    let within : c.in-Some.place < length lines = subst (λ n. c.in-Some.place < n) count c.in-Some.ensures.within in
    let here : slice_get lines c.in-Some.place ≡ Some x =
    slice_get-get_or lines c.in-Some.place x within ∙ ap Some (sym c.index_mut-line.ensures.value) in
    let race = g.R.Race.contents old.race in
    let before = served_of_parts old.side race lines in
    let p = shard_found before.node c.args.shard c.len.result c.in-Some.place c.place_of_shard.result x count
    c.place_of_shard.ensures.place c.in-Some.is here in
    let ups = c.up_count.ensures ∙ ap (λ (h : hub.State). count_by is_up h.peers) c.hub-2.ensures.state in
    let told = told_of old.side c.collect.new.self c.args.shard x c.take_deltas.new.self c.deltas.result.now
    c.in-Ok.told.changes.items c.up_count.result c.in-Ok.told.cut.items c.deltas.ensures c.in-Ok.ensures.1 ups
    c.take_deltas.ensures.after in
    let does = collect_done old.side c.collect.new.self race lines c.args.shard c.in-Some.place x c.take_deltas.new.self
    c.in-Ok.told.changes.items c.up_count.result c.in-Ok.told.cut.items p told in
    let after = served_of_parts c.collect.new.self race (set lines c.in-Some.place c.take_deltas.new.self) in
    let changes : c.len-changes.result ≡ length c.in-Ok.told.changes.items =
    c.len-changes.ensures ∙ c.in-Ok.told.changes.ok.0 in
    subst (λ (s : Served).
    (refusal s (Own (Collect c.args.shard)) ≡ None)
    × CollectStep s c.args.shard c.len-changes.result (c.len-changes.result * c.up_count.result) c.in-Ok.told.cut.items
    after)
    c.self.view_is (
      does.step.step.cause,
      subst (λ n. CollectStep before c.args.shard n (n * c.up_count.result) c.in-Ok.told.cut.items after) (sym changes)
          does,
    )

pub returns-in_default : goal.returns-in_default
returns-in_default g c =
    let old = c.self.inside in
    let race = g.R.Race.contents old.race in
    let lines = old.lines.items in (
      subst (λ s. refusal s (Own (Collect c.args.shard)) ≡ Some NoShard) c.self.view_is
          (ap (collect_refusal_at old.side.hub)
          (no_shard (served_of_parts old.side race lines).node c.args.shard c.len.result c.place_of_shard.result
          (c.len.ensures ∙ old.lines.ok.0) c.place_of_shard.ensures.place c.in_default.is)),
      refl,
    )
