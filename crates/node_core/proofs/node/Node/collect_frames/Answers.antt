use Rattle.std.proofs.Common.{◌≡◌, ◌<◌, length, Some, None, sym, ap, ◌∙◌, subst}
use Rattle.std.specs.Prelude.{⊤, map, slice_get}
use Rattle.std.specs.Option.{option_map}
use Rattle.std.proofs.lemmas.Option.{slice_get-get_or}
use Rattle.subj.specs.Answers.{IsAnswered}
use Rattle.hub_core.specs.Telling.{collect_frames, collect_refusal}
use Rattle.route_values.specs.declared.frames.RouteFrame.TheVariants as route
use Rattle.node_law.specs.declared.faults.NodeFault.TheVariants as node_fault
use Rattle.node_law.specs.Events.{Own, Collect}
use Rattle.node_core.specs.Served.{Served, served_of_parts, refusal}
use Rattle.node_law.specs.Steps.{node_frames, collect_refusal_at, deltas_at}
use Rattle.node_core.proofs.Calls.Composed.{shard_found}
use Rattle.node_core.proofs.Calls.GivenJobs.{hub_refuses}
use Rattle.node_core.proofs.node.Node.collect_frames.Goals as goal

pub returns-in-Err : goal.returns-in-Err
returns-in-Err g c =
    let old = c.self.inside in
    let lines = old.lines.items in
    let x = c.index-line.result.now in
    let count : c.len.result ≡ length lines = c.len.ensures ∙ old.lines.ok.0 in
    let within : c.in-Some.place < length lines = subst (λ n. c.in-Some.place < n) count c.in-Some.ensures.within in
    let here : slice_get lines c.in-Some.place ≡ Some x =
    slice_get-get_or lines c.in-Some.place x within ∙ ap Some (sym c.index-line.ensures) in
    let before = served_of_parts old.side (g.R.Race.contents old.race) lines in
    let p = shard_found before.node c.args.shard c.len.result c.in-Some.place c.place_of_shard.result x count
    c.place_of_shard.ensures.place c.in-Some.is here in
    let cause = collect_refusal c.hub.result.now.state c.deltas.result.now in
    let causes : option_map node_fault.Hub cause ≡ refusal before (Own (Collect c.args.shard)) =
    (λ k. option_map node_fault.Hub (collect_refusal (c.hub.ensures.state k) (c.deltas.ensures k)))
    ∙ sym (ap (collect_refusal_at old.side.hub) p.is) in
    subst (λ (s : Served).
    IsAnswered (refusal s (Own (Collect c.args.shard)))
    (λ fs. fs.items ≡ node_frames s.server s.node (Own (Collect c.args.shard))) ⊤ c.of_hub.result)
    c.self.view_is
    (subst (λ o.
    IsAnswered o (λ fs. fs.items ≡ node_frames before.server before.node (Own (Collect c.args.shard))) ⊤
    c.of_hub.result)
    causes
    (hub_refuses cause (λ fs. fs.items ≡ node_frames before.server before.node (Own (Collect c.args.shard))) ⊤
    c.in-Err.fault c.of_hub.result c.of_hub.ensures c.in-Err.ensures))

pub returns : goal.returns
returns g c =
    let old = c.self.inside in
    let lines = old.lines.items in
    let x = c.index-line.result.now in
    let count : c.len.result ≡ length lines = c.len.ensures ∙ old.lines.ok.0 in
    let within : c.in-Some.place < length lines = subst (λ n. c.in-Some.place < n) count c.in-Some.ensures.within in
    let here : slice_get lines c.in-Some.place ≡ Some x =
    slice_get-get_or lines c.in-Some.place x within ∙ ap Some (sym c.index-line.ensures) in
    let before = served_of_parts old.side (g.R.Race.contents old.race) lines in
    let p = shard_found before.node c.args.shard c.len.result c.in-Some.place c.place_of_shard.result x count
    c.place_of_shard.ensures.place c.in-Some.is here in
    let cause = collect_refusal c.hub.result.now.state c.deltas.result.now in
    let causes : option_map node_fault.Hub cause ≡ refusal before (Own (Collect c.args.shard)) =
    (λ k. option_map node_fault.Hub (collect_refusal (c.hub.ensures.state k) (c.deltas.ensures k)))
    ∙ sym (ap (collect_refusal_at old.side.hub) p.is) in
    let sent = c.in-Ok.ensures.1 ∙ (λ k.
    collect_frames (c.hub.ensures.server k) (c.hub.ensures.state k) ((c.deltas.ensures ∙ sym (ap deltas_at p.is)) k)) in
    subst (λ (s : Served).
    (refusal s (Own (Collect c.args.shard)) ≡ None)
    × (c.in-Ok-route_frames.frames.items ≡ node_frames s.server s.node (Own (Collect c.args.shard))))
    c.self.view_is (
      sym causes ∙ ap (option_map node_fault.Hub) c.in-Ok.ensures.0,
      c.in-Ok-route_frames.ensures ∙ ap (map route.Numbered) sent,
    )
