use Rattle.std.proofs.Common.{◌≡◌, ◌<◌, length, Some, sym, ap, ◌∙◌, subst}
use Rattle.std.specs.Prelude.{slice_get}
use Rattle.std.specs.Option.{option_map}
use Rattle.std.proofs.lemmas.Option.{slice_get-get_or}
use Rattle.hub_core.specs.Telling.{collect_refusal}
use Rattle.node_law.specs.declared.faults.NodeFault.TheVariants as node_fault
use Rattle.node_law.specs.Events.{Own, Collect}
use Rattle.node_core.specs.Served.{Served, served_of_parts, refusal}
use Rattle.node_law.specs.Steps.{collect_refusal_at}
use Rattle.node_core.proofs.Calls.Composed.{shard_found}
use Rattle.node_core.proofs.node.Node.collect_fault.Goals as goal

pub returns : goal.returns
returns g c =
    let old = c.self.inside in
    let lines = old.lines.items in
    let x = c.index-line.result.now in
    let count : c.len.result ≡ length lines = c.len.ensures ∙ old.lines.ok.0 in
    let within : c.in-Some.place < length lines = subst (λ n. c.in-Some.place < n) count c.in-Some.ensures.within in
    let here : slice_get lines c.in-Some.place ≡ Some x =
    slice_get-get_or lines c.in-Some.place x within ∙ ap Some (sym c.index-line.ensures) in
    let before = served_of_parts old.side (g.R.Race.contents old.race) lines in
    let p = shard_found before.node c.args.shard c.len.result c.in-Some.place c.place_of_shard.result x count
    c.place_of_shard.ensures.place c.in-Some.is here in
    let cause = collect_refusal c.hub.result.now.state c.deltas.result.now in
    let causes : option_map node_fault.Hub cause ≡ refusal before (Own (Collect c.args.shard)) =
    (λ k. option_map node_fault.Hub (collect_refusal (c.hub.ensures.state k) (c.deltas.ensures k)))
    ∙ sym (ap (collect_refusal_at old.side.hub) p.is) in
    c.of_hub_fault.ensures
    ∙ ap (option_map node_fault.Hub) c.collect_fault.ensures
    ∙ causes
    ∙ ap (λ (s : Served). refusal s (Own (Collect c.args.shard))) c.self.view_is
