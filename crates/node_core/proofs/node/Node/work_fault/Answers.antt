use Rattle.std.proofs.Common.{◌≡◌, ◌<◌, length, Some, sym, ap, ◌∙◌, subst}
use Rattle.std.specs.Prelude.{slice_get}
use Rattle.std.proofs.lemmas.Option.{slice_get-get_or}
use Rattle.node_law.specs.Events.{Own, AtShard}
use Rattle.node_core.specs.Served.{served_of_parts, refusal}
use Rattle.node_core.proofs.Calls.Refusing.{work_refused}
use Rattle.node_core.proofs.node.Node.work_fault.Goals as goal

pub returns : goal.returns
returns g c =
    let old = c.self.inside in
    let lines = old.lines.items in
    let x = c.index-line.result.now in
    let count : c.len.result ≡ length lines = c.len.ensures ∙ old.lines.ok.0 in
    let within : c.in-Some.place < length lines = subst (λ n. c.in-Some.place < n) count c.in-Some.ensures.within in
    let here : slice_get lines c.in-Some.place ≡ Some x =
    slice_get-get_or lines c.in-Some.place x within ∙ ap Some (sym c.index-line.ensures) in
    let before = served_of_parts old.side (g.R.Race.contents old.race) lines in
    c.work_fault.ensures
    ∙ work_refused before c.args.shard c.len.result c.in-Some.place c.place_of_shard.result x c.args.work count
    c.place_of_shard.ensures.place c.in-Some.is here
    ∙ ap (λ s. refusal s (Own (AtShard c.args.shard c.args.work))) c.self.view_is
