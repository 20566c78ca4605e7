use Rattle.std.proofs.Common.{◌≡◌, None, sym, ap, ◌∙◌, subst}
use Rattle.std.specs.Prelude.{⊤, map}
use Rattle.std.specs.Option.{option_map}
use Rattle.subj.specs.Answers.{IsAnswered}
use Rattle.hub_core.specs.Telling.{drain_frames, drain_refusal}
use Rattle.route_values.specs.declared.frames.RouteFrame.TheVariants as route
use Rattle.node_law.specs.declared.faults.NodeFault.TheVariants as node_fault
use Rattle.node_law.specs.Events.{Own, Drain}
use Rattle.node_core.specs.Served.{Served, served_of_parts, refusal}
use Rattle.node_law.specs.Steps.{node_frames}
use Rattle.node_core.proofs.Calls.GivenJobs.{hub_refuses}
use Rattle.node_core.proofs.node.Node.drain_frames.Goals as goal

pub returns-in-Err : goal.returns-in-Err
returns-in-Err g c =
    let old = c.self.inside in
    let before = served_of_parts old.side (g.R.Race.contents old.race) old.lines.items in
    let cause = drain_refusal c.hub.result.now.state in
    let causes : option_map node_fault.Hub cause ≡ refusal before (Own Drain) =
    λ k. option_map node_fault.Hub (drain_refusal (c.hub.ensures.state k)) in
    subst (λ (s : Served).
    IsAnswered (refusal s (Own Drain)) (λ fs. fs.items ≡ node_frames s.server s.node (Own Drain)) ⊤ c.of_hub.result)
    c.self.view_is
    (subst (λ o. IsAnswered o (λ fs. fs.items ≡ node_frames before.server before.node (Own Drain)) ⊤ c.of_hub.result)
    causes
    (hub_refuses cause (λ fs. fs.items ≡ node_frames before.server before.node (Own Drain)) ⊤ c.in-Err.fault
    c.of_hub.result c.of_hub.ensures c.in-Err.ensures))

pub returns : goal.returns
returns g c =
    let old = c.self.inside in
    let before = served_of_parts old.side (g.R.Race.contents old.race) old.lines.items in
    let cause = drain_refusal c.hub.result.now.state in
    let causes : option_map node_fault.Hub cause ≡ refusal before (Own Drain) =
    λ k. option_map node_fault.Hub (drain_refusal (c.hub.ensures.state k)) in
    let sent = c.in-Ok.ensures.1 ∙ (λ k. drain_frames (c.hub.ensures.server k) (c.hub.ensures.state k)) in
    subst (λ (s : Served).
    (refusal s (Own Drain) ≡ None) × (c.in-Ok-route_frames.frames.items ≡ node_frames s.server s.node (Own Drain)))
    c.self.view_is (
      sym causes ∙ ap (option_map node_fault.Hub) c.in-Ok.ensures.0,
      c.in-Ok-route_frames.ensures ∙ ap (map route.Numbered) sent,
    )
