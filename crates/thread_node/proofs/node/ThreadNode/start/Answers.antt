use Rattle.std.proofs.Common.{All, ap, ◌∙◌, subst, arith}
use Rattle.std.proofs.lemmas.List.{length-map}
use Rattle.claim_cells.specs.Seats.{RaceId}
use Rattle.thread_node.specs.Parts.{Given, IsNamed}
use Rattle.thread_node.proofs.Starting.{named}
use Rattle.thread_node.proofs.node.ThreadNode.start.Goals as goal

pub locked-requires-clause-each : goal.locked-requires-clause-each
locked-requires-clause-each g c =
    let i = c.parts.invariant in
    let race = ap (λ (v : Given). v.race) c.parts.view_is ∙ c.requires.race in
    let count = ap (λ (r : RaceId). r.shards) race in
    let as_many = length-map c.parts.inside.shards.items (λ s. s.seat) in
    omega (arith, as_many, i.seats.0, i.count, count)

pub locked-requires-clause-parts : goal.locked-requires-clause-parts
locked-requires-clause-parts g c =
    let p = c.parts.inside in
    let race = ap (λ (v : Given). v.race) c.parts.view_is ∙ c.requires.race in
    let lanes = ap (λ (v : Given). v.lanes) c.parts.view_is ∙ c.requires.lanes in
    subst (λ (r : _). All (IsNamed r g.N.NodeName.lanes) p.shards.items) race
    (named p.server p.cells p.hub p.shards.items g.N.NodeName.lanes c.parts.invariant lanes)
