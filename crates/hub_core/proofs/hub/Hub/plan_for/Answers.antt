use Rattle.std.proofs.Common.{Bool, List, ap, ◌∙◌}
use Rattle.std.specs.Prelude.{map, slice_get}
use Rattle.pick.specs.Pick.{Weighted, pick_of}
use Rattle.hub_core.specs.Chosen.{publication_by}
use Rattle.hub_core.proofs.Choices.Audiences.{picked_all, plain_known}
use Rattle.hub_core.proofs.Neighbours.Sending.{served_all}
use Rattle.hub_core.proofs.hub.Hub.plan_for.Goals as goal

pub plan_by-requires-clause-servers : goal.plan_by-requires-clause-servers
plan_by-requires-clause-servers c =
    let hub = c.args.self.now in
    let names = c.args.audience.now.names in
    let p = publication_by c.args.conn c.args.publication.now c.args.word in
    served_all hub.server hub.state p names c.deref.result.now c.requires.audience.few
    (c.deref.ensures.value
    ∙ c.in_ok-servers.ensures
    ∙ ap (map (λ (weights : List Weighted). pick_of weights c.args.word)) c.requires.audience.weights
    ∙ picked_all hub.server hub.state p names)

pub plan_by-requires-clause-plain : goal.plan_by-requires-clause-plain
plan_by-requires-clause-plain c = λ q peer at.
    ap (λ (plain : List Bool). slice_get plain q) (c.deref-2.ensures.value ∙ c.requires.audience.plain)
    ∙ plain_known c.args.publication.now.message.subject c.args.self.now.state.peers q peer at
