use Rattle.std.proofs.Common.{◌≡◌, ◌||◌, List, [], sym, ap, ◌∙◌, subst}
use Rattle.interest.specs.Matches.{has_queue_match}
use Rattle.hub_core.specs.State.{State, Peer}
use Rattle.hub_core.specs.Hubs.{Hub}
use Rattle.hub_core.specs.Choice.{queue_names}
use Rattle.hub_core.specs.Chosen.{wants_name_from}
use Rattle.hub_core.proofs.Choices.Choosing.{none_wanted}
use Rattle.hub_core.proofs.hub.Hub.is_named.Goals as goal

pub returns : goal.returns
returns c = λ none.
    let server = c.self.inside.server in
    let subject = c.args.subject.now in
    let state : State = record {
      issued = c.self.inside.issued;
      published = c.self.inside.published;
      changed = c.self.inside.changed;
      draining = c.self.inside.draining;
      counts = c.self.inside.counts;
      peers = c.self.inside.peers.items;
    } in
    let same = ap
    (λ (peers : List Peer). has_queue_match subject state.counts || wants_name_from server subject 0 peers)
    c.deref.ensures.value in
    subst (λ (hub : Hub). queue_names hub.server hub.state subject ≡ []) c.self.view_is
    (none_wanted server state subject (sym same ∙ sym c.is_name_wanted.ensures ∙ none))
