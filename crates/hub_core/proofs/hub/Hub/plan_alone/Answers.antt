use Rattle.std.proofs.Common.{◌≡◌, ◌+◌, Some, refl, sym, ap, ◌∙◌, subst}
use Rattle.hub_core.specs.State.{State}
use Rattle.hub_core.specs.Hubs.{Hub}
use Rattle.hub_core.specs.Publishing.{next_id}
use Rattle.hub_core.specs.Chosen.{IsPlanOf, publication_by}
use Rattle.hub_core.specs.Serving.{ServesAlone}
use Rattle.hub_core.proofs.Choices.Local.{is_local, local_alone}
use Rattle.hub_core.proofs.hub.Hub.plan_alone.Goals as goal

pub returns : goal.returns
returns c = λ word.
    let server = c.self.inside.server in
    let state : State = record {
      issued = c.self.inside.issued;
      published = c.self.inside.published;
      changed = c.self.inside.changed;
      draining = c.self.inside.draining;
      counts = c.self.inside.counts;
      peers = c.self.inside.peers.items;
    } in
    let publication = c.args.publication.now in
    let subject = publication.message.subject in
    let names = c.args.names.now in
    let p = publication_by c.args.conn publication word in
    let serves = subst (λ (hub : Hub). ServesAlone hub.server hub.state subject names) (sym c.self.view_is)
    c.requires.names in
    let owed = is_local server state p names
    (local_alone server state subject names c.self.invariant.0.listed c.self.invariant.0.sound serves) in
    let turn_is : c.args.turn ≡ c.self.inside.issued + 1 =
    c.requires.turn ∙ ap (λ (hub : Hub). hub.state.issued + 1) (sym c.self.view_is) in
    let id_is = c.next_id.ensures ∙ ap (λ (hub : Hub). next_id hub.server hub.state) (sym c.self.view_is) in (
      refl,
      subst (λ (hub : Hub).
          IsPlanOf hub.server hub.state p
          (record {
            turn = c.args.turn;
            id = c.next_id.result;
            message = c.in_ok-message.message;
            publisher = Some c.args.conn;
            echo = publication.echo;
            queues = c.in_ok-queues.queues;
          })
          c.new.result.items)
          c.self.view_is (record {
            job =
                (λ k. record {
                  turn = turn_is k;
                  id = id_is k;
                  message = c.in_ok-message.ensures k;
                  publisher = Some c.args.conn;
                  echo = publication.echo;
                  queues = c.in_ok-queues.ensures k;
                })
                ∙ sym owed.job;
            frames = c.new.ensures.items ∙ sym owed.frames;
          }),
    )
