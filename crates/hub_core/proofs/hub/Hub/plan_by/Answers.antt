use Rattle.std.proofs.Common.{◌≡◌, ◌+◌, List, Some, refl, sym, ap, ◌∙◌, subst}
use Rattle.std.specs.Prelude.{slice_get}
use Rattle.subj.specs.QueueNames.{are_rising}
use Rattle.subj.specs.Servers.{own_name}
use Rattle.hub_core.specs.State.{State, Peer}
use Rattle.hub_core.specs.Hubs.{Hub}
use Rattle.hub_core.specs.Choice.{names_for, queue_names}
use Rattle.hub_core.specs.Publishing.{choice_of, names_of}
use Rattle.hub_core.specs.Chosen.{chosen_for, IsPlanOf, publication_by, sent_from}
use Rattle.hub_core.specs.Serving.{IsServed}
use Rattle.hub_core.proofs.Neighbours.Sending.{chosen_is, split_is, sent_is}
use Rattle.hub_core.proofs.Choices.Wanted.{names_are_wanted}
use Rattle.hub_core.proofs.hub.Hub.plan_by.Goals as goal

pub frames_for-requires-clause-split : goal.frames_for-requires-clause-split
frames_for-requires-clause-split c =
    let server = c.self.inside.server in
    let state : State = record {
      issued = c.self.inside.issued;
      published = c.self.inside.published;
      changed = c.self.inside.changed;
      draining = c.self.inside.draining;
      counts = c.self.inside.counts;
      peers = c.self.inside.peers.items;
    } in
    let names = c.args.split.now.names.now in
    let servers = c.args.split.now.servers.now in
    let subject = c.args.publication.now.message.subject in
    let p = publication_by c.args.conn c.args.publication.now c.args.word in
    let served =
    subst (λ (hub : Hub). IsServed hub.server hub.state p names servers) (sym c.self.view_is) c.requires.servers in
    let names_is : names ≡ queue_names server state subject =
    c.requires.names ∙ ap (λ (hub : Hub). queue_names hub.server hub.state subject) (sym c.self.view_is) in
    split_is (choice_of server state p) names servers served.room served.picks
    (ap are_rising names_is ∙ names_are_wanted.rising server state subject) served.few

pub own_job-requires : goal.own_job-requires
own_job-requires c =
    let server = c.self.inside.server in
    let state : State = record {
      issued = c.self.inside.issued;
      published = c.self.inside.published;
      changed = c.self.inside.changed;
      draining = c.self.inside.draining;
      counts = c.self.inside.counts;
      peers = c.self.inside.peers.items;
    } in
    let names = c.args.split.now.names.now in
    let servers = c.args.split.now.servers.now in
    let subject = c.args.publication.now.message.subject in
    let p = publication_by c.args.conn c.args.publication.now c.args.word in
    let served =
    subst (λ (hub : Hub). IsServed hub.server hub.state p names servers) (sym c.self.view_is) c.requires.servers in
    let names_is : names ≡ queue_names server state subject =
    c.requires.names ∙ ap (λ (hub : Hub). queue_names hub.server hub.state subject) (sym c.self.view_is) in
    record {
      split =
          split_is (choice_of server state p) names servers served.room served.picks
          (ap are_rising names_is ∙ names_are_wanted.rising server state subject) served.few;
    }

pub frames_for-requires-clause-seen : goal.frames_for-requires-clause-seen
frames_for-requires-clause-seen c = λ q peer at up.
    (c.self.invariant.0.sound.peers q peer
    (ap (λ (peers : List Peer). slice_get peers q) (sym c.deref.ensures.value) ∙ at)).seen
    up

pub frames_for-requires-clause-plain : goal.frames_for-requires-clause-plain
frames_for-requires-clause-plain c = λ q peer at.
    c.requires.plain q peer
    (ap (λ (hub : Hub). slice_get hub.state.peers q) (sym c.self.view_is)
    ∙ ap (λ (peers : List Peer). slice_get peers q) (sym c.deref.ensures.value)
    ∙ at)

pub returns : goal.returns
returns c =
    let server = c.self.inside.server in
    let state : State = record {
      issued = c.self.inside.issued;
      published = c.self.inside.published;
      changed = c.self.inside.changed;
      draining = c.self.inside.draining;
      counts = c.self.inside.counts;
      peers = c.self.inside.peers.items;
    } in
    let names = c.args.split.now.names.now in
    let servers = c.args.split.now.servers.now in
    let subject = c.args.publication.now.message.subject in
    let p = publication_by c.args.conn c.args.publication.now c.args.word in
    let served =
    subst (λ (hub : Hub). IsServed hub.server hub.state p names servers) (sym c.self.view_is) c.requires.servers in
    let names_is : names ≡ queue_names server state subject =
    c.requires.names ∙ ap (λ (hub : Hub). queue_names hub.server hub.state subject) (sym c.self.view_is) in
    let turn_is : c.args.turn ≡ c.self.inside.issued + 1 =
    c.requires.turn ∙ ap (λ (hub : Hub). hub.state.issued + 1) (sym c.self.view_is) in
    let queues_is : chosen_for (own_name server) names servers
    ≡ names_for (choice_of server state p) (own_name server) (names_of server state p) =
    chosen_is (choice_of server state p) (own_name server) names servers served.picks
    ∙ ap (names_for (choice_of server state p) (own_name server)) names_is in (
      refl,
      subst (λ (hub : Hub). IsPlanOf hub.server hub.state p c.in_ok-job.job c.in_ok-frames.frames.items) c.self.view_is
          (record {
            job =
                c.in_ok-job.ensures
                ∙ (λ k. record {
                  turn = turn_is k;
                  id = record { origin = own_name server; inc = server.inc; number = c.self.inside.published + 1 };
                  message = c.args.publication.now.message;
                  publisher = Some c.args.conn;
                  echo = c.args.publication.now.echo;
                  queues = queues_is k;
                });
            frames =
                c.in_ok-frames.ensures
                ∙ (λ k.
                sent_from server (c.self.inside.published + 1) c.args.publication.now.message
                (λ name.
                (chosen_is (choice_of server state p) name names servers served.picks
                ∙ ap (names_for (choice_of server state p) name) names_is)
                k)
                0 (c.deref.ensures.value k))
                ∙ sent_is server (c.self.inside.published + 1) c.args.publication.now.message (choice_of server state p)
                (names_of server state p) 0 c.self.inside.peers.items;
          }),
    )
