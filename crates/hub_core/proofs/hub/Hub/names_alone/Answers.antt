use Rattle.std.proofs.Common.{◌≡◌, sym, ap, ◌∙◌, subst}
use Rattle.interest.specs.Counts.{IsInterest}
use Rattle.hub_core.specs.Hubs.{Hub, hub_of_parts}
use Rattle.hub_core.specs.Choice.{queue_names}
use Rattle.hub_core.specs.Local.{OwesLocalJob}
use Rattle.hub_core.specs.Serving.{is_alone_from, ServesAlone}
use Rattle.hub_core.proofs.Choices.Alone.{serves_alone}
use Rattle.hub_core.proofs.Choices.Local.{local_alone}
use Rattle.hub_core.proofs.hub.Hub.names_alone.Goals as goal

pub returns-clause-alone : goal.returns-clause-alone
returns-clause-alone c =
    let i = c.self.inside in
    let old = hub_of_parts i.server i.issued i.published i.changed i.draining i.counts i.peers.items in
    let subject = c.args.subject.now in
    let names = c.args.audience.now.names in
    let alone = ap (is_alone_from i.server 0) (sym c.deref.ensures.value) ∙ sym c.if-not-is_alone.ensures in
    let found : names ≡ queue_names old.server old.state subject =
    subst (λ (h : Hub). names ≡ queue_names h.server h.state subject) (sym c.self.view_is) c.requires.names in
    subst (λ (h : Hub). ServesAlone h.server h.state subject names) c.self.view_is
    (serves_alone old.server old.state subject names alone
    (subst IsInterest c.counts.ensures c.keys-valid.ensures.valid) c.as_slice-ordered.ensures.valid found)

pub returns-clause-local : goal.returns-clause-local
returns-clause-local c =
    let i = c.self.inside in
    let old = hub_of_parts i.server i.issued i.published i.changed i.draining i.counts i.peers.items in
    let subject = c.args.subject.now in
    let names = c.args.audience.now.names in
    let alone = ap (is_alone_from i.server 0) (sym c.deref.ensures.value) ∙ sym c.if-not-is_alone.ensures in
    let found : names ≡ queue_names old.server old.state subject =
    subst (λ (h : Hub). names ≡ queue_names h.server h.state subject) (sym c.self.view_is) c.requires.names in
    subst (λ (h : Hub). OwesLocalJob h.server h.state subject names) c.self.view_is
    (local_alone old.server old.state subject names c.self.invariant.0.listed c.self.invariant.0.sound
    (serves_alone old.server old.state subject names alone
    (subst IsInterest c.counts.ensures c.keys-valid.ensures.valid) c.as_slice-ordered.ensures.valid found))
