use Rattle.std.proofs.Common.{take, ◌≡◌, ◌==◌, ◌<◌, [], length, Some, ap, sym, ◌∙◌, arith}
use Rattle.std.specs.Prelude.{position}
use Rattle.std.proofs.lemmas.List.{take_all}
use Rattle.std.proofs.lemmas.List.Quantifiers.{position-Some}
use Rattle.outbox.specs.Views.{Waiting, without_first}
use Rattle.shard_core.specs.declared.connections.Conn.{Conn}
use Rattle.shard_core.specs.Boxes.{Clients, client_in_view, shown_backlog}
use Rattle.shard_core.specs.Shards.{entries_of, waits_for, clients_with_change}
use Rattle.shard_core.proofs.Clients.Lookups.{client_none, changed_none, waits_is, changed_is}
use Rattle.shard_core.proofs.Clients.Staging.{conns_settled}
use Rattle.shard_core.proofs.connections.Conns.take_shown.Goals as goal

pub invariant_of-self-in-Some : goal.invariant_of-self-in-Some
invariant_of-self-in-Some c =
    let conns = c.self.inside.conns.items in
    let n = c.args.conn in
    let i = c.in-Some.place in
    let x = c.index_mut-conn.result.now in
    let is = c.index_mut-conn.ensures.value in
    let at : position (λ (y : Conn). y.number == n) conns ≡ Some i = sym c.place_in.ensures ∙ c.in-Some.is in
    let there : i < length conns = (position-Some (λ (y : Conn). y.number == n) conns i x at).0 in
    conns_settled c.self.inside.places.items conns i x c.take.new.self is there
    (ap (λ (b : Waiting). b.next) c.in_ok-entries-in-Some.ensures.ok
    ∙ sym (ap (λ (b : Waiting). b.shown) c.in_ok-entries-in-Some.ensures.ok))
    c.self.invariant

pub returns-in-None-clause-given : goal.returns-in-None-clause-given
returns-in-None-clause-given c =
    let none = sym c.place_in.ensures ∙ c.in-None.is in
    c.new.ensures.items
    ∙ sym (take_all c.args.count [] (omega arith))
    ∙ sym
    (ap (λ o. take c.args.count (entries_of o)) (client_none shown_backlog c.args.conn c.self.inside.conns.items none))
    ∙ ap (λ (l : Clients). take c.args.count (waits_for c.args.conn l.shown)) c.self.view_is

pub returns-in_ok-entries-in-Some-clause-given : goal.returns-in_ok-entries-in-Some-clause-given
returns-in_ok-entries-in-Some-clause-given c =
    let conns = c.self.inside.conns.items in
    let n = c.args.conn in
    let i = c.in-Some.place in
    let x = c.index_mut-conn.result.now in
    let is = c.index_mut-conn.ensures.value in
    let at : position (λ (y : Conn). y.number == n) conns ≡ Some i = sym c.place_in.ensures ∙ c.in-Some.is in
    c.in_ok-entries-in-Some.ensures.entries
    ∙ sym (ap (take c.args.count) (waits_is shown_backlog n conns i x at is))
    ∙ ap (λ (l : Clients). take c.args.count (waits_for n l.shown)) c.self.view_is

pub returns-in_ok-entries-in-Some-clause-ok : goal.returns-in_ok-entries-in-Some-clause-ok
returns-in_ok-entries-in-Some-clause-ok c =
    let conns = c.self.inside.conns.items in
    let n = c.args.conn in
    let i = c.in-Some.place in
    let x = c.index_mut-conn.result.now in
    let is = c.index_mut-conn.ensures.value in
    let at : position (λ (y : Conn). y.number == n) conns ≡ Some i = sym c.place_in.ensures ∙ c.in-Some.is in
    let change = without_first c.args.count in
    changed_is shown_backlog n conns i x at is change c.take.new.self
    (ap (λ (b : Waiting). client_in_view shown_backlog (record { number = x.number; outbox = b; headers = x.headers }))
    c.in_ok-entries-in-Some.ensures.ok)
    ∙ ap (λ (l : Clients). clients_with_change change n l.shown) c.self.view_is

pub returns-in-None-clause-ok : goal.returns-in-None-clause-ok
returns-in-None-clause-ok c =
    let conns = c.self.inside.conns.items in
    let n = c.args.conn in
    let change = without_first c.args.count in
    let none = sym c.place_in.ensures ∙ c.in-None.is in
    ap (λ (l : Clients). l.shown) (sym c.self.view_is)
    ∙ sym (changed_none shown_backlog n change conns none)
    ∙ ap (λ (l : Clients). clients_with_change change n l.shown) c.self.view_is
