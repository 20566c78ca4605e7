use Rattle.std.proofs.Common.{◌≡◌, ◌==◌, map, Some, sym, ap, ◌∙◌}
use Rattle.std.specs.Prelude.{position, slice_set}
use Rattle.shard_core.specs.declared.connections.Conn.{Conn}
use Rattle.shard_core.specs.Boxes.{Clients, client_in_view, shown_backlog, next_backlog}
use Rattle.shard_core.specs.Shards.{clients_with_headers}
use Rattle.shard_core.proofs.Clients.Lookups.{chosen_none, chosen_is}
use Rattle.shard_core.proofs.Clients.Staging.{conns_chosen}
use Rattle.shard_core.proofs.connections.Conns.set_headers.Goals as goal

pub returns-in_default : goal.returns-in_default
returns-in_default c =
    let conns = c.self.inside.conns.items in
    let n = c.args.conn in
    let on = c.args.on in
    let none = sym c.place_in.ensures ∙ c.in_default.is in
    let shown = sym (chosen_none shown_backlog n on conns none)
    ∙ ap (λ (l : Clients). clients_with_headers on n l.shown) c.self.view_is in
    let next = sym (chosen_none next_backlog n on conns none)
    ∙ ap (λ (l : Clients). clients_with_headers on n l.next) c.self.view_is in
    sym c.self.view_is ∙ (λ k. record { shown = shown k; next = next k })

pub invariant_of-self : goal.invariant_of-self
invariant_of-self c =
    conns_chosen c.args.on c.self.inside.places.items c.self.inside.conns.items c.in-Some.place
    c.index_mut-conn.result.now c.index_mut-conn.ensures.value c.self.invariant

pub returns : goal.returns
returns c =
    let conns = c.self.inside.conns.items in
    let n = c.args.conn in
    let on = c.args.on in
    let i = c.in-Some.place in
    let x = c.index_mut-conn.result.now in
    let is = c.index_mut-conn.ensures.value in
    let at : position (λ (y : Conn). y.number == n) conns ≡ Some i = sym c.place_in.ensures ∙ c.in-Some.is in
    let new : Conn = record { number = x.number; outbox = x.outbox; headers = on } in
    let shown :
    map (client_in_view shown_backlog) (slice_set conns i new) ≡ clients_with_headers on n c.args.self.now.shown =
    chosen_is shown_backlog n conns i x at is on
    ∙ ap (λ (l : Clients). clients_with_headers on n l.shown) c.self.view_is in
    let next :
    map (client_in_view next_backlog) (slice_set conns i new) ≡ clients_with_headers on n c.args.self.now.next =
    chosen_is next_backlog n conns i x at is on
    ∙ ap (λ (l : Clients). clients_with_headers on n l.next) c.self.view_is in
    λ k. record { shown = shown k; next = next k }
