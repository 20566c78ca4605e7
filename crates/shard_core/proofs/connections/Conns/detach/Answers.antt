use Rattle.std.proofs.Common.{◌≡◌, ◌==◌, not, map, ap, sym, ◌∙◌, subst}
use Rattle.std.specs.Prelude.{filter}
use Rattle.shard_core.specs.declared.connections.Conn.{Conn}
use Rattle.shard_core.specs.Boxes.{Clients, AreConns, client_in_view, shown_backlog, next_backlog}
use Rattle.shard_core.specs.Shards.{without_client}
use Rattle.shard_core.proofs.Clients.Lookups.{detached_is}
use Rattle.shard_core.proofs.Clients.Staging.{conns_without}
use Rattle.shard_core.proofs.connections.Conns.detach.Goals as goal

pub invariant_of-self : goal.invariant_of-self
invariant_of-self c =
    let conns = c.self.inside.conns.items in
    let settled : map (client_in_view next_backlog) conns ≡ map (client_in_view shown_backlog) conns =
    ap (λ (l : Clients). l.next) c.self.view_is ∙ c.requires ∙ sym (ap (λ (l : Clients). l.shown) c.self.view_is) in
    let left : c.remove.new.conns.items ≡ filter (λ (x : Conn). not (x.number == c.args.conn)) conns =
    c.remove.ensures ∙ ap (λ m. filter (λ (x : Conn). not (x.number == m)) conns) c.get.ensures in
    subst (λ places. AreConns places c.remove.new.conns.items) (sym c.clear.ensures.items)
    (conns_without c.self.inside.places.items conns c.remove.new.conns.items c.args.conn settled left c.self.invariant)

pub returns : goal.returns
returns c =
    let conns = c.self.inside.conns.items in
    let n = c.args.conn in
    let left : c.remove.new.conns.items ≡ filter (λ (x : Conn). not (x.number == n)) conns =
    c.remove.ensures ∙ ap (λ m. filter (λ (x : Conn). not (x.number == m)) conns) c.get.ensures in
    let shown : map (client_in_view shown_backlog) c.remove.new.conns.items ≡ without_client n c.args.self.now.shown =
    ap (map (client_in_view shown_backlog)) left
    ∙ detached_is shown_backlog n conns
    ∙ ap (λ (l : Clients). without_client n l.shown) c.self.view_is in
    let next : map (client_in_view next_backlog) c.remove.new.conns.items ≡ without_client n c.args.self.now.next =
    ap (map (client_in_view next_backlog)) left
    ∙ detached_is next_backlog n conns
    ∙ ap (λ (l : Clients). without_client n l.next) c.self.view_is in
    λ k. record { shown = shown k; next = next k }
