use Rattle.std.proofs.Common.{◌≡◌, false, ◌++◌, ◌∷◌, ◌<◌, [], map, ap, sym, ◌∙◌, subst}
use Rattle.std.specs.Prelude.{All}
use Rattle.outbox.specs.Views.{Waiting}
use Rattle.shard_core.specs.declared.connections.Conn.{Conn}
use Rattle.shard_core.specs.Shards.{Client}
use Rattle.shard_core.specs.Boxes.{Clients, AreConns, client_in_view, shown_backlog, next_backlog}
use Rattle.shard_core.proofs.Clients.Staging.{conns_attached, numbers_below}
use Rattle.shard_core.proofs.connections.Conns.attach.Goals as goal

pub invariant_of-self-2 : goal.invariant_of-self-2
invariant_of-self-2 c =
    let conns = c.self.inside.conns.items in
    let box = c.in_ok-outbox.outbox in
    let x : Conn = record { number = c.args.conn; outbox = box; headers = false } in
    let pushed : c.push.new.self.items ≡ conns ++ x ∷ [] = c.in_ok-push.ensures.items
    ∙ ap (λ n. conns ++ record { number = n; outbox = box; headers = false } ∷ []) c.get.ensures in
    let settled : map (client_in_view next_backlog) conns ≡ map (client_in_view shown_backlog) conns =
    ap (λ (l : Clients). l.next) c.self.view_is
    ∙ c.requires.settled
    ∙ sym (ap (λ (l : Clients). l.shown) c.self.view_is) in
    let alike : x.outbox.next ≡ x.outbox.shown =
    ap (λ (b : Waiting). b.next) c.in_ok-outbox.ensures ∙ sym (ap (λ (b : Waiting). b.shown) c.in_ok-outbox.ensures) in
    let above = numbers_below c.args.conn conns
    (subst (λ (l : Clients). All (λ (client : Client). client.number < c.args.conn) l.shown) (sym c.self.view_is)
    c.requires.above) in
    subst (AreConns c.self.inside.places.items) (sym pushed)
    (conns_attached c.self.inside.places.items conns x alike above settled c.self.invariant)
