use Rattle.std.proofs.Common.{ap, sym, ◌∙◌}
use Rattle.std.specs.Prelude.{slice_index_or}
use Rattle.outbox.specs.Views.{Waiting}
use Rattle.shard_core.specs.Boxes.{client_in_view, shown_backlog}
use Rattle.shard_core.proofs.Clients.Lookups.{same_seen}
use Rattle.shard_core.proofs.Clients.Staging.{conns_less_at, no_such_conn}
use Rattle.shard_core.proofs.connections.rollback_at.Goals as goal

pub returns-then-place-conns-clause-shown : goal.returns-then-place-conns-clause-shown
returns-then-place-conns-clause-shown c =
    let conns = c.args.conns.now in
    let r = c.index-conns-place.result in
    let x = slice_index_or conns c.args.place r in
    same_seen shown_backlog conns c.args.place r
    (record { number = x.number; outbox = c.rollback.new.self; headers = x.headers })
    (ap (λ (b : Waiting). client_in_view shown_backlog (record { number = x.number; outbox = b; headers = x.headers }))
    c.rollback.ensures)

pub returns-then-place-conns-clause-settled : goal.returns-then-place-conns-clause-settled
returns-then-place-conns-clause-settled c =
    let alike =
    ap (λ (b : Waiting). b.next) c.rollback.ensures ∙ sym (ap (λ (b : Waiting). b.shown) c.rollback.ensures) in
    λ places was.
    conns_less_at places c.args.conns.now c.args.place c.index-conns-place.result c.rollback.new.self
    c.if-place-conns.true alike was

pub returns-else-place-conns-clause-settled : goal.returns-else-place-conns-clause-settled
returns-else-place-conns-clause-settled c =
    λ places was. no_such_conn places c.args.conns.now c.args.place c.if-place-conns.false was
