use Rattle.std.proofs.Common.{sym, ap, subst, arith, ◌∙◌}
use Rattle.std.specs.Prelude.{position}
use Rattle.shard_core.specs.Boxes.{Clients, next_backlog}
use Rattle.shard_core.specs.ClaimRuns.{HasRoomAt}
use Rattle.shard_core.specs.Shards.{client_at, has_number}
use Rattle.shard_core.proofs.Clients.Lookups.{client_is, place_within, seat_place}
use Rattle.shard_core.proofs.connections.Conns.room_for_most.Goals as goal

pub index-conn-requires : goal.index-conn-requires
index-conn-requires c =
    let conns = c.self.inside.conns.items in
    let n = c.args.seat.conn in
    let within = place_within n conns c.args.seat.place
    (seat_place c.args.seat conns
    (ap (λ (l : Clients). position (has_number n) l.next) c.self.view_is ∙ c.requires.seat)) in
    omega (arith, within, c.self.inside.conns.ok.0)

pub returns-clause-room : goal.returns-clause-room
returns-clause-room c = λ some.
    let conns = c.self.inside.conns.items in
    let n = c.args.seat.conn in
    let i = c.args.seat.place in
    let at = seat_place c.args.seat conns
    (ap (λ (l : Clients). position (has_number n) l.next) c.self.view_is ∙ c.requires.seat) in
    subst (HasRoomAt c.room_for_most.result c.args.len)
    (sym (client_is next_backlog n conns i c.index-conn.result.now at c.index-conn.ensures)
    ∙ ap (λ (l : Clients). client_at n l.next) c.self.view_is)
    (c.room_for_most.ensures.room some)
