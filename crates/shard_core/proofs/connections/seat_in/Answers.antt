use Rattle.std.proofs.Common.{map, sym, subst, ◌∙◌}
use Rattle.shard_core.specs.declared.standings.Seat.{Seat}
use Rattle.shard_core.specs.Boxes.{IsSeatOf, client_in_view, next_backlog}
use Rattle.shard_core.proofs.Clients.Lookups.{client_none, seat_found}
use Rattle.shard_core.proofs.connections.seat_in.Goals as goal

pub returns-in-None-clause-none : goal.returns-in-None-clause-none
returns-in-None-clause-none c =
    λ none. client_none next_backlog c.args.conn c.args.conns.now.items (sym c.place_near.ensures ∙ c.in-None.is)

pub returns-in-Some-clause-some : goal.returns-in-Some-clause-some
returns-in-Some-clause-some c =
    subst (λ (s : Seat). IsSeatOf c.args.conn s (map (client_in_view next_backlog) c.args.conns.now.items))
    (sym c.seat_at.ensures)
    (seat_found c.args.conn c.in-Some.place c.args.conns.now.items c.index.result.now
    (sym c.place_near.ensures ∙ c.in-Some.is) c.index.ensures)
