use Rattle.std.proofs.Common.{Some, sym, ap, ◌∙◌}
use Rattle.shard_core.specs.declared.connections.Conn.{Conn}
use Rattle.shard_core.specs.Boxes.{client_in_view, shown_backlog, next_backlog}
use Rattle.shard_core.proofs.Clients.Lookups.{client_none, client_some}
use Rattle.shard_core.proofs.connections.conn_of.Goals as goal

pub returns-in-None-clause-shown : goal.returns-in-None-clause-shown
returns-in-None-clause-shown c =
    sym (client_none shown_backlog c.args.conn c.args.conns.now.items (sym c.place_in.ensures ∙ c.in-None.is))

pub returns-in-None-clause-next : goal.returns-in-None-clause-next
returns-in-None-clause-next c =
    sym (client_none next_backlog c.args.conn c.args.conns.now.items (sym c.place_in.ensures ∙ c.in-None.is))

pub returns-in-Some-clause-shown : goal.returns-in-Some-clause-shown
returns-in-Some-clause-shown c =
    ap (λ (x : Conn). Some (client_in_view shown_backlog x)) c.index.ensures
    ∙ sym (client_some shown_backlog c.args.conn c.args.conns.now.items c.in-Some.place c.index.result.now
    (sym c.place_in.ensures ∙ c.in-Some.is))

pub returns-in-Some-clause-next : goal.returns-in-Some-clause-next
returns-in-Some-clause-next c =
    ap (λ (x : Conn). Some (client_in_view next_backlog x)) c.index.ensures
    ∙ sym (client_some next_backlog c.args.conn c.args.conns.now.items c.in-Some.place c.index.result.now
    (sym c.place_in.ensures ∙ c.in-Some.is))
