use Rattle.std.proofs.Common.{ap, ◌∙◌}
use Rattle.std.specs.Prelude.{position}
use Rattle.outbox.specs.Views.{message_entry, with_entry}
use Rattle.shard_core.specs.Shards.{client_at, clients_with_change, fits, has_number}
use Rattle.shard_core.specs.Boxes.{Clients}
use Rattle.shard_core.proofs.Clients.Staging.{has_room_at, left_after, left_is, staged_is, conns_alike}
use Rattle.shard_core.proofs.Clients.Lookups.{place_within, seat_place}
use Rattle.shard_core.proofs.connections.Conns.stage_message.Goals as goal

pub stage_message_at-requires-clause-within : goal.stage_message_at-requires-clause-within
stage_message_at-requires-clause-within c =
    let conns = c.self.inside.conns.items in
    let n = c.args.seat.conn in
    place_within n conns c.args.seat.place
    (seat_place c.args.seat conns
    (ap (λ (l : Clients). position (has_number n) l.next) c.self.view_is ∙ c.requires.seat))

pub stage_message_at-requires-clause-room : goal.stage_message_at-requires-clause-room
stage_message_at-requires-clause-room c =
    let conns = c.self.inside.conns.items in
    let n = c.args.seat.conn in
    let i = c.args.seat.place in
    let at = seat_place c.args.seat conns
    (ap (λ (l : Clients). position (has_number n) l.next) c.self.view_is ∙ c.requires.seat) in
    has_room_at n conns i at (message_entry c.args.id c.args.sub c.args.mode c.args.line.now c.args.body.now)
    (ap (λ (l : Clients).
    fits (client_at n l.next) (message_entry c.args.id c.args.sub c.args.mode c.args.line.now c.args.body.now))
    c.self.view_is ∙ c.requires.room)

pub invariant_of-self-in_err-stage_message_at : goal.invariant_of-self-in_err-stage_message_at
invariant_of-self-in_err-stage_message_at c =
    let conns = c.self.inside.conns.items in
    let n = c.args.seat.conn in
    let i = c.args.seat.place in
    let at = seat_place c.args.seat conns
    (ap (λ (l : Clients). position (has_number n) l.next) c.self.view_is ∙ c.requires.seat) in
    conns_alike c.stage_message_at.new.conns.items c.in_ok-note_staged.ensures.ok
    (left_is n conns i at c.self.inside.places.items c.stage_message_at.new.conns.items c.self.invariant
    c.in_err-stage_message_at.ensures.err).keeps

pub returns-in_err-stage_message_at-clause-shown : goal.returns-in_err-stage_message_at-clause-shown
returns-in_err-stage_message_at-clause-shown c =
    let conns = c.self.inside.conns.items in
    let n = c.args.seat.conn in
    let i = c.args.seat.place in
    let at = seat_place c.args.seat conns
    (ap (λ (l : Clients). position (has_number n) l.next) c.self.view_is ∙ c.requires.seat) in
    (left_is n conns i at c.self.inside.places.items c.stage_message_at.new.conns.items c.self.invariant
    c.in_err-stage_message_at.ensures.err).shown
    ∙ ap (λ (l : Clients). l.shown) c.self.view_is

pub returns-in_err-stage_message_at-clause-err : goal.returns-in_err-stage_message_at-clause-err
returns-in_err-stage_message_at-clause-err c =
    let conns = c.self.inside.conns.items in
    let n = c.args.seat.conn in
    let i = c.args.seat.place in
    let at = seat_place c.args.seat conns
    (ap (λ (l : Clients). position (has_number n) l.next) c.self.view_is ∙ c.requires.seat) in
    left_after c.from_residual-in_err-stage_message_at.result
    ((left_is n conns i at c.self.inside.places.items c.stage_message_at.new.conns.items c.self.invariant
    c.in_err-stage_message_at.ensures.err).next ∙ ap (λ (l : Clients). l.next) c.self.view_is)

pub invariant_of-self-2 : goal.invariant_of-self-2
invariant_of-self-2 c =
    let conns = c.self.inside.conns.items in
    let n = c.args.seat.conn in
    let i = c.args.seat.place in
    let at = seat_place c.args.seat conns
    (ap (λ (l : Clients). position (has_number n) l.next) c.self.view_is ∙ c.requires.seat) in
    conns_alike c.stage_message_at.new.conns.items c.in_ok-note_staged.ensures.ok
    (staged_is n conns i at
    (with_entry (message_entry c.args.id c.args.sub c.args.mode c.args.line.now c.args.body.now))
    c.self.inside.places.items c.stage_message_at.new.conns.items c.self.invariant
    c.in_ok-stage_message_at.ensures.ok).keeps

pub returns-clause-shown : goal.returns-clause-shown
returns-clause-shown c =
    let conns = c.self.inside.conns.items in
    let n = c.args.seat.conn in
    let i = c.args.seat.place in
    let at = seat_place c.args.seat conns
    (ap (λ (l : Clients). position (has_number n) l.next) c.self.view_is ∙ c.requires.seat) in
    (staged_is n conns i at
    (with_entry (message_entry c.args.id c.args.sub c.args.mode c.args.line.now c.args.body.now))
    c.self.inside.places.items c.stage_message_at.new.conns.items c.self.invariant
    c.in_ok-stage_message_at.ensures.ok).shown
    ∙ ap (λ (l : Clients). l.shown) c.self.view_is

pub returns-clause-ok : goal.returns-clause-ok
returns-clause-ok c =
    let conns = c.self.inside.conns.items in
    let n = c.args.seat.conn in
    let i = c.args.seat.place in
    let at = seat_place c.args.seat conns
    (ap (λ (l : Clients). position (has_number n) l.next) c.self.view_is ∙ c.requires.seat) in
    (staged_is n conns i at
    (with_entry (message_entry c.args.id c.args.sub c.args.mode c.args.line.now c.args.body.now))
    c.self.inside.places.items c.stage_message_at.new.conns.items c.self.invariant
    c.in_ok-stage_message_at.ensures.ok).next
    ∙ ap (λ (l : Clients).
    clients_with_change (with_entry (message_entry c.args.id c.args.sub c.args.mode c.args.line.now c.args.body.now)) n
    l.next)
    c.self.view_is
