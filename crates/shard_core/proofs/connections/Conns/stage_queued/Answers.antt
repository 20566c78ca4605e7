use Rattle.std.proofs.Common.{◌++◌, ap, ◌∙◌}
use Rattle.std.specs.Prelude.{position}
use Rattle.outbox.specs.Views.{spelt_entry, with_entry}
use Rattle.outbox.specs.declared.entries.Mode.TheVariants.{Queue}
use Rattle.shard_core.specs.Shards.{client_at, clients_with_change, fits, has_number}
use Rattle.shard_core.specs.Boxes.{Clients}
use Rattle.shard_core.proofs.Clients.Staging.{has_room_at, left_after, left_is, staged_is, conns_alike}
use Rattle.shard_core.proofs.Clients.Lookups.{place_within, seat_place}
use Rattle.shard_core.proofs.connections.Conns.stage_queued.Goals as goal

pub stage_queued_at-requires-clause-within : goal.stage_queued_at-requires-clause-within
stage_queued_at-requires-clause-within c =
    let conns = c.self.inside.conns.items in
    let n = c.args.seat.conn in
    place_within n conns c.args.seat.place
    (seat_place c.args.seat conns
    (ap (λ (l : Clients). position (has_number n) l.next) c.self.view_is ∙ c.requires.seat))

pub stage_queued_at-requires-clause-room : goal.stage_queued_at-requires-clause-room
stage_queued_at-requires-clause-room c =
    let conns = c.self.inside.conns.items in
    let n = c.args.seat.conn in
    let i = c.args.seat.place in
    let at = seat_place c.args.seat conns
    (ap (λ (l : Clients). position (has_number n) l.next) c.self.view_is ∙ c.requires.seat) in
    has_room_at n conns i at
    (spelt_entry c.args.id c.args.sub (Queue c.args.name.now) (c.args.head.now ++ c.args.tail.now))
    (ap (λ (l : Clients).
    fits (client_at n l.next)
    (spelt_entry c.args.id c.args.sub (Queue c.args.name.now) (c.args.head.now ++ c.args.tail.now)))
    c.self.view_is ∙ c.requires.room)

pub invariant_of-self-in_err-stage_queued_at : goal.invariant_of-self-in_err-stage_queued_at
invariant_of-self-in_err-stage_queued_at c =
    let conns = c.self.inside.conns.items in
    let n = c.args.seat.conn in
    let i = c.args.seat.place in
    let at = seat_place c.args.seat conns
    (ap (λ (l : Clients). position (has_number n) l.next) c.self.view_is ∙ c.requires.seat) in
    conns_alike c.stage_queued_at.new.conns.items c.in_ok-note_staged.ensures.ok
    (left_is n conns i at c.self.inside.places.items c.stage_queued_at.new.conns.items c.self.invariant
    c.in_err-stage_queued_at.ensures.err).keeps

pub returns-in_err-stage_queued_at-clause-shown : goal.returns-in_err-stage_queued_at-clause-shown
returns-in_err-stage_queued_at-clause-shown c =
    let conns = c.self.inside.conns.items in
    let n = c.args.seat.conn in
    let i = c.args.seat.place in
    let at = seat_place c.args.seat conns
    (ap (λ (l : Clients). position (has_number n) l.next) c.self.view_is ∙ c.requires.seat) in
    (left_is n conns i at c.self.inside.places.items c.stage_queued_at.new.conns.items c.self.invariant
    c.in_err-stage_queued_at.ensures.err).shown
    ∙ ap (λ (l : Clients). l.shown) c.self.view_is

pub returns-in_err-stage_queued_at-clause-err : goal.returns-in_err-stage_queued_at-clause-err
returns-in_err-stage_queued_at-clause-err c =
    let conns = c.self.inside.conns.items in
    let n = c.args.seat.conn in
    let i = c.args.seat.place in
    let at = seat_place c.args.seat conns
    (ap (λ (l : Clients). position (has_number n) l.next) c.self.view_is ∙ c.requires.seat) in
    left_after c.from_residual-in_err-stage_queued_at.result
    ((left_is n conns i at c.self.inside.places.items c.stage_queued_at.new.conns.items c.self.invariant
    c.in_err-stage_queued_at.ensures.err).next ∙ ap (λ (l : Clients). l.next) c.self.view_is)

pub invariant_of-self-2 : goal.invariant_of-self-2
invariant_of-self-2 c =
    let conns = c.self.inside.conns.items in
    let n = c.args.seat.conn in
    let i = c.args.seat.place in
    let at = seat_place c.args.seat conns
    (ap (λ (l : Clients). position (has_number n) l.next) c.self.view_is ∙ c.requires.seat) in
    conns_alike c.stage_queued_at.new.conns.items c.in_ok-note_staged.ensures.ok
    (staged_is n conns i at
    (with_entry (spelt_entry c.args.id c.args.sub (Queue c.args.name.now) (c.args.head.now ++ c.args.tail.now)))
    c.self.inside.places.items c.stage_queued_at.new.conns.items c.self.invariant
    c.in_ok-stage_queued_at.ensures.ok).keeps

pub returns-clause-shown : goal.returns-clause-shown
returns-clause-shown c =
    let conns = c.self.inside.conns.items in
    let n = c.args.seat.conn in
    let i = c.args.seat.place in
    let at = seat_place c.args.seat conns
    (ap (λ (l : Clients). position (has_number n) l.next) c.self.view_is ∙ c.requires.seat) in
    (staged_is n conns i at
    (with_entry (spelt_entry c.args.id c.args.sub (Queue c.args.name.now) (c.args.head.now ++ c.args.tail.now)))
    c.self.inside.places.items c.stage_queued_at.new.conns.items c.self.invariant
    c.in_ok-stage_queued_at.ensures.ok).shown
    ∙ ap (λ (l : Clients). l.shown) c.self.view_is

pub returns-clause-ok : goal.returns-clause-ok
returns-clause-ok c =
    let conns = c.self.inside.conns.items in
    let n = c.args.seat.conn in
    let i = c.args.seat.place in
    let at = seat_place c.args.seat conns
    (ap (λ (l : Clients). position (has_number n) l.next) c.self.view_is ∙ c.requires.seat) in
    (staged_is n conns i at
    (with_entry (spelt_entry c.args.id c.args.sub (Queue c.args.name.now) (c.args.head.now ++ c.args.tail.now)))
    c.self.inside.places.items c.stage_queued_at.new.conns.items c.self.invariant
    c.in_ok-stage_queued_at.ensures.ok).next
    ∙ ap (λ (l : Clients).
    clients_with_change
    (with_entry (spelt_entry c.args.id c.args.sub (Queue c.args.name.now) (c.args.head.now ++ c.args.tail.now))) n
    l.next)
    c.self.view_is
