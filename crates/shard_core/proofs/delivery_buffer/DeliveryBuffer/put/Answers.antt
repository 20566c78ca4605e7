use Rattle.std.proofs.Common.{None, sym, subst, ap, ◌∙◌}
use Rattle.shard_core.specs.Boxes.{IsStanding, form_length}
use Rattle.shard_core.specs.Shards.{client_at, fits_len, takes_headers}
use Rattle.shard_core.proofs.Turns.TallySteps.{both_ok, put_given, put_nothing, put_shut}
use Rattle.shard_core.proofs.delivery_buffer.DeliveryBuffer.put.Goals as goal

pub returns-in-Shut-clause-ok : goal.returns-in-Shut-clause-ok
returns-in-Shut-clause-ok g c =
    let is = subst (λ s. IsStanding s c.args.sub.now.conn c.due_lengths.result c.args.conns.now.next) c.in-Shut.is
    c.standing.ensures in
    put_nothing c.args.openings.now.subs c.args.job.now c.args.sub.now c.args.conns.now.next c.args.self.now is

pub shut-requires-clause-seat : goal.shut-requires-clause-seat
shut-requires-clause-seat g c =
    (subst (λ s. IsStanding s c.args.sub.now.conn c.due_lengths.result c.args.conns.now.next) c.in-Full.is
    c.standing.ensures).seat_is

pub shut-requires-clause-once : goal.shut-requires-clause-once
shut-requires-clause-once g c =
    (subst (λ s. IsStanding s c.args.sub.now.conn c.due_lengths.result c.args.conns.now.next) c.in-Full.is
    c.standing.ensures).opened

pub returns-in-Full-clause-ok : goal.returns-in-Full-clause-ok
returns-in-Full-clause-ok g c =
    let sub = c.args.sub.now in
    let next = c.args.conns.now.next in
    let is = subst (λ s. IsStanding s sub.conn c.due_lengths.result next) c.in-Full.is c.standing.ensures in
    both_ok c.shut.result
    (put_shut _ _ sub _ _ _ _ is.opened
    (sym (ap (fits_len (client_at sub.conn next))
    (c.due_lengths.ensures c.args.self.now.shard None (takes_headers sub.conn next))) ∙ is.fits))
    c.shut.ensures.conns c.shut.ensures.buffer

pub give-requires-clause-seat : goal.give-requires-clause-seat
give-requires-clause-seat g c =
    (subst (λ s. IsStanding s c.args.sub.now.conn c.due_lengths.result c.args.conns.now.next) c.in-Ready.is
    c.standing.ensures).seat_is

pub give-requires-clause-room : goal.give-requires-clause-room
give-requires-clause-room g c =
    let client = client_at c.args.sub.now.conn c.args.conns.now.next in
    let is = subst (λ s. IsStanding s c.args.sub.now.conn c.due_lengths.result c.args.conns.now.next) c.in-Ready.is
    c.standing.ensures in
    sym (ap (fits_len client) (c.due_lengths.ensures c.args.self.now.shard None c.in-Ready.seat.takes_headers))
    ∙ ap (λ b. fits_len client (form_length c.due_lengths.result b)) is.seat_is.option
    ∙ is.fits

pub returns-in-Ready-clause-ok : goal.returns-in-Ready-clause-ok
returns-in-Ready-clause-ok g c =
    let sub = c.args.sub.now in
    let client = client_at sub.conn c.args.conns.now.next in
    let option = c.in-Ready.seat.takes_headers in
    let is =
    subst (λ s. IsStanding s sub.conn c.due_lengths.result c.args.conns.now.next) c.in-Ready.is c.standing.ensures in
    both_ok c.give.result
    (put_given _ _ sub _ _ _ _ option is.opened is.seat_is.option
    (sym (ap (fits_len client) (c.due_lengths.ensures c.args.self.now.shard None option))
    ∙ ap (λ b. fits_len client (form_length c.due_lengths.result b)) is.seat_is.option ∙ is.fits))
    c.give.ensures.conns c.give.ensures.buffer
