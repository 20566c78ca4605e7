use Rattle.std.proofs.Common.{refl, sym, subst, ap, ◌∙◌}
use Rattle.outbox.specs.Views.{with_last}
use Rattle.shard_core.specs.Boxes.{IsStanding, form_length}
use Rattle.shard_core.specs.Owed.{slow_consumer}
use Rattle.shard_core.specs.Shards.{client_at, clients_with_change, fits_len, takes_headers}
use Rattle.shard_core.specs.Tallies.{with_shut}
use Rattle.shard_core.proofs.Turns.Received.{received_given, received_shut}
use Rattle.shard_core.proofs.Turns.TallySteps.{both_ok}
use Rattle.shard_core.proofs.receiver_walk.put.Goals as goal

pub returns-in-Full-clause-ok : goal.returns-in-Full-clause-ok
returns-in-Full-clause-ok g c =
    let r = c.args.receiver.now in
    let subs = c.args.openings.now.subs in
    let next = c.args.conns.now.next in
    let t = c.args.buffer.now in
    let stands =
    subst (λ m. IsStanding c.standing.result m c.lengths_for.result next) c.conn-conn.ensures c.standing.ensures in
    let full = subst (λ s. IsStanding s r.conn c.lengths_for.result next) c.in-Full.is stands in
    both_ok c.shut.result
    (λ put noted sub is.
    received_shut subs c.args.job.now next _ t _ r sub is c.args.tails.now (takes_headers r.conn next) c.requires.tails
    refl full.opened
    (sym (ap (fits_len (client_at r.conn next)) (c.lengths_for.ensures (takes_headers r.conn next))) ∙ full.fits)
    (put ∙ ap (λ m. clients_with_change (with_last slow_consumer) m next) c.conn-conn.ensures)
    (noted ∙ ap (λ m. with_shut subs m t) c.conn-conn.ensures))
    c.shut.ensures.conns c.shut.ensures.buffer

pub returns-in-Ready-clause-ok : goal.returns-in-Ready-clause-ok
returns-in-Ready-clause-ok g c =
    let r = c.args.receiver.now in
    let next = c.args.conns.now.next in
    let client = client_at r.conn next in
    let option = c.in-Ready.seat.takes_headers in
    let stands =
    subst (λ m. IsStanding c.standing.result m c.lengths_for.result next) c.conn-conn.ensures c.standing.ensures in
    let ready = subst (λ s. IsStanding s r.conn c.lengths_for.result next) c.in-Ready.is stands in
    both_ok c.give.result
    (λ put noted sub is.
    received_given c.args.openings.now.subs c.args.job.now next _ c.args.buffer.now _ r sub is c.args.tails.now option
    c.requires.tails c.requires.copies ready.opened ready.seat_is.option
    (sym (ap (fits_len client) (c.lengths_for.ensures option))
    ∙ ap (λ b. fits_len client (form_length c.lengths_for.result b)) ready.seat_is.option ∙ ready.fits)
    put noted)
    c.give.ensures.conns c.give.ensures.buffer
