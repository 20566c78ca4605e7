use Rattle.std.proofs.Common.{◌≡◌, ℕ, ap, subst, ◌∙◌}
use Rattle.std.specs.Prelude.{position}
use Rattle.outbox.specs.Views.{message_run, with_entries}
use Rattle.shard_core.specs.Shards.{has_number}
use Rattle.shard_core.specs.Boxes.{Clients}
use Rattle.shard_core.specs.RunReceivers.{clients_with_entries}
use Rattle.shard_core.specs.RunSteps.{TakesRun}
use Rattle.shard_core.proofs.Clients.Staging.{left_is, staged_is, conns_alike}
use Rattle.shard_core.proofs.Clients.Lookups.{seat_place}
use Rattle.shard_core.proofs.RunClients.{takes_there}
use Rattle.shard_core.proofs.connections.Conns.stage_run.Goals as goal

pub invariant_of-self-in_err-stage_run_at : goal.invariant_of-self-in_err-stage_run_at
invariant_of-self-in_err-stage_run_at c =
    let conns = c.self.inside.conns.items in
    let seat = c.in-Some.seat in
    let n = seat.conn in
    let its : n ≡ c.args.conn = c.in-Some.ensures.some.conn_is in
    let at = seat_place seat conns
    (ap (λ (l : Clients). position (has_number n) l.next) c.self.view_is ∙ c.in-Some.ensures.some.seated) in
    conns_alike c.stage_run_at.new.conns.items c.in_ok-note_staged.ensures.ok
    (left_is n conns seat.place at c.self.inside.places.items c.stage_run_at.new.conns.items c.self.invariant
    c.in_err-stage_run_at.ensures.err).keeps

pub returns-in_err-stage_run_at-clause-shown : goal.returns-in_err-stage_run_at-clause-shown
returns-in_err-stage_run_at-clause-shown c =
    let conns = c.self.inside.conns.items in
    let seat = c.in-Some.seat in
    let n = seat.conn in
    let its : n ≡ c.args.conn = c.in-Some.ensures.some.conn_is in
    let at = seat_place seat conns
    (ap (λ (l : Clients). position (has_number n) l.next) c.self.view_is ∙ c.in-Some.ensures.some.seated) in
    (left_is n conns seat.place at c.self.inside.places.items c.stage_run_at.new.conns.items c.self.invariant
    c.in_err-stage_run_at.ensures.err).shown
    ∙ ap (λ (l : Clients). l.shown) c.self.view_is

pub invariant_of-self-2 : goal.invariant_of-self-2
invariant_of-self-2 c =
    let conns = c.self.inside.conns.items in
    let seat = c.in-Some.seat in
    let n = seat.conn in
    let its : n ≡ c.args.conn = c.in-Some.ensures.some.conn_is in
    let at = seat_place seat conns
    (ap (λ (l : Clients). position (has_number n) l.next) c.self.view_is ∙ c.in-Some.ensures.some.seated) in
    conns_alike c.stage_run_at.new.conns.items c.in_ok-note_staged.ensures.ok
    (staged_is n conns seat.place at (with_entries (message_run c.args.sub c.args.head.now c.args.tails.now))
    c.self.inside.places.items c.stage_run_at.new.conns.items c.self.invariant c.in_ok-stage_run_at.ensures.ok).keeps

pub returns-clause-shown : goal.returns-clause-shown
returns-clause-shown c =
    let conns = c.self.inside.conns.items in
    let seat = c.in-Some.seat in
    let n = seat.conn in
    let its : n ≡ c.args.conn = c.in-Some.ensures.some.conn_is in
    let at = seat_place seat conns
    (ap (λ (l : Clients). position (has_number n) l.next) c.self.view_is ∙ c.in-Some.ensures.some.seated) in
    (staged_is n conns seat.place at (with_entries (message_run c.args.sub c.args.head.now c.args.tails.now))
    c.self.inside.places.items c.stage_run_at.new.conns.items c.self.invariant c.in_ok-stage_run_at.ensures.ok).shown
    ∙ ap (λ (l : Clients). l.shown) c.self.view_is

pub returns-clause-takes : goal.returns-clause-takes
returns-clause-takes c _ =
    let conns = c.self.inside.conns.items in
    let seat = c.in-Some.seat in
    let n = seat.conn in
    let its : n ≡ c.args.conn = c.in-Some.ensures.some.conn_is in
    let at = seat_place seat conns
    (ap (λ (l : Clients). position (has_number n) l.next) c.self.view_is ∙ c.in-Some.ensures.some.seated) in
    let run = message_run c.args.sub c.args.head.now c.args.tails.now in
    subst (λ (k : ℕ). TakesRun run k c.args.self.now.shown c.args.self.now.next) its
    (subst (λ (l : Clients). TakesRun run n l.shown l.next) c.self.view_is
    (takes_there n conns seat.place run at (c.takes_run_at.ensures c.if-not-takes_run_at.false)))

pub returns-clause-put : goal.returns-clause-put
returns-clause-put c _ =
    let conns = c.self.inside.conns.items in
    let seat = c.in-Some.seat in
    let n = seat.conn in
    let its : n ≡ c.args.conn = c.in-Some.ensures.some.conn_is in
    let at = seat_place seat conns
    (ap (λ (l : Clients). position (has_number n) l.next) c.self.view_is ∙ c.in-Some.ensures.some.seated) in
    let run = message_run c.args.sub c.args.head.now c.args.tails.now in
    (staged_is n conns seat.place at (with_entries (message_run c.args.sub c.args.head.now c.args.tails.now))
    c.self.inside.places.items c.stage_run_at.new.conns.items c.self.invariant c.in_ok-stage_run_at.ensures.ok).next
    ∙ ap (λ (l : Clients). clients_with_entries run n l.next) c.self.view_is
    ∙ ap (λ (k : ℕ). clients_with_entries run k c.args.self.now.next) its
