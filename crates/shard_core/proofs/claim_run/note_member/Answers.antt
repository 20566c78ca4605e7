use Rattle.std.proofs.Common.{ℕ, length, refl, sym, ap, ◌∙◌, subst, arith}
use Rattle.shard_core.specs.Boxes.{IsSeatOf}
use Rattle.shard_core.specs.ClaimMembers.{most_bytes}
use Rattle.shard_core.specs.ClaimRuns.{HasRoomAt}
use Rattle.shard_core.specs.Shards.{client_at}
use Rattle.shard_core.proofs.ClaimNotes.{noted_one, of_others, passed_over}
use Rattle.shard_core.proofs.claim_run.note_member.Goals as goal

pub returns-then-not-may_get-clause-noted : goal.returns-then-not-may_get-clause-noted
returns-then-not-may_get-clause-noted c some =
    passed_over c.args.most c.args.place c.args.claims.now.first c.args.claims.now.name.now c.args.receiver.now
    c.args.conns.now.next c.args.members.now.items c.args.members.now.items
    (sym c.may_get.ensures ∙ c.if-not-may_get.true) refl

pub returns-then-not-is_named-clause-noted : goal.returns-then-not-is_named-clause-noted
returns-then-not-is_named-clause-noted c some =
    of_others c.args.most c.args.place c.args.claims.now.first c.args.claims.now.name.now c.args.receiver.now
    c.args.conns.now.next c.args.members.now.items c.args.members.now.items
    (sym c.is_plain.ensures ∙ c.if-is_plain.false) (sym c.is_named.ensures ∙ c.if-not-is_named.true) refl

pub returns-clause-noted : goal.returns-clause-noted
returns-clause-noted c some =
    let r = c.args.receiver.now in
    let clients = c.args.conns.now.next in
    let len = ap length c.head.ensures.same in
    let short = c.if-head-gt-MOST_BYTES.false in
    noted_one c.room_for_most-count.result c.args.place c.args.claims.now.first c.args.claims.now.name.now r clients
    c.args.members.now.items c.push.new.self.items
    (record { serial = c.serial.result; place = c.args.place; seat = c.in-Some.seat })
    (sym c.is_plain.ensures ∙ c.if-is_plain.false) (sym c.is_named.ensures ∙ c.if-not-is_named.false)
    (sym c.may_get.ensures ∙ c.if-not-may_get.false) (sym c.is_limited.ensures ∙ c.if-is_limited.false)
    (omega (arith, len, short)) c.serial.ensures refl
    (subst (λ (n : ℕ). IsSeatOf n c.in-Some.seat clients) c.conn.ensures c.in-Some.ensures.some)
    (subst (λ (n : ℕ). HasRoomAt c.room_for_most-count.result most_bytes (client_at n clients))
    (c.in-Some.ensures.some.conn_is ∙ c.conn.ensures) (c.room_for_most-count.ensures.room some))
    c.in_ok-push.ensures.items
