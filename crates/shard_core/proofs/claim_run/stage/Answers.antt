use Rattle.std.proofs.Common.{◌∙◌, ap}
use Rattle.std.specs.Prelude.{is_some}
use Rattle.shard_core.proofs.ClaimStage.{member_fits, never_beyond, seated, staged_at}
use Rattle.shard_core.proofs.claim_run.stage.Goals as goal

pub unreachable-requires : goal.unreachable-requires
unreachable-requires g c =
    never_beyond c.args.claims.now.first c.args.claims.now.name.now c.args.openings.now.subs c.args.conns.now.next
    c.args.buffer.now.members.items c.args.at c.index-member.result.now c.requires.opened c.requires.within
    c.index-member.ensures c.in-Some.receivers.now c.bytes.result.now c.in-Some.ensures.all
    (c.bytes.ensures.same ∙ c.subject.ensures) (is_some c.get.result) c.get.ensures.lookup.0
    (ap is_some c.in_default-get.is)

pub stage_queued-requires-clause-seat : goal.stage_queued-requires-clause-seat
stage_queued-requires-clause-seat g c =
    seated c.args.claims.now.first c.args.claims.now.name.now c.args.openings.now.subs c.args.conns.now.next
    c.args.buffer.now.members.items c.args.at c.index-member.result.now c.requires.opened c.requires.within
    c.index-member.ensures c.in-Some.receivers.now c.bytes.result.now c.in-Some.ensures.all
    (c.bytes.ensures.same ∙ c.subject.ensures)

pub stage_queued-requires-clause-room : goal.stage_queued-requires-clause-room
stage_queued-requires-clause-room g c =
    let parts = c.publication-publication in
    member_fits c.args.claims.now.first c.args.claims.now.name.now c.args.openings.now.subs c.args.conns.now.next
    c.args.buffer.now.members.items c.args.at c.index-member.result.now c.requires.opened c.requires.within
    c.index-member.ensures c.in-Some.receivers.now c.bytes.result.now c.in-Some.ensures.all
    (c.bytes.ensures.same ∙ c.subject.ensures) c.args.claims.now.shard c.args.job.now c.in-Some-get.receiver.now
    c.in-Some-get.ensures.lookup.1 c.id.result c.head-head.result.now c.head.result.now c.tail.result.now
    c.write_parts.new.self parts.result c.id.ensures c.head-head.ensures.same c.head.ensures.same c.tail.ensures.same
    c.in_ok-write_parts.ensures parts.ensures.same c.requires.valid c.requires.like.short

pub returns-clause-ok : goal.returns-clause-ok
returns-clause-ok g c =
    let parts = c.publication-publication in
    staged_at c.args.claims.now.first c.args.claims.now.name.now c.args.openings.now.subs c.args.conns.now.next
    c.args.buffer.now.members.items c.args.at c.index-member.result.now c.requires.opened c.requires.within
    c.index-member.ensures c.in-Some.receivers.now c.bytes.result.now c.in-Some.ensures.all
    (c.bytes.ensures.same ∙ c.subject.ensures) c.args.claims.now.shard c.args.job.now c.in-Some-get.receiver.now
    c.in-Some-get.ensures.lookup.1 c.id.result c.head-head.result.now c.head.result.now c.tail.result.now
    c.write_parts.new.self parts.result c.id.ensures c.head-head.ensures.same c.head.ensures.same c.tail.ensures.same
    c.in_ok-write_parts.ensures parts.ensures.same c.stage_queued.new.self.next c.in_ok-stage_queued.ensures.ok
