use Rattle.std.proofs.Common.{rules, ◌≤◌, length, subst}
use Rattle.claim_cells.specs.Seats.{turns_seen}
use Rattle.shard_core.specs.ClaimRuns.{WorksClaims}
use Rattle.node_threads.specs.Turns.{claim_part}
use Rattle.node_threads.proofs.Shards.ClaimSteps.{claimed_first, may_claim_first}
use Rattle.node_threads.proofs.shard_state.work_claimed.Goals as goal

pub work_claims-requires-clause-first : goal.work_claims-requires-clause-first
work_claims-requires-clause-first g c =
    let most = c.min-most.result in
    let within : most ≤ length c.args.jobs.now = search rules in
    let seen : most ≤ turns_seen c.args.seat.now.part = search rules in
    may_claim_first c.args.jobs.now c.first.result most c.args.shard.now.state.finished c.args.seat.now.part
    c.requires.seen c.requires.finished c.requires.next within seen c.first.ensures

pub returns-clause-works : goal.returns-clause-works
returns-clause-works g c =
    let most = c.min-most.result in
    let within : most ≤ length c.args.jobs.now = search rules in
    let count = c.work_claims.result in
    let before = c.args.seat.now in
    let after = c.work_claims.new.seat in
    claimed_first c.args.jobs.now most count c.args.shard.now c.work_claims.new.self before after within c.requires.next
    c.work_claims.ensures.fixed
    (subst (λ jobs.
    WorksClaims jobs count c.args.shard.now c.work_claims.new.self (claim_part before.part) (claim_part after.part))
    c.first.ensures c.work_claims.ensures.worked)
