use Rattle.std.proofs.Common.{length, sym, subst}
use Rattle.node_threads.specs.AtWork.{AtWork, seen_as}
use Rattle.node_threads.specs.Turns.{IsTrying}
use Rattle.node_threads.proofs.Shards.Joining.{makes_nothing, works_nothing, works_join}
use Rattle.node_threads.proofs.Shards.Telling.{tells_nothing, tells_join}
use Rattle.node_threads.proofs.Shards.Claims.{trying_start, trying_next, trying_all}
use Rattle.node_threads.proofs.shard_state.ShardState.claim_rest.Goals as goal

pub loop-index-init : goal.loop-index-init
loop-index-init g c =
    let s = c.self.inside in
    let start = trying_start g.N.NodeName.race.shards s.next_index
    (seen_as s.shard.state s.seat.part s.lane.popped s.lane.hand s.waits) c.in-Some.job.now c.self.invariant.0
    (sym c.in-Some.ensures) in (
      works_nothing c.args.self.now c.args.self.now (makes_nothing c.args.self.now),
      subst (λ (o : AtWork). IsTrying s.next_index (length c.as_slice.result.now) o.state) c.self.view_is
          (subst (λ l. IsTrying s.next_index (length l) s.shard.state) (sym c.as_slice.ensures.same) start),
      tells_nothing c.args.self.now c.args.tape.now,
    )

pub loop-index-preserved : goal.loop-index-preserved
loop-index-preserved g c =
    let l = c.loop-index in
    let one = c.in_ok-claim.ensures.ok in (
      works_join c.args.self.now l.self c.claim.new.self l.invariant.0 one.works,
      trying_next l.index (length c.as_slice.result.now) l.self c.claim.new.self c.loop-index-test.true l.invariant.1
          one,
      tells_join c.args.self.now l.self c.claim.new.self c.args.tape.now l.tape c.claim.new.tape l.invariant.2
          c.claim.ensures.tells,
    )

pub returns-clause-all : goal.returns-clause-all
returns-clause-all g c =
    trying_all c.loop-index.index (length c.as_slice.result.now) c.loop-index.self.state c.loop-index-test.false
    c.loop-index.invariant.1

pub returns-in_err-claim-clause-tells : goal.returns-in_err-claim-clause-tells
returns-in_err-claim-clause-tells g c =
    let l = c.loop-index in
    tells_join c.args.self.now l.self c.claim.new.self c.args.tape.now l.tape c.claim.new.tape l.invariant.2
    c.claim.ensures.tells
