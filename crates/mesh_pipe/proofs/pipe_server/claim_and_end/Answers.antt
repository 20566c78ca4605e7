use Rattle.std.proofs.Common.{ap, ◌∙◌, arith}
use Rattle.std.specs.Prelude.{is_some}
use Rattle.shard_core.specs.Shards.{State}
use Rattle.mesh_pipe.specs.PipeServing.{shard_in}
use Rattle.shard_core.specs.ShardEvents.{End}
use Rattle.shard_core.specs.ShardSteps.{shard_refusal}
use Rattle.mesh_pipe.proofs.Server.Outputs.{claimed_hand}
use Rattle.mesh_pipe.proofs.Server.Working.{claim_due, still_in_hand, claims_next, claims_all}
use Rattle.mesh_pipe.proofs.pipe_server.claim_and_end.Goals as goal

pub end-requires-clause-hand : goal.end-requires-clause-hand
end-requires-clause-hand g c =
    ap (λ (t : State). is_some t.hand) c.loop-node.invariant.shard
    ∙ ap is_some (claimed_hand c.loop-node.index (shard_in c.args.node.now))
    ∙ c.requires.hand

pub claim-requires-clause-due : goal.claim-requires-clause-due
claim-requires-clause-due g c =
    let at = c.loop-node.invariant in
    let was = still_in_hand _ c.loop-node.node c.end.new.node c.end.result c.loop-node-test.true c.end.ensures in
    (claim_due c.loop-node.index (shard_in c.args.node.now) (shard_in c.end.new.node) was.fault c.requires.hand
    c.requires.fresh (ap shard_in was.same ∙ at.shard) at.within
    (ap (λ t. shard_refusal (shard_in t) End) was.same ∙ was.why)).free

pub loop-node-smaller : goal.loop-node-smaller
loop-node-smaller g c =
    let at = c.loop-node.invariant in
    let was = still_in_hand _ c.loop-node.node c.end.new.node c.end.result c.loop-node-test.true c.end.ensures in
    let due = claim_due c.loop-node.index (shard_in c.args.node.now) (shard_in c.loop-node.node) was.fault
    c.requires.hand c.requires.fresh at.shard at.within was.why in
    let below = due.below in
    omega (arith, below)

pub loop-node-preserved : goal.loop-node-preserved
loop-node-preserved g c =
    claims_next c.args.node.now c.loop-node.node c.end.new.node c.claim.new.node c.loop-node.index c.end.result
    c.requires.hand c.requires.fresh c.loop-node.invariant c.loop-node-test.true c.end.ensures c.in_ok-claim.ensures

pub returns : goal.returns
returns g c =
    claims_all c.args.node.now c.loop-node.node c.end.new.node c.loop-node.index c.end.result c.requires.hand
    c.requires.fresh c.loop-node.invariant c.loop-node-test.false c.end.ensures
