use Rattle.std.proofs.Common.{◌-◌}
use Rattle.mesh_pipe.specs.PipeServing.{queues_in}
use Rattle.mesh_pipe.proofs.Server.Working.{IsClaiming}
use Rattle.mesh_pipe.proofs.pipe_server.claim_and_end.Given as goal

abbrev pub invariant-loop-node : goal.invariant-loop-node
invariant-loop-node g l = IsClaiming l.initial.node l.index l.node

abbrev pub decreases-loop-node : goal.decreases-loop-node
decreases-loop-node g l = queues_in l.initial.node - l.index
