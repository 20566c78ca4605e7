use Rattle.std.proofs.Common.{take, map}
use Rattle.cluster_world.specs.InCode.{event_of, outcome_of}
use Rattle.cluster_world.specs.Value.{Ran}
use Rattle.cluster_world.proofs.world.World.make.Given as goal

abbrev pub invariant-loop-event : goal.invariant-loop-event
invariant-loop-event g l =
    Ran l.fn.self (map event_of (take l.event-index l.events)) (map outcome_of l.outcomes.items) l.self
