use Rattle.node_threads.proofs.Hubs.Running.{IsRunning}
use Rattle.node_threads.proofs.hub_state.HubState.issue_each.Given as goal

abbrev pub invariant-loop-count : goal.invariant-loop-count
invariant-loop-count g l =
    IsRunning g.N.NodeName.race.shards l.fn.conn l.count l.fn.queues l.fn.run l.run l.fn.self l.self
