use Rattle.node_net.proofs.TurnLemmas.{turns_are_served}
use Rattle.node_net.proofs.laws.turns_are_served.Goals as goal

pub returns : goal.returns
returns g c =
    turns_are_served g.C.Shard.ClientCalls.made g.C.Shard.ShardCalls.number g.C.ServerCalls.lacks
    g.C.Hub.HubCalls.published g.C.Hub.HubCalls.pushed
