use Rattle.std.proofs.Common.{rules}
use Rattle.std.specs.Prelude.{is_none}
use Rattle.node_net.specs.Telling.{ReachesAt}
use Rattle.node_net.proofs.TellingLemmas.{told_last}
use Rattle.node_net.proofs.server.Server.write_to_peer.Goals as goal

pub returns-then-not-write_some : goal.returns-then-not-write_some
returns-then-not-write_some g c =
    let reached : ReachesAt c.args.peer c.args.key c.loop-round.self.connections.table = search rules in
    told_last g.C.Hub.HubCalls.routed g.S.Stream.gave g.S.Stream.wrote (is_none c.args.self.now.loops) c.args.peer
    c.args.key c.frames_beside.result c.args.self.now.connections.table c.loop-round.self.connections.table
    c.write_some.new.self.connections.table c.loop-round.invariant reached c.write_some.ensures
