use Rattle.std.proofs.Common.{◌≡◌, drop}
use Rattle.route_session.specs.Steps.{without_peers}
use Rattle.node_parts.proofs.side.drop_sessions.Given as goal

abbrev pub invariant-loop-peer : goal.invariant-loop-peer
invariant-loop-peer l = record {
  server : l.sessions.server ≡ l.fn.sessions.server;
  rest : without_peers (drop l.peer-index l.peers) l.sessions.state ≡ without_peers l.peers l.fn.sessions.state;
}
