use Rattle.node_law.proofs.Sessions.PeersKept.{peers_are_kept}
use Rattle.node_law.proofs.laws.peers_are_kept.Goals as goal

pub returns : goal.returns
returns start = peers_are_kept
