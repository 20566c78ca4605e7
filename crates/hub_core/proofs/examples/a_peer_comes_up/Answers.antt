use Rattle.hub_core.proofs.ByExample.Computed.{comes_up}
use Rattle.hub_core.proofs.examples.a_peer_comes_up.Goals as goal

pub returns : goal.returns
returns c = comes_up
