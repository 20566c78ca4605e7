use Rattle.hub_core.proofs.ByExample.Computed.{weighs}
use Rattle.hub_core.proofs.examples.weights_are_units.Goals as goal

pub returns : goal.returns
returns c = weighs
