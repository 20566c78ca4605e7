use Rattle.hub_core.proofs.ByExample.Computed.{hears_in_order}
use Rattle.hub_core.proofs.examples.changes_are_heard_in_order.Goals as goal

pub returns : goal.returns
returns c = hears_in_order
