use Rattle.hub_core.proofs.ByExample.Computed.{counts_queue_names}
use Rattle.hub_core.proofs.examples.queue_names_are_counted.Goals as goal

pub returns : goal.returns
returns c = counts_queue_names
