use Rattle.hub_core.proofs.ByExample.Computed.{keeps_the_window}
use Rattle.hub_core.proofs.examples.the_window_is_kept.Goals as goal

pub returns : goal.returns
returns c = keeps_the_window
