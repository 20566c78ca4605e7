use Rattle.hub_core.proofs.ByExample.Computed.{splits}
use Rattle.hub_core.proofs.examples.a_publication_is_split.Goals as goal

pub returns : goal.returns
returns c = splits
