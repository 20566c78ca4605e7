use Rattle.shard_core.proofs.Steps.Examples.{fills_an_outbox}
use Rattle.shard_core.proofs.examples.an_outbox_is_filled.Goals as goal

pub returns : goal.returns
returns c = fills_an_outbox
