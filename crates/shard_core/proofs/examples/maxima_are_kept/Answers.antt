use Rattle.shard_core.proofs.Steps.Examples.{keeps_the_maximum}
use Rattle.shard_core.proofs.examples.maxima_are_kept.Goals as goal

pub returns : goal.returns
returns c = keeps_the_maximum
