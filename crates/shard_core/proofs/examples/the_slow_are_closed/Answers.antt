use Rattle.shard_core.proofs.Steps.Examples.{closes_the_slow}
use Rattle.shard_core.proofs.examples.the_slow_are_closed.Goals as goal

pub returns : goal.returns
returns c = closes_the_slow
