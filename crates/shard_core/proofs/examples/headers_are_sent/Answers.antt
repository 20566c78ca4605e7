use Rattle.shard_core.proofs.Steps.Examples.{sends_headers}
use Rattle.shard_core.proofs.examples.headers_are_sent.Goals as goal

pub returns : goal.returns
returns c = sends_headers
