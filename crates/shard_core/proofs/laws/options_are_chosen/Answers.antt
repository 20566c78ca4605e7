use Rattle.shard_core.proofs.Clients.Options.{options_are_chosen}
use Rattle.shard_core.proofs.laws.options_are_chosen.Goals as goal

pub returns : goal.returns
returns c = options_are_chosen
