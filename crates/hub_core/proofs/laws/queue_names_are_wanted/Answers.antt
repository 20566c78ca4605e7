use Rattle.hub_core.proofs.Choices.Wanted.{names_are_wanted}
use Rattle.hub_core.proofs.laws.queue_names_are_wanted.Goals as goal

pub returns : goal.returns
returns c = names_are_wanted
