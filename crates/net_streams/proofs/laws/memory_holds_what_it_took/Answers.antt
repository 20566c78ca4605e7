use Rattle.net_streams.proofs.LifeLemmas.{holds_what_it_took}
use Rattle.net_streams.proofs.laws.memory_holds_what_it_took.Goals as goal

pub returns : goal.returns
returns c = holds_what_it_took
