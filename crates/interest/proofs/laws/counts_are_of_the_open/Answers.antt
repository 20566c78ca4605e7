use Rattle.interest.proofs.Counting.Told.{counts_open}
use Rattle.interest.proofs.laws.counts_are_of_the_open.Goals as goal

pub returns : goal.returns
returns c = counts_open
