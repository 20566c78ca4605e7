use Rattle.interest.proofs.News.Snapshots.{can_be_told}
use Rattle.interest.proofs.laws.counts_can_be_told.Goals as goal

pub returns : goal.returns
returns c = can_be_told
