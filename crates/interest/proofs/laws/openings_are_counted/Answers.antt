use Rattle.interest.proofs.Counting.Limits.{is_counting}
use Rattle.interest.proofs.laws.openings_are_counted.Goals as goal

pub returns : goal.returns
returns c = is_counting
