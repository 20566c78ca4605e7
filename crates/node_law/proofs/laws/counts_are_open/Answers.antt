use Rattle.node_law.proofs.Interest.CountsKept.{counts_are_open}
use Rattle.node_law.proofs.laws.counts_are_open.Goals as goal

pub returns : goal.returns
returns c = counts_are_open c.openings_are_counted.ensures c.counts_and_changes_agree.ensures.stays
