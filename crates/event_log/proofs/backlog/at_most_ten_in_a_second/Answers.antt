use Rattle.event_log.proofs.Spacing.{at_most_ten}
use Rattle.event_log.proofs.backlog.at_most_ten_in_a_second.Goals as goal

pub returns : goal.returns
returns c = at_most_ten
