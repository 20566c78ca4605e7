use Rattle.interest.proofs.Counting.Agreement.{stays_within, steps_agree, runs_agree}
use Rattle.interest.proofs.laws.counts_and_changes_agree.Goals as goal

pub returns-clause-stays : goal.returns-clause-stays
returns-clause-stays c = stays_within

pub returns-clause-step : goal.returns-clause-step
returns-clause-step c = steps_agree

pub returns-clause-run : goal.returns-clause-run
returns-clause-run c = runs_agree
