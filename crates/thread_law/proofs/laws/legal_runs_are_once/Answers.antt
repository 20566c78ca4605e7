use Rattle.thread_law.proofs.Once.{legal_once}
use Rattle.thread_law.proofs.laws.legal_runs_are_once.Goals as goal

pub returns : goal.returns
returns start = legal_once
