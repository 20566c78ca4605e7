use Rattle.publication_runs.proofs.Readings.{extends_run, takes_front}
use Rattle.publication_runs.proofs.laws.run_is_found.Goals as goal

pub returns : goal.returns
returns c = record { extends = extends_run; front = takes_front }
