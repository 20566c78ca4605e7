use Rattle.publication_runs.proofs.Readings.{reads_run, leaves_rest, is_sample}
use Rattle.publication_runs.proofs.laws.run_is_read.Goals as goal

pub returns : goal.returns
returns c = record { reads = reads_run; leaves = leaves_rest; sample = is_sample }
