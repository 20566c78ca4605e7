use Rattle.publication_runs.proofs.Readings.{reads_publication, plain_in_decimal}
use Rattle.publication_runs.proofs.laws.publication_is_read.Goals as goal

pub returns : goal.returns
returns c = record { reads = reads_publication; decimal = plain_in_decimal }
