use Rattle.wire_cut.proofs.ReadingLemmas.{reads_in_parts, reads_by_looks, waits_for_more}
use Rattle.wire_cut.proofs.laws.stream_is_read_in_parts.Goals as goal

pub returns : goal.returns
returns g c = record { parts = reads_in_parts; looks = reads_by_looks; waits = waits_for_more }
