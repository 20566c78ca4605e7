use Rattle.wire_cut.proofs.ReadingLemmas.{reads_in_parts, reads_by_looks, waits_for_more}
use Rattle.client_frames.specs.Streams.{client_grammar}
use Rattle.client_frames.proofs.laws.stream_is_read_in_parts.Goals as goal

pub returns : goal.returns
returns c = record {
  parts = reads_in_parts client_grammar;
  looks = reads_by_looks client_grammar;
  waits = waits_for_more client_grammar;
}
