use Rattle.route_frames.proofs.Cuts.Frames.{payload_cut}
use Rattle.route_frames.proofs.Canonical.Frames.{canonical_is_spelt}
use Rattle.route_frames.proofs.Again.Routes.{are_lines, are_payloads, is_cut_again, is_announced_again, is_read_again}
use Rattle.route_frames.proofs.laws.canonical_is_read_again.Goals as goal

pub returns : goal.returns
returns c = record {
  lines = are_lines;
  line = is_cut_again;
  size = is_announced_again;
  payloads = are_payloads;
  payload = payload_cut;
  frame = is_read_again;
  spelt = canonical_is_spelt;
}
