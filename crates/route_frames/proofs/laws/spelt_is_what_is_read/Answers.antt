use Rattle.route_frames.proofs.Spelt.Whole.{read_is_spelt, told_is_announced}
use Rattle.route_frames.proofs.Meaning.Whole.{spelt_is_read, announced_is_told}
use Rattle.route_frames.proofs.Refused.Answered.{spells_one_frame, announces_one_size}
use Rattle.route_frames.proofs.laws.spelt_is_what_is_read.Goals as goal

pub returns : goal.returns
returns c = record {
  spelt = spelt_is_read;
  read = read_is_spelt;
  announced = announced_is_told;
  told = told_is_announced;
  one_frame = spells_one_frame;
  one_size = announces_one_size;
}
