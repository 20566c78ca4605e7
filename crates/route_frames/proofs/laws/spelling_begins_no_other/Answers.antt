use Rattle.route_frames.proofs.Canonical.Beginnings.{begins_no_other}
use Rattle.route_frames.proofs.laws.spelling_begins_no_other.Goals as goal

pub returns : goal.returns
returns c = begins_no_other
