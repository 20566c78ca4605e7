use Rattle.route_frames.specs.TextViews.{numbered_view}
use Rattle.route_frames.proofs.Refused.Answered.{numbered_told}
use Rattle.route_frames.proofs.reading.decode_numbered.Goals as goal

pub returns : goal.returns
returns c =
    numbered_told (numbered_view c.args.line) c.in_ok-copy.field-0 c.args.payload c.into_frame.result
    c.joined_frame.result c.in_ok-copy.ensures c.joined_frame.ensures c.into_frame.ensures.means
