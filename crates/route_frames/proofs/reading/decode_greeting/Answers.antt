use Rattle.route_frames.proofs.Refused.Answered.{greeting_told}
use Rattle.route_frames.proofs.reading.decode_greeting.Goals as goal

pub returns : goal.returns
returns c =
    greeting_told c.args.text c.in_ok-line.line c.args.payload c.into_frame.result c.joined_frame.result
    c.in_ok-line.ensures c.joined_frame.ensures c.into_frame.ensures.means
