use Rattle.route_frames.proofs.Again.Streams.{read_in_any_parts}
use Rattle.route_frames.proofs.laws.written_is_read_in_any_parts.Goals as goal

pub returns : goal.returns
returns c =
    let again = c.canonical_is_read_again.ensures in
    read_in_any_parts again.frame again.line again.size again.payloads again.payload
