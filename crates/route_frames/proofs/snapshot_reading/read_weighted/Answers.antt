use Rattle.route_frames.proofs.Cuts.Pieces.{too_many_fields}
use Rattle.route_frames.proofs.snapshot_reading.read_weighted.Goals as goal

pub returns-in-Some-split_at_byte-2 : goal.returns-in-Some-split_at_byte-2
returns-in-Some-split_at_byte-2 c =
    too_many_fields c.args.line.now c.in-Some.pattern.now c.in-Some.behind.now c.in-Some-split_at_byte.queue.now
    c.in-Some-split_at_byte.weight.now c.in-Some-split_at_byte-2.field-0.0.now c.in-Some-split_at_byte-2.field-0.1.now
    c.in-Some.ensures c.in-Some-split_at_byte.ensures c.in-Some-split_at_byte-2.ensures
