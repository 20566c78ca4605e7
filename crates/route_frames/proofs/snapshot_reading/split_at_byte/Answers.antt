use Rattle.std.proofs.Common.{sym, ◌∙◌}
use Rattle.route_frames.proofs.Cuts.Pieces.{one_piece, first_piece}
use Rattle.route_frames.proofs.snapshot_reading.split_at_byte.Goals as goal

pub returns-in_default : goal.returns-in_default
returns-in_default c = one_piece c.args.byte c.args.text.now (sym c.first_of.ensures ∙ c.in_default.is)

pub returns : goal.returns
returns c =
    first_piece c.args.byte c.args.text.now _ _ _ (sym c.first_of.ensures ∙ c.in-Some.is) c.split_at.ensures.front
    c.split_at-2.ensures.back
