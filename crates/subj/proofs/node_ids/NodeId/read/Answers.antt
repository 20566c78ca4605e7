use Rattle.std.proofs.Common.{refl, sym, ◌∙◌}
use Rattle.subj.proofs.Fits.{node_name_fits}
use Rattle.subj.proofs.Padded.{over_zeros}
use Rattle.subj.proofs.node_ids.NodeId.read.Goals as goal

pub invariant_of-result : goal.invariant_of-result
invariant_of-result c =
    let valid = sym c.fault.ensures ∙ c.in_default.is in
    over_zeros _ _ _ c.copy_from_slice.ensures.after refl (node_name_fits _ valid) valid
