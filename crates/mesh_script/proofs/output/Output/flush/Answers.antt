use Rattle.std.proofs.Common.{[]}
use Rattle.mesh_script.proofs.Putting.{puts_failed, starts_longer, starts_with_front, starts_same}
use Rattle.mesh_script.proofs.output.Output.flush.Goals as goal

pub returns-in_err-write_all-clause-text : goal.returns-in_err-write_all-clause-text
returns-in_err-write_all-clause-text g c =
    let front = rw c.deref.ensures.value at c.in_err-write_all.ensures.err in
    puts_failed _ _ _ [] _ _ c.from_residual.ensures.0
    (starts_longer _ [] _ _ (starts_same _ _ _ _ c.self.view_is (starts_with_front _ _ _ front)))
