use Rattle.std.proofs.Common.{[], refl}
use Rattle.std.proofs.KnownBytes.{Consumes-nil}
use Rattle.mesh_pipe.specs.declared.faults.PipeFault.TheVariants.{OutOfMemory}
use Rattle.mesh_pipe.proofs.Text.Serves.{nothing_written, broke_off}
use Rattle.mesh_pipe.proofs.pipe.pipe_run.Goals as goal

pub returns-in_err-told-clause-text : goal.returns-in_err-told-clause-text
returns-in_err-told-clause-text g c =
    broke_off _ OutOfMemory 0 0 [] _ _ _ _ c.from_residual.ensures.1 refl (Consumes-nil _) (nothing_written _)

pub returns-in_err-server-clause-text : goal.returns-in_err-server-clause-text
returns-in_err-server-clause-text g c =
    broke_off _ OutOfMemory 0 0 [] _ _ _ _ c.from_residual-in_err-server.ensures.1 refl (Consumes-nil _)
    (nothing_written _)
