-- How a program ends whose pipe has ended (profile).
use Rattle.std.specs.Prelude.{ℕ, Result, Ok, Err}
use Rattle.mesh_pipe.specs.declared.pipe.PipeEnd.{PipeEnd}
use Rattle.mesh_pipe.specs.declared.pipe.PipeEnd.TheVariants.{Ended, Closed}
use Rattle.mesh_pipe.specs.declared.faults.PipeFault.{PipeFault}

-- 0 where all was read, and else 1
abbrev pub exit_status : Result PipeEnd PipeFault → ℕ
exit_status (Ok Ended) = 0
exit_status (Ok Closed) = 1
exit_status (Err fault) = 1
