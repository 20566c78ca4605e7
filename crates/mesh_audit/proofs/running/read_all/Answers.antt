use Rattle.mesh_audit.proofs.Reading.{away, on_err}
use Rattle.mesh_audit.proofs.running.read_all.Goals as goal

pub returns-in_err-read_behind-clause-err : goal.returns-in_err-read_behind-clause-err
returns-in_err-read_behind-clause-err g c =
    on_err _ _ (away _ _ _ c.loop-read.bytes.items c.loop-read.invariant c.in_err-read_behind.ensures.err)

pub returns-clause-err : goal.returns-clause-err
returns-clause-err g c = record { bytes = c.loop-read.bytes.items; consumed = c.loop-read.invariant }
