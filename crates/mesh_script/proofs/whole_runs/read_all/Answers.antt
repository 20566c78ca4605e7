use Rattle.std.proofs.Common.{arith}
use Rattle.std.proofs.lemmas.Grind.{common_steps}
use Rattle.mesh_script.proofs.Reading.{on_err, read_some}
use Rattle.mesh_script.proofs.whole_runs.read_all.Goals as goal

pub returns-in_err-read_behind-clause-err : goal.returns-in_err-read_behind-clause-err
returns-in_err-read_behind-clause-err g c =
    let few = c.loop-chunk.invariant.few in
    on_err _ _ (read_some _ _ _ c.loop-chunk.bytes.items _ c.loop-chunk.invariant.consumed (grind (arith, common_steps))
    c.in_err-read_behind.ensures.err)
