use Rattle.std.specs.Io.KnownBytes.{Consumes}
use Rattle.mesh_audit.proofs.running.read_all.Given as goal

abbrev pub invariant-loop-read : goal.invariant-loop-read
invariant-loop-read g l = Consumes (g.S.Source.remaining l.fn.source) (g.S.Source.remaining l.source) l.bytes.items
