-- What was read is the front of the rest.
use Rattle.std.proofs.Common.{◌≤◌, ◌∙◌, length, ap, sym, arith}
use Rattle.wire_cut.proofs.MemoryLemmas.{read_front, read_end}
use Rattle.wire_cut.proofs.mem_source.MemSourceSource.read.Goals as goal

pub returns-clause-bytes : goal.returns-clause-bytes
returns-clause-bytes c =
    let least = rw c.deref.ensures.value at c.min.ensures in
    let copied = rw c.deref.ensures.value at c.copy_from_slice.ensures.after in
    let within : c.self.inside.at ≤ length c.self.inside.bytes.items =
    omega (arith, c.self.inside.bytes.ok.0, c.self.invariant.0) in (
      sym (ap (λ s. s.rest) c.self.view_is) ∙ read_front _ _ _ _ _ _ _ within least c.min-count.ensures copied,
      read_end _ _ _ _ _ _ _ within least c.min-count.ensures copied c.self.invariant.1,
    )
