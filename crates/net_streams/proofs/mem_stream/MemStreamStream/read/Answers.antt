-- What was read is the front of what was fed and not read yet.
use Rattle.std.proofs.Common.{◌≤◌, ◌∙◌, length, ap, sym, arith}
use Rattle.net_streams.proofs.MemoryLemmas.{read_front}
use Rattle.net_streams.proofs.mem_stream.MemStreamStream.read.Goals as goal

pub returns-clause-gave : goal.returns-clause-gave
returns-clause-gave c =
    let least = rw c.deref.ensures.value at c.min.ensures in
    let copied = rw c.deref.ensures.value at c.copy_from_slice.ensures.after in
    let within : c.self.inside.at ≤ length c.self.inside.input.items =
    omega (arith, c.self.inside.input.ok.0, c.self.invariant) in (
      sym (ap (λ s. s.unread) c.self.view_is ∙ ap (λ s. s.unread) c.fails.ensures.counted)
          ∙ read_front _ _ _ _ _ _ _ within least c.min-count.ensures copied,
      ap (λ s. s.written) c.self.view_is ∙ ap (λ s. s.written) c.fails.ensures.counted,
    )
