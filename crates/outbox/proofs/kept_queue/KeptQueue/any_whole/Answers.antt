use Rattle.std.proofs.Common.{ap, sym, ◌∙◌}
use Rattle.std.specs.Prelude.{filter}
use Rattle.outbox.specs.Kept.{KeptItems, is_whole}
use Rattle.outbox.proofs.Marks.{wholes_behind}
use Rattle.outbox.proofs.kept_queue.KeptQueue.any_whole.Goals as goal

pub returns : goal.returns
returns c = λ none.
    ap (λ (q : KeptItems). filter is_whole q.items) (sym c.self.view_is)
    ∙ wholes_behind c.self.inside.mode c.self.inside.marks.items c.self.inside.others.items
    ∙ c.any_whole.ensures none
