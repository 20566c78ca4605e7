use Rattle.std.proofs.Common.{◌++◌, sym, ap, ◌∙◌}
use Rattle.outbox.specs.Kept.{KeptItems, kept_run}
use Rattle.outbox.proofs.Marks.{marks_put}
use Rattle.outbox.proofs.kept_queue.KeptQueue.push_run.Goals as goal

pub returns-then-is_empty-clause-items : goal.returns-then-is_empty-clause-items
returns-then-is_empty-clause-items c =
    let others = c.self.inside.others in
    marks_put c.self.inside.mode c.self.inside.marks.items _ others.items others.len c.args.head_len c.args.sub
    c.args.tails.now others.ok.0 (sym c.is_empty.ensures ∙ c.if-is_empty.true) c.push_marks.ensures.items
    ∙ ap (λ (q : KeptItems). q.items ++ kept_run c.args.sub c.args.head_len c.args.tails.now) c.self.view_is
