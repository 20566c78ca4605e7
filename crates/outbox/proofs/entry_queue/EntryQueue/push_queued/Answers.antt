use Rattle.std.proofs.Common.{◌++◌, ◌∷◌, [], sym, ap, ◌∙◌}
use Rattle.outbox.specs.Kept.{Queued}
use Rattle.outbox.specs.Views.{spelt_entry}
use Rattle.outbox.specs.declared.entries.Mode.TheVariants.{Queue}
use Rattle.outbox.proofs.Seen.{put_copied}
use Rattle.outbox.proofs.Staged.{ok_of}
use Rattle.outbox.proofs.entry_queue.EntryQueue.push_queued.Goals as goal

pub invariant_of-self-else-is_err : goal.invariant_of-self-else-is_err
invariant_of-self-else-is_err c =
    let entry = spelt_entry c.args.id c.args.sub (Queue c.args.name.now) (c.args.head.now ++ c.args.tail.now) in
    let kept =
    ok_of c.push_queued.result (sym c.is_err.ensures.value ∙ c.if-is_err.false) c.push_queued.ensures.ok in
    (put_copied _ _ _ _ entry c.in_ok-len.len c.self.invariant kept c.in_ok-len.ensures.ok c.in_ok-len.ensures.len).0

pub returns-clause-ok : goal.returns-clause-ok
returns-clause-ok c =
    let entry = spelt_entry c.args.id c.args.sub (Queue c.args.name.now) (c.args.head.now ++ c.args.tail.now) in
    let kept =
    ok_of c.push_queued.result (sym c.is_err.ensures.value ∙ c.if-is_err.false) c.push_queued.ensures.ok in
    (put_copied _ _ _ _ entry c.in_ok-len.len c.self.invariant kept c.in_ok-len.ensures.ok c.in_ok-len.ensures.len).1
    ∙ ap (λ (q : Queued). q.entries ++ entry ∷ []) c.self.view_is
