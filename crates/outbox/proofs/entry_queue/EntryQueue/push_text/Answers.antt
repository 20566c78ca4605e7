use Rattle.std.proofs.Common.{◌≡◌, ◌++◌, ◌∷◌, [], List, length, ap, ◌∙◌}
use Rattle.outbox.specs.Kept.{Queued, copied_of, written_in}
use Rattle.outbox.specs.Views.{Written}
use Rattle.outbox.specs.Bytes.{bytes_of}
use Rattle.std.specs.Prelude.{Some}
use Rattle.outbox.specs.declared.kept.Kept.{Kept}
use Rattle.outbox.proofs.Seen.{put_copied}
use Rattle.outbox.proofs.entry_queue.EntryQueue.push_text.Goals as goal

pub invariant_of-self-2 : goal.invariant_of-self-2
invariant_of-self-2 c =
    let entry : Written = record { tag = c.args.tag; bytes = bytes_of c.args.line.now (Some c.args.payload.now) } in
    let same : copied_of c.reserve_two.new.self.items ≡ length c.self.inside.text =
    ap copied_of c.reserve_two.ensures.items ∙ c.self.invariant in
    (put_copied _ _ _ _ entry c.in_ok-len.len same c.push_copied.ensures.items c.in_ok-len.ensures.ok
    c.in_ok-len.ensures.len).0

pub returns-clause-ok : goal.returns-clause-ok
returns-clause-ok c =
    let entry : Written = record { tag = c.args.tag; bytes = bytes_of c.args.line.now (Some c.args.payload.now) } in
    let same : copied_of c.reserve_two.new.self.items ≡ length c.self.inside.text =
    ap copied_of c.reserve_two.ensures.items ∙ c.self.invariant in
    (put_copied _ _ _ _ entry c.in_ok-len.len same c.push_copied.ensures.items c.in_ok-len.ensures.ok
    c.in_ok-len.ensures.len).1
    ∙ ap (λ (ks : List Kept). written_in ks c.self.inside.text ++ entry ∷ []) c.reserve_two.ensures.items
    ∙ ap (λ (q : Queued). q.entries ++ entry ∷ []) c.self.view_is
