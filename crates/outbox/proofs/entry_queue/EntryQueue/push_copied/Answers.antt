use Rattle.std.proofs.Common.{◌≡◌, List, length, ◌++◌, ◌∷◌, [], ap, ◌∙◌}
use Rattle.outbox.specs.Kept.{Queued, copied_of, written_in}
use Rattle.outbox.specs.declared.entries.Tag.{Tag}
use Rattle.outbox.specs.declared.kept.Kept.{Kept}
use Rattle.outbox.specs.declared.kept.Kept.TheVariants.{Copied}
use Rattle.outbox.proofs.Seen.{put_copied}
use Rattle.outbox.proofs.entry_queue.EntryQueue.push_copied.Goals as goal

pub invariant_of-self-2 : goal.invariant_of-self-2
invariant_of-self-2 c =
    let entry = c.args.entry in
    let was = c.reserve_two.new.self.items in
    let same : copied_of was ≡ length c.self.inside.text =
    ap copied_of c.reserve_two.ensures.items ∙ c.self.invariant in
    let kept : c.push_copied.new.self.items ≡ was ++ Copied entry.tag c.args.len ∷ [] =
    c.push_copied.ensures.items ∙ ap (λ (tag : Tag). was ++ Copied tag c.args.len ∷ []) c.into_tag.ensures in
    (put_copied _ _ _ _ entry c.args.len same kept c.in_ok-push_entry.ensures.ok c.requires).0

pub returns-clause-ok : goal.returns-clause-ok
returns-clause-ok c =
    let entry = c.args.entry in
    let was = c.reserve_two.new.self.items in
    let same : copied_of was ≡ length c.self.inside.text =
    ap copied_of c.reserve_two.ensures.items ∙ c.self.invariant in
    let kept : c.push_copied.new.self.items ≡ was ++ Copied entry.tag c.args.len ∷ [] =
    c.push_copied.ensures.items ∙ ap (λ (tag : Tag). was ++ Copied tag c.args.len ∷ []) c.into_tag.ensures in
    (put_copied _ _ _ _ entry c.args.len same kept c.in_ok-push_entry.ensures.ok c.requires).1
    ∙ ap (λ (ks : List Kept). written_in ks c.self.inside.text ++ entry ∷ []) c.reserve_two.ensures.items
    ∙ ap (λ (q : Queued). q.entries ++ entry ∷ []) c.self.view_is
