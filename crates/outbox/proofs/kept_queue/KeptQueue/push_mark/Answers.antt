use Rattle.std.proofs.Common.{◌≡◌, ◌++◌, ◌∷◌, [], List, length, sym, ap, ◌∙◌}
use Rattle.outbox.specs.Kept.{KeptItems, kept_of}
use Rattle.outbox.specs.declared.entries.Mode.{Mode}
use Rattle.outbox.specs.declared.entries.Tag.TheVariants.{Msg}
use Rattle.outbox.specs.declared.kept.Kept.{Kept}
use Rattle.outbox.specs.declared.kept.Kept.TheVariants.{Copied}
use Rattle.outbox.specs.declared.kept.Mark.TheVariants.{Grouped}
use Rattle.outbox.proofs.Marks.{named_anew, one_put, zero_of_test}
use Rattle.outbox.proofs.kept_queue.KeptQueue.push_mark.Goals as goal

pub returns-clause-put : goal.returns-clause-put
returns-clause-put c = λ put.
    let own = c.self.inside in
    let mode = c.take_name.new.mode in
    let mark = Grouped c.args.id c.args.sub c.args.len in
    let none : length own.others.items ≡ 0 =
    sym own.others.ok.0
    ∙ zero_of_test own.others.len (sym c.is_empty.ensures ∙ c.if-not-is_empty.false) in
    one_put mode mark own.marks.items _ own.others.items none c.push_back_reserved.ensures.items
    ∙ ap (λ (l : List Kept). l ++ kept_of mode mark ∷ [])
    (named_anew own.mode mode own.marks.items own.others.items own.marks.len c.is_empty-2.result own.marks.ok.0
    c.is_empty-2.ensures c.take_name.ensures.used)
    ∙ ap (λ (q : KeptItems). q.items ++ kept_of mode mark ∷ []) c.self.view_is
    ∙ ap (λ (m : Mode). c.args.self.now.items ++ Copied (Msg c.args.id c.args.sub m) c.args.len ∷ [])
    (c.in_ok-take_name.ensures.named c.if-not-branch.false)
