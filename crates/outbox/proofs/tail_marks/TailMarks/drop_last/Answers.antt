use Rattle.std.proofs.Common.{◌≡◌, ◌+◌, ◌-◌, List, length, take, drop, sym, ap, ◌∙◌, arith, length-drop}
use Rattle.std.proofs.lemmas.List.{drop-take}
use Rattle.outbox.specs.declared.run_tails.TailMark.{TailMark}
use Rattle.outbox.proofs.tail_marks.TailMarks.drop_last.Goals as goal

pub returns : goal.returns
returns c =
    let own = c.self.inside in
    let n = length c.args.self.now in
    let count : n ≡ length own.marks.items - own.gone =
    ap (λ (ms : List TailMark). length ms) (sym c.self.view_is) ∙ length-drop own.gone own.marks.items in
    let all = c.len.ensures ∙ own.marks.ok.0 in
    let left : c.len.result - 1 ≡ own.gone + (n - 1) = omega (arith, count, all, c.requires) in
    ap (drop own.gone) (c.truncate.ensures.items ∙ ap (λ k. take k own.marks.items) left)
    ∙ drop-take own.gone (n - 1) own.marks.items
    ∙ ap (take (n - 1)) c.self.view_is
