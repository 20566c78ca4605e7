use Rattle.std.proofs.Common.{◌≡◌, ℕ, ◌+◌, ◌-◌, ◌++◌, ◌∷◌, List, length, take, drop, sym, ap, refl, ◌∙◌, arith, length-drop, length-take-le}
use Rattle.std.proofs.lemmas.List.{drop_more}
use Rattle.outbox.specs.Tails.{marked}
use Rattle.outbox.specs.declared.run_tails.TailMark.{TailMark}
use Rattle.outbox.proofs.Runs.{marked_cons, run_step}
use Rattle.outbox.proofs.run_tails.append_each.Goals as goal

pub loop-mark-preserved : goal.loop-mark-preserved
loop-mark-preserved c =
    let marks = c.args.marks.now in
    let text = c.args.text.now in
    let head = c.args.head.now in
    let i = c.loop-mark.mark-index in
    let mark = c.mark-item.result in
    let rest = drop (i + 1) marks in
    let replaced = c.args.replaced in
    let before = c.loop-mark.end in
    let start = before + replaced in
    let end = start + mark.len in
    let kept = c.loop-mark.invariant in
    let next : drop i marks ≡ mark ∷ rest =
    drop_more marks i mark c.loop-mark-test.true ∙ ap (λ (m : TailMark). m ∷ rest) (sym c.mark-item.is) in
    let in_text = ap (marked replaced) next ∙ marked_cons replaced mark rest in
    let in_out = ap (marked (length head)) next ∙ marked_cons (length head) mark rest in
    let left = kept.left in
    let room = kept.room in
    let put_head = c.append_reserved.ensures in
    let put_tail = c.append_reserved-in-loop-mark.ensures in
    let taken : length (take (end - start) (drop start text)) ≡ mark.len =
    let behind = length-drop start text in
    length-take-le (end - start) (drop start text) (omega (arith, left, in_text, behind)) ∙ omega arith in
    let puts : c.append_reserved-in-loop-mark.new.out.items
    ≡ (c.loop-mark.out.items ++ head) ++ take (end - start) (drop start text) =
    put_tail.items ∙ ap (λ (l : List ℕ). l ++ take (end - start) (drop start text)) put_head.items in
    record {
      left = omega (arith, left, in_text);
      room = omega (arith, room, in_out, put_head.len, put_head.capacity, put_tail.len, put_tail.capacity, taken);
      put =
          run_step (drop i marks) rest mark replaced head text c.loop-mark.out.items
          c.append_reserved-in-loop-mark.new.out.items before start end next refl refl puts
          ∙ kept.put;
    }
