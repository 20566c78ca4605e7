use Rattle.std.proofs.Common.{◌≡◌, ℕ, ◌++◌, ◌∷◌, [], List, length, ap, ◌∙◌}
use Rattle.outbox.specs.Views.{Tail}
use Rattle.outbox.specs.declared.run_tails.TailMark.{TailMark}
use Rattle.outbox.proofs.Runs.{push_tail}
use Rattle.outbox.proofs.run_tails.RunTails.push.Goals as goal

pub invariant_of-self-2 : goal.invariant_of-self-2
invariant_of-self-2 c =
    let mark : TailMark = record { id = c.args.id; len = length c.args.tail.now } in
    let head = c.self.inside.head.items in
    let text = c.self.inside.text.items in
    let tail = c.args.tail.now in
    let grows = c.push_reserved.ensures.items ∙ ap (λ (ms : List TailMark). ms ++ mark ∷ []) c.reserve.ensures.items in
    let head_put : c.append_reserved.new.out.items ≡ text ++ head =
    c.append_reserved.ensures.items ∙ ap (λ (l : List ℕ). l ++ c.deref.result.now) c.reserve-2.ensures.items
    ∙ ap (λ (l : List ℕ). text ++ l) c.deref.ensures.value in
    let puts = c.append_reserved-2.ensures.items ∙ ap (λ (l : List ℕ). l ++ tail) head_put in
    let pushed = push_tail head text tail _ c.self.inside.marks.items _ c.args.id c.self.invariant.0 c.self.invariant.1
    grows puts in
    (pushed.0, pushed.1)

pub returns-clause-ok : goal.returns-clause-ok
returns-clause-ok c =
    let mark : TailMark = record { id = c.args.id; len = length c.args.tail.now } in
    let one : Tail = record { id = c.args.id; bytes = c.args.tail.now } in
    let head = c.self.inside.head.items in
    let text = c.self.inside.text.items in
    let tail = c.args.tail.now in
    let grows = c.push_reserved.ensures.items ∙ ap (λ (ms : List TailMark). ms ++ mark ∷ []) c.reserve.ensures.items in
    let head_put : c.append_reserved.new.out.items ≡ text ++ head =
    c.append_reserved.ensures.items ∙ ap (λ (l : List ℕ). l ++ c.deref.result.now) c.reserve-2.ensures.items
    ∙ ap (λ (l : List ℕ). text ++ l) c.deref.ensures.value in
    let puts = c.append_reserved-2.ensures.items ∙ ap (λ (l : List ℕ). l ++ tail) head_put in
    let pushed = push_tail head text tail _ c.self.inside.marks.items _ c.args.id c.self.invariant.0 c.self.invariant.1
    grows puts in
    pushed.2 ∙ ap (λ (tails : List Tail). tails ++ one ∷ []) c.self.view_is
