use Rattle.std.proofs.Common.{rules, ◌≡◌, ℕ, ◌+◌, ◌*◌, List, length, map, sym, ap, ◌∙◌, arith}
use Rattle.outbox.specs.Tails.{marked, mark_of}
use Rattle.outbox.specs.Views.{run_text, tail_bytes}
use Rattle.outbox.proofs.Runs.{marked_size, tails_marks, text_size}
use Rattle.outbox.proofs.run_tails.RunTails.append_run.Goals as goal

pub append_reserved-requires : goal.append_reserved-requires
append_reserved-requires c =
    let own = c.self.inside.head.items in
    let text = c.self.inside.text.items in
    let head = c.args.head.now in
    let tails = c.args.self.now in
    let same : own ≡ head = search rules in
    let size : length text ≡ length own * length tails + tail_bytes tails =
    text_size own text tails (c.self.invariant.1 ∙ ap (run_text own) c.self.view_is) in
    let heads : length own * length tails ≡ length head * length tails =
    ap (λ (l : List ℕ). length l * length tails) same in
    let taken : length c.deref.result.now ≡ length text = ap length c.deref.ensures.value in
    omega (arith, size, heads, taken, c.requires)

pub append_each-requires-clause-room : goal.append_each-requires-clause-room
append_each-requires-clause-room c =
    let own = c.self.inside.head.items in
    let marks = c.self.inside.marks.items in
    let head = c.args.head.now in
    let tails = c.args.self.now in
    let seen : map mark_of tails ≡ marks =
    sym (ap (map mark_of) c.self.view_is)
    ∙ tails_marks (length own) marks c.self.inside.text.items c.self.invariant.0 in
    let taken : c.deref-2.result.now ≡ map mark_of tails = c.deref-2.ensures.value ∙ sym seen in
    let size : marked (length head) c.deref-2.result.now ≡ length head * length tails + tail_bytes tails =
    ap (marked (length head)) taken ∙ marked_size (length head) tails in
    omega (arith, size, c.requires)
