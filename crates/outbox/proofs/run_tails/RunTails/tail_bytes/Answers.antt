use Rattle.std.proofs.Common.{◌≡◌, ◌+◌, ◌*◌, List, length, sym, ap, ◌∙◌, arith}
use Rattle.outbox.specs.Views.{Tail, run_text, tail_bytes}
use Rattle.outbox.proofs.Runs.{tails_length, text_size}
use Rattle.outbox.proofs.run_tails.RunTails.tail_bytes.Goals as goal

pub overflow_mul-result : goal.overflow_mul-result
overflow_mul-result c =
    let own = c.self.inside in
    let tails = c.args.self.now in
    let size : length own.text.items ≡ length own.head.items * length tails + tail_bytes tails =
    text_size own.head.items own.text.items tails (c.self.invariant.1 ∙ ap (run_text own.head.items) c.self.view_is) in
    let count : length tails ≡ length own.marks.items =
    sym (ap (λ (l : List Tail). length l) c.self.view_is)
    ∙ tails_length (length own.head.items) own.marks.items own.text.items in
    let text : c.len.result ≡ length own.text.items = c.len.ensures ∙ own.text.ok.0 in
    let heads : c.len-2.result * c.len-3.result ≡ length own.head.items * length tails =
    ap (λ n. n * c.len-3.result) (c.len-2.ensures ∙ own.head.ok.0)
    ∙ ap (λ n. length own.head.items * n) (c.len-3.ensures ∙ own.marks.ok.0 ∙ sym count) in
    omega (arith, size, text, heads)

pub overflow_sub-result : goal.overflow_sub-result
overflow_sub-result c =
    let own = c.self.inside in
    let tails = c.args.self.now in
    let size : length own.text.items ≡ length own.head.items * length tails + tail_bytes tails =
    text_size own.head.items own.text.items tails (c.self.invariant.1 ∙ ap (run_text own.head.items) c.self.view_is) in
    let count : length tails ≡ length own.marks.items =
    sym (ap (λ (l : List Tail). length l) c.self.view_is)
    ∙ tails_length (length own.head.items) own.marks.items own.text.items in
    let text : c.len.result ≡ length own.text.items = c.len.ensures ∙ own.text.ok.0 in
    let heads : c.len-2.result * c.len-3.result ≡ length own.head.items * length tails =
    ap (λ n. n * c.len-3.result) (c.len-2.ensures ∙ own.head.ok.0)
    ∙ ap (λ n. length own.head.items * n) (c.len-3.ensures ∙ own.marks.ok.0 ∙ sym count) in
    omega (arith, size, text, heads)

pub returns : goal.returns
returns c =
    let own = c.self.inside in
    let tails = c.args.self.now in
    let size : length own.text.items ≡ length own.head.items * length tails + tail_bytes tails =
    text_size own.head.items own.text.items tails (c.self.invariant.1 ∙ ap (run_text own.head.items) c.self.view_is) in
    let count : length tails ≡ length own.marks.items =
    sym (ap (λ (l : List Tail). length l) c.self.view_is)
    ∙ tails_length (length own.head.items) own.marks.items own.text.items in
    let text : c.len.result ≡ length own.text.items = c.len.ensures ∙ own.text.ok.0 in
    let heads : c.len-2.result * c.len-3.result ≡ length own.head.items * length tails =
    ap (λ n. n * c.len-3.result) (c.len-2.ensures ∙ own.head.ok.0)
    ∙ ap (λ n. length own.head.items * n) (c.len-3.ensures ∙ own.marks.ok.0 ∙ sym count) in
    omega (arith, size, text, heads)
