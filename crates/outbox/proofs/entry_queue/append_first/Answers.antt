use Rattle.std.proofs.Common.{◌≡◌, ℕ, ◌-◌, ◌<◌, ◌++◌, List, take, drop, length, sym, ap, ◌∙◌, arith, length-drop, append_assoc}
use Rattle.std.proofs.lemmas.List.{take_all}
use Rattle.outbox.specs.Views.{Written, bytes_of_all}
use Rattle.outbox.specs.declared.kept.Kept.TheVariants.{Copied}
use Rattle.outbox.specs.declared.entries.Tag.TheVariants.{Reply}
use Rattle.outbox.specs.Kept.{copied_len, kept_at, written_at, written_in}
use Rattle.outbox.proofs.Seen.{copied_parts, copied_within, copied_next, bytes_next}
use Rattle.outbox.proofs.entry_queue.append_first.Goals as goal

-- what is left of the text
left : (at : ℕ) (text : List ℕ) → take (length text - at) (drop at text) ≡ drop at text
left at text = let len = length-drop at text in take_all (length text - at) (drop at text) (omega arith)

pub slice_bounds-append_to-count : goal.slice_bounds-append_to-count
slice_bounds-append_to-count c =
    let parts = copied_parts c.args.kept.now.items c.loop-place.place in
    let at = c.loop-place.invariant.at in
    let text = c.requires.text in
    omega arith

pub slice_bounds-append_to-start : goal.slice_bounds-append_to-start
slice_bounds-append_to-start c =
    let parts = copied_parts c.args.kept.now.items c.loop-place.place in
    let at = c.loop-place.invariant.at in
    let text = c.requires.text in
    omega arith

pub append_to-requires-clause-text : goal.append_to-requires-clause-text
append_to-requires-clause-text c =
    let ks = c.args.kept.now.items in
    let i = c.loop-place.place in
    let at = c.loop-place.at in
    let text = c.args.text.now in
    let k = kept_at ks i in
    let lt : i < length ks = omega (arith, c.requires.there, c.loop-place-test.true) in
    let within = copied_within ks i (Copied Reply 0) lt in
    let len : length (take (length text - at) (drop at text)) ≡ length text - at =
    ap length (left at text) ∙ length-drop at text in
    let here = c.loop-place.invariant.at in
    let fits = c.requires.text in
    omega arith

pub overflow_add-at : goal.overflow_add-at
overflow_add-at c =
    let ks = c.args.kept.now.items in
    let i = c.loop-place.place in
    let k = kept_at ks i in
    let lt : i < length ks = omega (arith, c.requires.there, c.loop-place-test.true) in
    let within = copied_within ks i (Copied Reply 0) lt in
    let here = c.loop-place.invariant.at in
    let fits = c.requires.text in
    let len : c.in_ok-at.field-0 ≡ copied_len k = c.in_ok-at.ensures.len in
    omega arith

pub loop-place-preserved : goal.loop-place-preserved
loop-place-preserved c =
    let ks = c.args.kept.now.items in
    let i = c.loop-place.place in
    let at = c.loop-place.at in
    let text = c.args.text.now in
    let k = kept_at ks i in
    let lt : i < length ks = omega (arith, c.requires.there, c.loop-place-test.true) in
    let here = c.loop-place.invariant.at in
    let next = copied_next ks i (Copied Reply 0) lt in
    let seen_here : written_at k (take (length text - at) (drop at text)) ≡ written_at k (drop at text) =
    ap (written_at k) (left at text) in
    let len : c.in_ok-at.field-0 ≡ copied_len k = c.in_ok-at.ensures.len in
    record {
      at = omega arith;
      out =
          c.in_ok-at.ensures.ok
          ∙ ap (λ l. l ++ (written_at k (take (length text - at) (drop at text))).bytes) c.loop-place.invariant.out
          ∙ append_assoc c.args.out.now.items (bytes_of_all (take i (written_in ks text))) _
          ∙ ap (λ (e : Written). c.args.out.now.items ++ (bytes_of_all (take i (written_in ks text)) ++ e.bytes))
          seen_here
          ∙ sym (ap (λ l. c.args.out.now.items ++ l) (bytes_next ks text i at (Copied Reply 0) lt here));
    }
