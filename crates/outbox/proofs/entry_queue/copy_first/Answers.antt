use Rattle.std.proofs.Common.{◌≡◌, ℕ, ◌-◌, ◌<◌, ◌++◌, ◌∷◌, [], List, take, drop, length, sym, ap, ◌∙◌, arith, length-drop}
use Rattle.std.proofs.lemmas.List.{take_all}
use Rattle.outbox.specs.Views.{Written}
use Rattle.outbox.specs.declared.kept.Kept.TheVariants.{Copied}
use Rattle.outbox.specs.declared.entries.Tag.TheVariants.{Reply}
use Rattle.outbox.specs.Kept.{copied_len, kept_at, written_at, written_in}
use Rattle.outbox.proofs.Seen.{copied_parts, copied_within, copied_next, take_next}
use Rattle.outbox.proofs.entry_queue.copy_first.Goals as goal

-- what is left of the text
left : (at : ℕ) (text : List ℕ) → take (length text - at) (drop at text) ≡ drop at text
left at text = let len = length-drop at text in take_all (length text - at) (drop at text) (omega arith)

pub slice_bounds-copy_of-count : goal.slice_bounds-copy_of-count
slice_bounds-copy_of-count c =
    let parts = copied_parts c.args.kept.now.items c.loop-place.place in
    let at = c.loop-place.invariant.at in
    let text = c.requires.text in
    omega arith

pub slice_bounds-copy_of-start : goal.slice_bounds-copy_of-start
slice_bounds-copy_of-start c =
    let parts = copied_parts c.args.kept.now.items c.loop-place.place in
    let at = c.loop-place.invariant.at in
    let text = c.requires.text in
    omega arith

pub copy_of-requires-clause-text : goal.copy_of-requires-clause-text
copy_of-requires-clause-text c =
    let ks = c.args.kept.now.items in
    let i = c.loop-place.place in
    let at = c.loop-place.at in
    let text = c.args.text.now in
    let k = kept_at ks i in
    let lt : i < length ks = omega (arith, c.requires.there, c.loop-place-test.true) in
    let within = copied_within ks i (Copied Reply 0) lt in
    let len : length (take (length text - at) (drop at text)) ≡ length text - at =
    ap length (left at text) ∙ length-drop at text in
    let here = c.loop-place.invariant.at in
    let fits = c.requires.text in
    omega arith

pub overflow_add-at : goal.overflow_add-at
overflow_add-at c =
    let ks = c.args.kept.now.items in
    let i = c.loop-place.place in
    let k = kept_at ks i in
    let lt : i < length ks = omega (arith, c.requires.there, c.loop-place-test.true) in
    let within = copied_within ks i (Copied Reply 0) lt in
    let here = c.loop-place.invariant.at in
    let fits = c.requires.text in
    let len : c.in_ok-copy.copied ≡ copied_len k = c.in_ok-copy.ensures.1 in
    omega arith

pub loop-place-preserved : goal.loop-place-preserved
loop-place-preserved c =
    let ks = c.args.kept.now.items in
    let i = c.loop-place.place in
    let at = c.loop-place.at in
    let text = c.args.text.now in
    let k = kept_at ks i in
    let lt : i < length ks = omega (arith, c.requires.there, c.loop-place-test.true) in
    let here = c.loop-place.invariant.at in
    let next = copied_next ks i (Copied Reply 0) lt in
    let seen_here : written_at k (take (length text - at) (drop at text)) ≡ written_at k (drop at text) =
    ap (written_at k) (left at text) in
    let len : c.in_ok-copy.copied ≡ copied_len k = c.in_ok-copy.ensures.1 in
    record {
      at = omega arith;
      copies =
          c.in_ok-push.ensures.items
          ∙ ap (λ l. l ++ c.in_ok-copy.copy ∷ []) c.loop-place.invariant.copies
          ∙ ap (λ (e : Written). take i (written_in ks text) ++ e ∷ []) (c.in_ok-copy.ensures.0 ∙ seen_here)
          ∙ sym (take_next ks text i at (Copied Reply 0) lt here);
    }
