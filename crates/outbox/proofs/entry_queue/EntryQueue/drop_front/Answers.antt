use Rattle.std.proofs.Common.{◌≡◌, List, take, drop, ap, ◌∙◌, arith}
use Rattle.std.proofs.lemmas.List.{drop-drop}
use Rattle.outbox.specs.Views.{Written, size_of}
use Rattle.outbox.proofs.Seen.{size_of_more}
use Rattle.outbox.proofs.entry_queue.EntryQueue.drop_front.Goals as goal

pub loop-dropped-preserved : goal.loop-dropped-preserved
loop-dropped-preserved c =
    let entries = c.args.self.now.entries in
    let n = c.loop-dropped.dropped in
    let kept = c.loop-dropped.invariant in
    let rest = c.drop_first.ensures.rest in
    let same : size_of (take 1 c.loop-dropped.self.entries) ≡ size_of (take 1 (drop n entries)) =
    ap (λ (l : List Written). size_of (take 1 l)) kept.entries in
    let more = size_of_more entries n in
    record {
      entries = rest ∙ ap (drop 1) kept.entries ∙ drop-drop 1 n entries;
      place = λ was. c.drop_first.ensures.place (kept.place was);
      bytes = omega (arith, c.drop_first.ensures.bytes, kept.bytes);
    }
