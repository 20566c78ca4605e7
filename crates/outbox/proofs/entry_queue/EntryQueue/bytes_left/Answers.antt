use Rattle.std.proofs.Common.{◌≡◌, ◌-◌, ◌<◌, ◌≤◌, length, take, ap, ◌∙◌, arith}
use Rattle.outbox.specs.Views.{size_of}
use Rattle.outbox.specs.Kept.{Queued, kept_at, copied_of, written_in}
use Rattle.outbox.proofs.Seen.{get_same, length_seen, size_next}
use Rattle.outbox.specs.declared.kept.Kept.TheVariants.{Copied}
use Rattle.outbox.specs.declared.entries.Tag.TheVariants.{Reply}
use Rattle.outbox.proofs.entry_queue.EntryQueue.bytes_left.Goals as goal

pub loop-place-preserved : goal.loop-place-preserved
loop-place-preserved c =
    let ks = c.self.inside.kept.items in
    let text = c.self.inside.text in
    let seen : length (written_in ks text) ≡ length c.args.self.now.entries =
    ap (λ (q : Queued). length q.entries) c.self.view_is in
    let count = length_seen ks text in
    let lt : c.loop-place.place < length ks = omega (arith, c.loop-place-test.true, c.requires, seen, count) in
    let kept = c.self.invariant in
    let fits : copied_of ks ≤ length text = omega (arith, kept) in
    let next = size_next ks text c.loop-place.place c.sizes-all.result.0 (kept_at ks c.loop-place.place) lt fits
    (get_same ks c.loop-place.place (Copied Reply 0) (kept_at ks c.loop-place.place) lt) c.sizes-all.ensures.all in
    omega (arith, c.saturating_sub-left.ensures, c.loop-place.invariant, next)

pub returns : goal.returns
returns c =
    let ks = c.self.inside.kept.items in
    let text = c.self.inside.text in
    let end : c.loop-place.place ≡ c.args.count = grind (arith, c.loop-place-test.false, c.loop-place.auto.place-end) in
    c.loop-place.invariant
    ∙ ap (λ n. c.args.bytes - size_of (take n (written_in ks text))) end
    ∙ ap (λ (q : Queued). c.args.bytes - size_of (take c.args.count q.entries)) c.self.view_is
