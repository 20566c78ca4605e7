use Rattle.std.proofs.Common.{◌≡◌, ◌-◌, List, length, take, drop, ap, ◌∙◌, arith, length-drop}
use Rattle.outbox.specs.declared.kept.Kept.{Kept}
use Rattle.outbox.specs.Kept.{copied_of, written_in, Queued}
use Rattle.outbox.specs.Views.{size_of}
use Rattle.outbox.proofs.Seen.{copied_parts, length_seen, seen_but_first}
use Rattle.outbox.proofs.entry_queue.EntryQueue.drop_first.Goals as goal

pub drop_front-requires : goal.drop_front-requires
drop_front-requires c =
    let first = c.pop_first-all.ensures.copied in
    let all : copied_of c.self.inside.kept.items ≡ length c.self.inside.text = c.self.invariant in
    let parts = copied_parts c.self.inside.kept.items 1 in
    omega (arith, first, all, parts)

pub invariant_of-self : goal.invariant_of-self
invariant_of-self c =
    let kept = c.self.inside.kept.items in
    let text = c.self.inside.text in
    let rest = ap copied_of c.pop_first-all.ensures.rest in
    let first = c.pop_first-all.ensures.copied in
    let all : copied_of kept ≡ length text = c.self.invariant in
    let parts = copied_parts kept 1 in
    let cut = ap length c.drop_front.ensures ∙ length-drop c.pop_first-all.result.1 text in
    omega (arith, rest, first, all, parts, cut)

pub returns-clause-rest : goal.returns-clause-rest
returns-clause-rest c =
    let kept = c.self.inside.kept.items in
    let text = c.self.inside.text in
    ap (λ (ks : List Kept). written_in ks c.drop_front.new.self) c.pop_first-all.ensures.rest
    ∙ ap (written_in (drop 1 kept)) c.drop_front.ensures
    ∙ seen_but_first kept text c.pop_first-all.result.1 c.pop_first-all.ensures.copied
    ∙ ap (λ (q : Queued). drop 1 q.entries) c.self.view_is

pub returns-clause-place : goal.returns-clause-place
returns-clause-place c = λ was.
    let seen = length_seen c.self.inside.kept.items c.self.inside.text in
    let left = length_seen c.pop_first-all.new.self.items c.drop_front.new.self in
    let entries = ap (λ (q : Queued). length q.entries) c.self.view_is in
    let places = ap (λ (q : Queued). q.places) c.self.view_is in
    let kept = c.pop_first-all.ensures.place (omega (arith, seen, entries, places, was)) in
    omega (arith, left, kept)

pub returns-clause-bytes : goal.returns-clause-bytes
returns-clause-bytes c =
    let all : copied_of c.self.inside.kept.items ≡ length c.self.inside.text = c.self.invariant in
    c.saturating_sub.ensures
    ∙ ap (λ n. c.args.bytes.now - n)
    (c.pop_first-all.ensures.all c.self.inside.text (omega (arith, all))
    ∙ ap (λ (q : Queued). size_of (take 1 q.entries)) c.self.view_is)
