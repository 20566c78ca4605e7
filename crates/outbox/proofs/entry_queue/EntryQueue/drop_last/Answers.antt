use Rattle.std.proofs.Common.{◌≡◌, ℕ, ◌+◌, ◌-◌, ◌∷◌, [], List, length, take, ap, sym, ◌∙◌, arith, length-take-le}
use Rattle.outbox.specs.declared.kept.Kept.{Kept}
use Rattle.outbox.specs.Kept.{copied_of, copied_len, written_in, Queued}
use Rattle.outbox.proofs.Seen.{copied_behind, length_seen, seen_but_last}
use Rattle.outbox.proofs.entry_queue.EntryQueue.drop_last.Goals as goal

pub overflow_sub-left : goal.overflow_sub-left
overflow_sub-left c =
    let popped = c.pop_last-copied.ensures.rest in
    let kept = c.pop_last-copied.new.self.items in
    let both : copied_of c.self.inside.kept.items ≡ copied_of kept + copied_of (popped.0 ∷ []) =
    ap copied_of popped.1 ∙ copied_behind kept (popped.0 ∷ []) in
    let len : copied_len popped.0 ≡ c.pop_last-copied.result = popped.2 in
    let all : copied_of c.self.inside.kept.items ≡ length c.self.inside.text = c.self.invariant in
    let text : length c.as_slice.result.now ≡ length c.self.inside.text = ap length c.as_slice.ensures in
    omega arith

pub invariant_of-self : goal.invariant_of-self
invariant_of-self c =
    let popped = c.pop_last-copied.ensures.rest in
    let kept = c.pop_last-copied.new.self.items in
    let both : copied_of c.self.inside.kept.items ≡ copied_of kept + copied_of (popped.0 ∷ []) =
    ap copied_of popped.1 ∙ copied_behind kept (popped.0 ∷ []) in
    let len : copied_len popped.0 ≡ c.pop_last-copied.result = popped.2 in
    let all : copied_of c.self.inside.kept.items ≡ length c.self.inside.text = c.self.invariant in
    let text : length c.as_slice.result.now ≡ length c.self.inside.text = ap length c.as_slice.ensures in
    let left = length c.as_slice.result.now - c.pop_last-copied.result in
    let cut : length c.truncate.new.self ≡ left =
    ap length c.truncate.ensures ∙ length-take-le left c.self.inside.text (omega arith) in
    ◌∙◌ {A = ℕ} (omega arith) (sym cut)

pub returns-clause-entries : goal.returns-clause-entries
returns-clause-entries c =
    let popped = c.pop_last-copied.ensures.rest in
    let kept = c.pop_last-copied.new.self.items in
    let both : copied_of c.self.inside.kept.items ≡ copied_of kept + copied_of (popped.0 ∷ []) =
    ap copied_of popped.1 ∙ copied_behind kept (popped.0 ∷ []) in
    let len : copied_len popped.0 ≡ c.pop_last-copied.result = popped.2 in
    let all : copied_of c.self.inside.kept.items ≡ length c.self.inside.text = c.self.invariant in
    let text : length c.as_slice.result.now ≡ length c.self.inside.text = ap length c.as_slice.ensures in
    let left = length c.as_slice.result.now - c.pop_last-copied.result in
    let cut : written_in kept c.truncate.new.self ≡ written_in kept (take left c.self.inside.text) =
    ap (written_in kept) c.truncate.ensures in
    let but_last = seen_but_last kept popped.0 c.self.inside.text left (omega arith) (omega arith) in
    let back = ap
    (λ (ks : List Kept). take (length (written_in ks c.self.inside.text) - 1) (written_in ks c.self.inside.text))
    (sym popped.1) in
    cut ∙ but_last ∙ back ∙ ap (λ (q : Queued). take (length q.entries - 1) q.entries) c.self.view_is

pub returns-clause-places : goal.returns-clause-places
returns-clause-places c = λ count small was.
    let seen = length_seen c.pop_last-copied.new.self.items c.truncate.new.self in
    let places = ap (λ (q : Queued). q.places) c.self.view_is in
    c.pop_last-copied.ensures.places count (omega (arith, seen, small)) (omega (arith, places, was))
