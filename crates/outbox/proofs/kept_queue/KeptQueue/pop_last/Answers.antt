use Rattle.std.proofs.Common.{◌++◌, ◌∷◌, [], List, map, ap, sym, ◌∙◌, arith, append_assoc}
use Rattle.outbox.specs.declared.kept.Kept.{Kept}
use Rattle.outbox.specs.Kept.{kept_of, KeptItems}
use Rattle.outbox.proofs.kept_queue.KeptQueue.pop_last.Goals as goal

pub returns-in-Some-clause-rest : goal.returns-in-Some-clause-rest
returns-in-Some-clause-rest c =
    let marks = map (kept_of c.self.inside.mode) c.self.inside.marks.items in
    let items = sym (ap (λ (q : KeptItems). q.items) c.self.view_is) in (
      c.in-Some.last,
      items
          ∙ ap (λ (ks : List Kept). marks ++ ks) c.in-Some.ensures.items
          ∙ sym (append_assoc marks c.pop_back.new.self.items (c.in-Some.last ∷ [])),
      sym c.sizes_of.ensures.copied,
    )

pub returns-in-Some-clause-places : goal.returns-in-Some-clause-places
returns-in-Some-clause-places c = λ count small was.
    let places = ap (λ (q : KeptItems). q.places) c.self.view_is in
    let room = c.pop_back.ensures.capacity in
    omega (arith, places, room, was)
