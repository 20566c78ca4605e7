use Rattle.std.proofs.Common.{◌≡◌, ◌++◌, List, length, refl, sym, ap, ◌∙◌, arith}
use Rattle.outbox.specs.Kept.{KeptItems}
use Rattle.outbox.specs.declared.kept.Kept.{Kept}
use Rattle.outbox.specs.declared.kept.Kept.TheVariants.{Copied}
use Rattle.outbox.proofs.Fronts.{last_in_front}
use Rattle.outbox.proofs.kept_entries.KeptEntries.pop_last.Goals as goal

pub returns-clause-rest : goal.returns-clause-rest
returns-clause-rest c =
    let behind = c.self.inside.behind.items in
    let popped = c.pop_last-2.ensures in
    let last = Copied popped.0 c.pop_last-2.result in
    let none : length behind ≡ 0 = let count = c.len.ensures in omega (arith, count, c.if-len-gt0.false) in (
      last,
      sym (ap (λ (q : KeptItems). q.items) c.self.view_is)
          ∙ ap (λ (l : List Kept). l ++ behind) popped.1
          ∙ last_in_front c.pop_last-2.new.self behind last none,
      refl,
    )
