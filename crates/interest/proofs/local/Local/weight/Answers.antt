use Rattle.std.proofs.Common.{◌<◌, length, subst}
use Rattle.interest.specs.Counts.{Counts}
use Rattle.interest.proofs.Counting.Entries.{counted_at}
use Rattle.interest.proofs.local.Local.weight.Goals as goal

pub returns-in-Ok-clause-most : goal.returns-in-Ok-clause-most
returns-in-Ok-clause-most c =
    let entries = c.self.inside.entries.items in
    let below : c.in-Ok.place < length entries =
    subst (λ (counts : Counts). c.in-Ok.place < length counts) c.deref.ensures.value c.in-Ok.ensures.within in
    rw c.index.ensures (counted_at entries c.in-Ok.place c.index.result.now c.self.invariant.valid below).1
