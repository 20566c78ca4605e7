use Rattle.std.proofs.Common.{◌≡◌, [], ◌∷◌, ◌++◌, replicate}
use Rattle.node_parts.proofs.jobs.fill_anew.Given as goal

abbrev pub invariant-loop-made : goal.invariant-loop-made
invariant-loop-made l = l.copies.items ++ l.job ∷ [] ≡ replicate l._made l.job
