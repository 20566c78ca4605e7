use Rattle.std.proofs.Common.{◌≡◌, drop, take, map}
use Rattle.std.specs.Option.{option_copied}
use Rattle.cluster_world.specs.Adding.{closed_if}
use Rattle.cluster_world.specs.InCode.{life_of}
use Rattle.cluster_world.proofs.lists.close_lives.Given as goal

abbrev pub invariant-loop-i : goal.invariant-loop-i
invariant-loop-i l = record {
  rest : drop l.i l.lives ≡ drop l.i l.fn.lives;
  so_far : map life_of (take l.i l.lives)
      ≡ map (λ x. closed_if l.acted.step l.acted.node l.acted.inc (option_copied l.ended) (life_of x))
      (take l.i l.fn.lives);
}
