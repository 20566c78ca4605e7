use Rattle.std.proofs.Common.{◌≡◌, drop}
use Rattle.std.specs.List.{list_any}
use Rattle.world_law.specs.State.{is_sub}
use Rattle.cluster_world.proofs.lists.is_ended.Given as goal

abbrev pub invariant-loop-other : goal.invariant-loop-other
invariant-loop-other l = list_any (is_sub l.sub) (drop l.other-index l.ended) ≡ list_any (is_sub l.sub) l.ended
