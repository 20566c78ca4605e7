use Rattle.std.proofs.Common.{◌≡◌, true, take}
use Rattle.std.specs.List.Sorted.{IsPermutation}
use Rattle.subj.specs.QueueNames.{are_rising}
use Rattle.mesh_file.specs.Servers.{names_of}
use Rattle.mesh_file.proofs.servers.in_order.Given as goal

abbrev pub invariant-loop-server : goal.invariant-loop-server
invariant-loop-server l = record {
  same : IsPermutation (take l.server-index l.servers) l.ordered.items;
  rising : are_rising (names_of l.ordered.items) ≡ true;
}
