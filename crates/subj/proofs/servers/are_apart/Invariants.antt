use Rattle.std.proofs.Common.{◌≡◌, None, All, length}
use Rattle.subj.specs.Names.{node_name_fault}
use Rattle.subj.specs.Servers.{are_apart}
use Rattle.subj.proofs.servers.are_apart.Given as goal

-- what is left decides as the whole does, and all are names where what is left are
abbrev pub invariant-loop-name : goal.invariant-loop-name
invariant-loop-name l = record {
  decides : are_apart l.names ≡ are_apart l.fn.names;
  named : All (λ name. node_name_fault name ≡ None) l.names → All (λ name. node_name_fault name ≡ None) l.fn.names;
}

abbrev pub decreases-loop-name : goal.decreases-loop-name
decreases-loop-name l = length l.names
