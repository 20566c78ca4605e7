use Rattle.std.proofs.Common.{subst}
use Rattle.std.proofs.lemmas.List.Sorted.{All-permutation}
use Rattle.std.specs.List.Sorted.{IsPermutation}
use Rattle.mesh_file.specs.Servers.{IsServer}
use Rattle.mesh_file.proofs.tables.ordered_servers.Goals as goal

pub returns-in-None-clause-valid : goal.returns-in-None-clause-valid
returns-in-None-clause-valid c =
    let same = subst (λ xs. IsPermutation xs c.in_ok-in_order-in-None.field-0.items) c.deref-in-None.ensures.value
    c.in_ok-in_order-in-None.ensures.same in
    All-permutation IsServer c.in_ok-servers.servers.items c.in_ok-in_order-in-None.field-0.items same
    c.in_ok-servers.ensures.valid
