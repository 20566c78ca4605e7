use Rattle.std.proofs.Common.{◌≡◌, ℕ, ◌<◌, false, length, get_or}
use Rattle.mesh_file.specs.Servers.{shares}
use Rattle.mesh_file.specs.declared.servers.MeshServer.{MeshServer}
use Rattle.mesh_file.proofs.servers.first_pair.Given as goal

-- no pair with an earlier first server shares it
abbrev pub invariant-loop-first : goal.invariant-loop-first
invariant-loop-first l = (i j : ℕ) (d : MeshServer) → i < j → j < length l.servers → i < l.first
    → shares l.shared (get_or l.servers i d) (get_or l.servers j d) ≡ false
