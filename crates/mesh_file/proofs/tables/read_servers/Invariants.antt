use Rattle.std.proofs.Common.{take, map, All}
use Rattle.toml.specs.View.{view}
use Rattle.mesh_file.specs.Mesh.{AreServers}
use Rattle.mesh_file.specs.Servers.{IsServer}
use Rattle.mesh_file.proofs.tables.read_servers.Given as goal

abbrev pub invariant-loop-at : goal.invariant-loop-at
invariant-loop-at l = record {
  read : AreServers (take l.at (map view l.entries)) l.servers.items;
  valid : All IsServer l.servers.items;
}
