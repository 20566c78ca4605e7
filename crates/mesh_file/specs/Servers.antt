-- A server, and what two of them share.
use Rattle.std.specs.Prelude.{◌≡◌, ℕ, ◌≤◌, Bool, false, List, map, None}
use Rattle.std.specs.Str.{bytes_eq}
use Rattle.std.specs.Net.Socket.{socket_port}
use Rattle.subj.specs.Names.{node_name_fault}
use Rattle.subj.specs.QueueNames.{is_before}
use Rattle.mesh_file.specs.Addresses.{is_same_clients, is_same_route, is_wildcard_host, may_clash}
use Rattle.mesh_file.specs.declared.faults.Shared.{Shared}
use Rattle.mesh_file.specs.declared.faults.Shared.TheVariants.{Name, Routes, Clients}
use Rattle.mesh_file.specs.declared.servers.MeshServer.{MeshServer}

abbrev pub shares : Shared → MeshServer → MeshServer → Bool
shares Name a b = bytes_eq a.name b.name
shares Routes a b = is_same_route a.routes b.routes
shares Clients a b = is_same_clients a.clients b.clients

-- the names of servers, in order
abbrev pub names_of : List MeshServer → List (List ℕ)
names_of servers = map (λ server. server.name) servers

abbrev pub is_before_server : MeshServer → MeshServer → Bool
is_before_server a b = is_before a.name b.name

-- what is true of each server of a mesh
pub record IsServer (server : MeshServer) : Type 0 where
  pub named : node_name_fault server.name ≡ None
  pub clients : 1 ≤ socket_port server.clients
  pub routes : 1 ≤ server.routes.port
  pub reached : is_wildcard_host server.routes.host ≡ false
  pub apart : may_clash server.clients server.routes ≡ false
