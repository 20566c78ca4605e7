-- The mesh that a file describes, and why a text is no such file.
use Rattle.std.specs.Prelude.{◌≡◌, ℕ, ℤ, pos, negsuc, ◌+◌, ◌<◌, ◌≤◌, ◌⊎◌, ◌&&◌, true, nat_le, List, [], ◌∷◌, ◌++◌, length, take, slice_get, All, codes, Option, Some, None, IsSome, if◌then◌else◌, ⊤}
use Rattle.std.specs.List.Sorted.{IsPermutation}
use Rattle.arrayvec.specs.ArrayString.{ArrayString}
use Rattle.list_laws.specs.Lists.{Along, is_empty}
use Rattle.subj.specs.QueueNames.{are_rising}
use Rattle.subj.specs.declared.failures.Failure.{Failure}
use Rattle.subj.specs.declared.failures.Failure.TheVariants.{Refused, OutOfMemory}
use Rattle.subj.specs.declared.limits.TheConstants.{MAX_NODES, MAX_SHARDS}
use Rattle.toml.specs.Data.{Data, Members, no_members, array, as_integer, as_str, as_array, as_table, get_member}
use Rattle.toml.specs.Parse.{parse_document}
use Rattle.toml.specs.View.{items_of}
use Rattle.mesh_file.specs.Entries.{IsServerIn, IsNoServer}
use Rattle.mesh_file.specs.Keys.{unknown_key, TellsUnknown}
use Rattle.mesh_file.specs.Pairs.{AllApart, IsFirstShared}
use Rattle.mesh_file.specs.Servers.{IsServer, names_of}
use Rattle.mesh_file.specs.declared.faults.MeshFault.{MeshFault}
use Rattle.mesh_file.specs.declared.faults.MeshFault.TheVariants.{Syntax, MeshNotTable, Shards, SecretFile, UnknownMeshKey, UnknownKey, ServersNotArray, ServerCount, Server, Pair}
use Rattle.mesh_file.specs.declared.faults.Pair.{Pair as SharedPair}
use Rattle.mesh_file.specs.declared.faults.ServerFault.{ServerFault}
use Rattle.mesh_file.specs.declared.tables.TableKind.TheVariants as kind
use Rattle.mesh_file.specs.declared.tables.TheConstants.{DEFAULT_SHARDS}
use Rattle.mesh_file.specs.declared.servers.MeshServer.{MeshServer}

-- ---- a mesh

pub record Mesh : Type 0 where
  pub shards : ℕ
  pub secret_file : Option (List ℕ)
  pub servers : List MeshServer

-- within the limits (profile), and the servers in strictly rising order of the bytes of their names
pub record IsMesh (mesh : Mesh) : Type 0 where
  pub first_shard : 1 ≤ mesh.shards
  pub last_shard : mesh.shards ≤ MAX_SHARDS
  pub some : 1 ≤ length mesh.servers
  pub few : length mesh.servers ≤ MAX_NODES
  pub rising : are_rising (names_of mesh.servers) ≡ true
  pub each : All IsServer mesh.servers

-- ---- the keys of `mesh`

-- it may be left out, and is then empty
abbrev pub mesh_in : Option Data → Option Members
mesh_in None = Some no_members
mesh_in (Some value) = as_table value

abbrev pub mesh_table : Members → Option Members
mesh_table file = mesh_in (get_member (codes "mesh") file)

abbrev pub shards_within : Option ℤ → Option ℕ
shards_within None = None
shards_within (Some (pos shards)) =
    if nat_le 1 shards && nat_le shards MAX_SHARDS then Some shards else None
shards_within (Some (negsuc shards)) = None

abbrev pub shards_in : Option Data → Option ℕ
shards_in None = Some DEFAULT_SHARDS
shards_in (Some value) = shards_within (as_integer value)

abbrev pub shards_of : Members → Option ℕ
shards_of table = shards_in (get_member (codes "shards") table)

abbrev pub path_in : Option (List ℕ) → Option (Option (List ℕ))
path_in None = None
path_in (Some path) = if is_empty path then None else Some (Some path)

abbrev pub secret_in : Option Data → Option (Option (List ℕ))
secret_in None = Some None
secret_in (Some value) = path_in (as_str value)

abbrev pub secret_of : Members → Option (Option (List ℕ))
secret_of table = secret_in (get_member (codes "secret_file") table)

pub record AreKeys (table : Members) (shards : ℕ) (secret_file : Option (List ℕ)) : Type 0 where
  pub shards_said : shards_of table ≡ Some shards
  pub secret_said : secret_of table ≡ Some secret_file
  pub known : unknown_key kind.Mesh table ≡ None

pub data IsKeyFault (table : Members) (fault : MeshFault) : Type 0 where
  bad_shards : shards_of table ≡ None → fault ≡ Shards → IsKeyFault table fault
  bad_secret_file : IsSome (shards_of table)
      → secret_of table ≡ None
      → fault ≡ SecretFile
      → IsKeyFault table fault
  unknown_in_mesh : IsSome (shards_of table)
      → IsSome (secret_of table)
      → (told : ArrayString)
      → TellsUnknown kind.Mesh table told.bytes
      → fault ≡ UnknownMeshKey told
      → IsKeyFault table fault

abbrev pub IsHead : Members → ℕ → Option (List ℕ) → Type 0
IsHead file shards secret_file =
    (table : Members) × (mesh_table file ≡ Some table) × AreKeys table shards secret_file

abbrev pub IsNoHead : Members → MeshFault → Type 0
IsNoHead file fault =
    ((mesh_table file ≡ None) × (fault ≡ MeshNotTable))
    ⊎ ((table : Members) × (mesh_table file ≡ Some table) × IsKeyFault table fault)

-- ---- the entries of `server`

pub record AreEntries (file : Members) (entries : List Data) : Type 0 where
  pub known : unknown_key kind.File file ≡ None
  pub listed : get_member (codes "server") file ≡ Some (array (items_of entries))
  pub some : 1 ≤ length entries
  pub few : length entries ≤ MAX_NODES

pub data IsEntriesFault (file : Members) (fault : MeshFault) : Type 0 where
  unknown_in_file : (told : ArrayString)
      → TellsUnknown kind.File file told.bytes
      → fault ≡ UnknownKey told
      → IsEntriesFault file fault
  no_entries : unknown_key kind.File file ≡ None
      → get_member (codes "server") file ≡ None
      → fault ≡ ServerCount 0
      → IsEntriesFault file fault
  no_array : unknown_key kind.File file ≡ None
      → (value : Data)
      → get_member (codes "server") file ≡ Some value
      → as_array value ≡ None
      → fault ≡ ServersNotArray
      → IsEntriesFault file fault
  bad_count : unknown_key kind.File file ≡ None
      → (entries : List Data)
      → get_member (codes "server") file ≡ Some (array (items_of entries))
      → (length entries ≡ 0) ⊎ (MAX_NODES < length entries)
      → fault ≡ ServerCount (length entries)
      → IsEntriesFault file fault

-- ---- the servers

-- the servers, and behind them that of an entry
abbrev pub AddsServer : Data → List MeshServer → List MeshServer → Type 0
AddsServer entry old new =
    (server : MeshServer) × IsServerIn entry server × IsServer server × (new ≡ old ++ server ∷ [])

-- the entry at this place, counted from 0, is the first that is no server
pub record IsFirstEntryFault (entries : List Data) (fault : MeshFault) : Type 0 where
  pub place : ℕ
  pub entry : Data
  pub cause : ServerFault
  pub before : List MeshServer
  pub servers : Along IsServerIn (take place entries) before
  pub stands : slice_get entries place ≡ Some entry
  pub no_server : IsNoServer entry cause
  pub told : fault ≡ Server (place + 1) cause

abbrev pub AreServers : List Data → List MeshServer → Type 0
AreServers entries servers = Along IsServerIn entries servers

-- the servers of the entries, in the order of their names
pub record AreOrdered (entries : List Data) (ordered : List MeshServer) : Type 0 where
  pub servers : List MeshServer
  pub read : AreServers entries servers
  pub apart : AllApart servers
  pub same : IsPermutation servers ordered
  pub rising : are_rising (names_of ordered) ≡ true

abbrev pub IsSharedFault : List MeshServer → MeshFault → Type 0
IsSharedFault servers fault = (pair : SharedPair) × IsFirstShared servers pair × (fault ≡ Pair pair)

-- the first entry that is no server, or else the first pair of servers that are not apart
abbrev pub IsServersFault : List Data → MeshFault → Type 0
IsServersFault entries fault =
    IsFirstEntryFault entries fault
    ⊎ ((servers : List MeshServer) × AreServers entries servers × IsSharedFault servers fault)

-- ---- the file

-- the file describes the mesh
pub record IsMeshOf (file : Members) (mesh : Mesh) : Type 0 where
  pub head : IsHead file mesh.shards mesh.secret_file
  pub entries : List Data
  pub listed : AreEntries file entries
  pub ordered : AreOrdered entries mesh.servers

abbrev pub HasHead : Members → Type 0
HasHead file = (shards : ℕ) × (secret_file : Option (List ℕ)) × IsHead file shards secret_file

-- the first fault: of the keys of `mesh`, of the list of servers, or of the servers
pub data IsFileFault (file : Members) (fault : MeshFault) : Type 0 where
  bad_head : IsNoHead file fault → IsFileFault file fault
  bad_entries : HasHead file → IsEntriesFault file fault → IsFileFault file fault
  bad_servers : HasHead file
      → (entries : List Data)
      → AreEntries file entries
      → IsServersFault entries fault
      → IsFileFault file fault

-- a refusal is so; want of memory says nothing
abbrev pub IsFailure : (MeshFault → Type 0) → Failure MeshFault → Type 0
IsFailure IsFault (Refused fault) = IsFault fault
IsFailure IsFault OutOfMemory = ⊤

-- the text is this table of TOML
abbrev pub IsTextOf : List ℕ → Members → Type 0
IsTextOf text file = parse_document text ≡ Some file

-- the text is no TOML, which is told with a line, or it is a table that describes no mesh
abbrev pub IsNoTable : List ℕ → MeshFault → Type 0
IsNoTable text (Syntax line cause) = parse_document text ≡ None
IsNoTable text fault = ⊥

abbrev pub IsNoMeshFile : List ℕ → MeshFault → Type 0
IsNoMeshFile text fault =
    IsNoTable text fault ⊎ ((file : Members) × IsTextOf text file × IsFileFault file fault)

abbrev pub IsMeshFile : List ℕ → Mesh → Type 0
IsMeshFile text mesh = (file : Members) × IsTextOf text file × IsMeshOf file mesh
