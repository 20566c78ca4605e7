-- The server that a table describes, and why a table describes none.
use Rattle.std.specs.Prelude.{◌≡◌, ℕ, ◌<◌, ◌⊎◌, true, false, List, length, codes, Option, Some, None, IsSome, Result, Ok, Err}
use Rattle.std.specs.Net.Grammar.{IsIpText}
use Rattle.std.specs.declared.net.ip_addr.IpAddr.{IpAddr}
use Rattle.std.specs.declared.net.socket_addr.SocketAddr.{SocketAddr}
use Rattle.arrayvec.specs.ArrayString.{ArrayString}
use Rattle.subj.specs.Names.{node_name_fault}
use Rattle.toml.specs.Data.{Data, Members, as_str, as_table, get_member}
use Rattle.mesh_file.specs.Hosts.{is_host_name}
use Rattle.mesh_file.specs.Addresses.{IsSocket, IsNoSocket, IsRoute, IsNoRoute, IsHost, is_wildcard_host, may_clash}
use Rattle.mesh_file.specs.Keys.{unknown_key, TellsUnknown}
use Rattle.mesh_file.specs.declared.addresses.RouteAddress.{RouteAddress}
use Rattle.mesh_file.specs.declared.faults.ServerFault.{ServerFault}
use Rattle.mesh_file.specs.declared.faults.ServerFault.TheVariants.{NotTable, Value, WildcardRoutes, UnknownKey, OnePort}
use Rattle.mesh_file.specs.declared.faults.ServerKey.{ServerKey}
use Rattle.mesh_file.specs.declared.faults.ServerKey.TheVariants.{Name, Clients, Routes, Advertise}
use Rattle.mesh_file.specs.declared.faults.ValueFault.TheVariants.{Missing, NotText, BadForm}
use Rattle.subj.specs.declared.hosts.TheConstants.{MAX_HOST}
use Rattle.mesh_file.specs.declared.tables.TableKind.TheVariants as kind
use Rattle.mesh_file.specs.declared.servers.MeshServer.{MeshServer}

-- ---- the texts of keys

abbrev pub key_name : ServerKey → List ℕ
key_name Name = codes "name"
key_name Clients = codes "clients"
key_name Routes = codes "routes"
key_name Advertise = codes "advertise"

abbrev pub string_in : ServerKey → Option (List ℕ) → Result (Option (List ℕ)) ServerFault
string_in key None = Err (Value key NotText)
string_in key (Some text) = Ok (Some text)

abbrev pub text_in : ServerKey → Option Data → Result (Option (List ℕ)) ServerFault
text_in key None = Ok None
text_in key (Some value) = string_in key (as_str value)

-- the string of a key, if the key is there
abbrev pub text_of : ServerKey → Members → Result (Option (List ℕ)) ServerFault
text_of key table = text_in key (get_member (key_name key) table)

abbrev pub present : ServerKey → Option (List ℕ) → Result (List ℕ) ServerFault
present key None = Err (Value key Missing)
present key (Some text) = Ok text

abbrev pub needed_in : ServerKey
    → Result (Option (List ℕ)) ServerFault
    → Result (List ℕ) ServerFault
needed_in key (Ok text) = present key text
needed_in key (Err fault) = Err fault

-- the string of a key that has to be there
abbrev pub needed_text : ServerKey → Members → Result (List ℕ) ServerFault
needed_text key table = needed_in key (text_of key table)

-- it is not there, is no string, or is one of a bad form
abbrev pub IsRefused : ServerKey → (List ℕ → Type 0) → Members → ServerFault → Type 0
IsRefused key IsBad table fault =
    (needed_text key table ≡ Err fault)
    ⊎ ((text : List ℕ) × (needed_text key table ≡ Ok text) × IsBad text
    × (fault ≡ Value key BadForm))

-- ---- each key

abbrev pub IsName : Members → List ℕ → Type 0
IsName table name = (needed_text Name table ≡ Ok name) × (node_name_fault name ≡ None)

abbrev pub IsNoName : Members → ServerFault → Type 0
IsNoName table fault = IsRefused Name (λ text. IsSome (node_name_fault text)) table fault

abbrev pub IsClients : Members → SocketAddr → Type 0
IsClients table clients =
    (text : List ℕ) × (needed_text Clients table ≡ Ok text) × IsSocket text clients

abbrev pub IsNoClients : Members → ServerFault → Type 0
IsNoClients table fault = IsRefused Clients IsNoSocket table fault

abbrev pub IsRouteText : Members → RouteAddress → Type 0
IsRouteText table routes =
    (text : List ℕ) × (needed_text Routes table ≡ Ok text) × IsRoute text routes

-- others have to connect there, so it is no wildcard
abbrev pub IsRoutes : Members → RouteAddress → Type 0
IsRoutes table routes = IsRouteText table routes × (is_wildcard_host routes.host ≡ false)

abbrev pub IsNoRoutes : Members → ServerFault → Type 0
IsNoRoutes table fault =
    IsRefused Routes IsNoRoute table fault
    ⊎ ((routes : RouteAddress) × IsRouteText table routes × (is_wildcard_host routes.host ≡ true)
    × (fault ≡ WildcardRoutes))

-- too long, or neither a name nor an IP address
abbrev pub IsNoHost : List ℕ → Type 0
IsNoHost text =
    (MAX_HOST < length text)
    ⊎ ((is_host_name text ≡ false) × ((ip : IpAddr) → ¬ (IsIpText text ip)))

abbrev pub IsAdvertise : Members → Option ArrayString → Type 0
IsAdvertise table None = text_of Advertise table ≡ Ok None
IsAdvertise table (Some host) = (text_of Advertise table ≡ Ok (Some host.bytes)) × IsHost host.bytes

abbrev pub IsNoAdvertise : Members → ServerFault → Type 0
IsNoAdvertise table fault =
    (text_of Advertise table ≡ Err fault)
    ⊎ ((text : List ℕ) × (text_of Advertise table ≡ Ok (Some text)) × IsNoHost text
    × (fault ≡ Value Advertise BadForm))

-- ---- all keys

pub record IsRead (table : Members) (server : MeshServer) : Type 0 where
  pub name : IsName table server.name
  pub clients : IsClients table server.clients
  pub routes : IsRoutes table server.routes
  pub advertise : IsAdvertise table server.advertise

pub record IsServerOf (table : Members) (server : MeshServer) : Type 0 where
  pub keys : IsRead table server
  pub known : unknown_key kind.Server table ≡ None
  pub apart : may_clash server.clients server.routes ≡ false

abbrev pub HasName : Members → Type 0
HasName table = (name : List ℕ) × IsName table name

abbrev pub HasClients : Members → Type 0
HasClients table = (clients : SocketAddr) × IsClients table clients

abbrev pub HasRoutes : Members → Type 0
HasRoutes table = (routes : RouteAddress) × IsRoutes table routes

-- the fault is that of the first key that is at fault, in the order of the keys
pub data IsNotRead (table : Members) (fault : ServerFault) : Type 0 where
  no_name : IsNoName table fault → IsNotRead table fault
  no_clients : HasName table → IsNoClients table fault → IsNotRead table fault
  no_routes : HasName table → HasClients table → IsNoRoutes table fault → IsNotRead table fault
  no_advertise : HasName table → HasClients table → HasRoutes table → IsNoAdvertise table fault
      → IsNotRead table fault

-- then comes an unknown key, and then the ports
pub data IsFirstFault (table : Members) (fault : ServerFault) : Type 0 where
  no_key : IsNotRead table fault → IsFirstFault table fault
  unknown : (server : MeshServer)
      → IsRead table server
      → (told : ArrayString)
      → TellsUnknown kind.Server table told.bytes
      → fault ≡ UnknownKey told
      → IsFirstFault table fault
  one_port : (server : MeshServer) → IsRead table server → unknown_key kind.Server table ≡ None
      → may_clash server.clients server.routes ≡ true → fault ≡ OnePort → IsFirstFault table fault

-- ---- an entry of `server`

abbrev pub IsServerIn : Data → MeshServer → Type 0
IsServerIn entry server =
    (table : Members) × (as_table entry ≡ Some table) × IsServerOf table server

abbrev pub IsNoServer : Data → ServerFault → Type 0
IsNoServer entry fault =
    ((as_table entry ≡ None) × (fault ≡ NotTable))
    ⊎ ((table : Members) × (as_table entry ≡ Some table) × IsFirstFault table fault)
