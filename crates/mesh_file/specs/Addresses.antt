-- Addresses, as texts and as what two of them share.
use Rattle.std.specs.Prelude.{◌≡◌, ◌≢◌, ℕ, ◌≤◌, ◌⊎◌, Bool, false, not, ◌&&◌, ◌||◌, nat_eq, nat_lt, nat_le, List, [], ◌∷◌, length, take, map, Option, Some, None, option_map, option_and_then, if◌then◌else◌}
use Rattle.std.specs.Char.{to_ascii_lowercase}
use Rattle.std.specs.List.{position_or_len, before_first, after_first}
use Rattle.std.specs.Str.{bytes_eq}
use Rattle.std.specs.Option.{option_map_or}
use Rattle.std.specs.Net.Addr.{ipv4_octets, ipv6_segments, low_octets}
use Rattle.std.specs.Net.Grammar.{IsSocketText, IsIpText}
use Rattle.std.specs.Net.Socket.{socket_ip, socket_port, socket_scope_id}
use Rattle.std.specs.declared.net.ip_addr.IpAddr.{IpAddr}
use Rattle.std.specs.declared.net.ip_addr.IpAddr.TheVariants.{V4, V6}
use Rattle.std.specs.declared.net.socket_addr.SocketAddr.{SocketAddr}
use Rattle.line_fields.specs.Fields.{number_of}
use Rattle.mesh_file.specs.Hosts.{is_host_name, IsHostName}
use Rattle.mesh_file.specs.declared.addresses.TheConstants.{PORT_DIGITS}
use Rattle.mesh_file.specs.declared.addresses.RouteAddress.{RouteAddress}
use Rattle.mesh_file.specs.declared.addresses.RouteHost.{RouteHost}
use Rattle.mesh_file.specs.declared.addresses.RouteHost.TheVariants.{Ip, Name}

-- ---- texts

-- an IP address, of which an IPv6 one stands in brackets and has no zone, and a port from 1
pub record IsSocket (text : List ℕ) (address : SocketAddr) : Type 0 where
  pub spelt : IsSocketText text address
  pub port : 1 ≤ socket_port address
  pub plain : socket_scope_id address ≡ 0

-- the text spells no address, or one with the port 0 or a zone
abbrev pub IsNoSocket : List ℕ → Type 0
IsNoSocket text =
    ((address : SocketAddr) → ¬ (IsSocketText text address))
    ⊎ ((address : SocketAddr) × IsSocketText text address
    × ((socket_port address ≡ 0) ⊎ (socket_scope_id address ≢ 0)))

abbrev pub is_colon : ℕ → Bool
is_colon byte = nat_eq byte 58

abbrev pub in_port_range : ℕ → Option ℕ
in_port_range number = if nat_le 1 number && nat_le number 65535 then Some number else None

-- digits that write a port from 1
abbrev pub port_of : List ℕ → Option ℕ
port_of digits = option_and_then in_port_range (number_of PORT_DIGITS digits)

-- the name of a host and a port, from what stands before the first colon and behind it
abbrev pub named_parts : List ℕ → List ℕ → Option (List ℕ × ℕ)
named_parts host digits =
    if is_host_name host then option_map (λ port. (host, port)) (port_of digits) else None

abbrev pub named_address : List ℕ → Option (List ℕ × ℕ)
named_address text =
    if nat_lt (position_or_len is_colon text) (length text)
    then named_parts (before_first is_colon text) (after_first is_colon text) else None

-- the text names this host and this port
abbrev pub IsNamed : List ℕ → RouteHost → ℕ → Type 0
IsNamed text (Ip ip) port = ⊥
IsNamed text (Name name) port = named_address text ≡ Some (name.bytes, port)

-- the text is the address of a host, by number or by name, and a port from 1
abbrev pub IsRouteTo : List ℕ → RouteHost → ℕ → Type 0
IsRouteTo text (Ip ip) port =
    (address : SocketAddr)
    × IsSocket text address
    × (socket_ip address ≡ ip)
    × (socket_port address ≡ port)
IsRouteTo text (Name name) port = named_address text ≡ Some (name.bytes, port)

abbrev pub IsRoute : List ℕ → RouteAddress → Type 0
IsRoute text route = IsRouteTo text route.host route.port

abbrev pub IsNoRoute : List ℕ → Type 0
IsNoRoute text = IsNoSocket text × (named_address text ≡ None)

-- the name of a host, or an IP address
abbrev pub IsHost : List ℕ → Type 0
IsHost text = IsHostName text ⊎ ((ip : IpAddr) × IsIpText text ip)

-- ---- what two addresses share

-- RFC 4291, 2.5.5.2: an IPv4 address in the form of an IPv6 one, as ::ffff:10.0.0.1
abbrev pub is_mapped : List ℕ → Bool
is_mapped segments = bytes_eq (take 6 segments) (0 ∷ 0 ∷ 0 ∷ 0 ∷ 0 ∷ 0xffff ∷ [])

-- the octets of an IPv4 address, in either form
abbrev pub octets_in : IpAddr → Option (List ℕ)
octets_in (V4 a) = Some (ipv4_octets a)
octets_in (V6 a) = if is_mapped (ipv6_segments a) then Some (low_octets a) else None

-- the segments of an IPv6 one
abbrev pub segments_in : IpAddr → List ℕ
segments_in (V4 a) = []
segments_in (V6 a) = ipv6_segments a

abbrev pub are_same : Option (List ℕ) → Option (List ℕ) → Bool → Bool
are_same (Some a) (Some b) otherwise = bytes_eq a b
are_same None None otherwise = otherwise
are_same (Some a) None otherwise = false
are_same None (Some b) otherwise = false

-- an IPv4 address is the same in either form
abbrev pub is_same_ip : IpAddr → IpAddr → Bool
is_same_ip a b = are_same (octets_in a) (octets_in b) (bytes_eq (segments_in a) (segments_in b))

-- it stands for all addresses of the machine
abbrev pub is_wildcard : IpAddr → Bool
is_wildcard ip =
    option_map_or (λ octets. bytes_eq octets (0 ∷ 0 ∷ 0 ∷ 0 ∷ [])) (octets_in ip)
    (bytes_eq (segments_in ip) (0 ∷ 0 ∷ 0 ∷ 0 ∷ 0 ∷ 0 ∷ 0 ∷ 0 ∷ []))

-- each machine has it for itself
abbrev pub is_loopback : IpAddr → Bool
is_loopback ip =
    option_map_or (λ octets. bytes_eq (take 1 octets) (127 ∷ [])) (octets_in ip)
    (bytes_eq (segments_in ip) (0 ∷ 0 ∷ 0 ∷ 0 ∷ 0 ∷ 0 ∷ 0 ∷ 1 ∷ []))

-- RFC 4343: the case of a name's letters is ignored
abbrev pub is_same_name : List ℕ → List ℕ → Bool
is_same_name a b = bytes_eq (map to_ascii_lowercase a) (map to_ascii_lowercase b)

abbrev pub is_same_host : RouteHost → RouteHost → Bool
is_same_host (Ip a) (Ip b) = is_same_ip a b
is_same_host (Name a) (Name b) = is_same_name a.bytes b.bytes
is_same_host (Ip a) (Name b) = false
is_same_host (Name a) (Ip b) = false

abbrev pub is_same_route : RouteAddress → RouteAddress → Bool
is_same_route a b = nat_eq a.port b.port && is_same_host a.host b.host

-- one address of one machine, and one port of it
abbrev pub is_same_clients : SocketAddr → SocketAddr → Bool
is_same_clients a b =
    nat_eq (socket_port a) (socket_port b) && is_same_ip (socket_ip a) (socket_ip b)
    && (not (is_wildcard (socket_ip a)) && not (is_loopback (socket_ip a)))

abbrev pub is_at : RouteHost → IpAddr → Bool
is_at (Ip other) ip = is_same_ip other ip
is_at (Name name) ip = false

abbrev pub is_wildcard_host : RouteHost → Bool
is_wildcard_host (Ip ip) = is_wildcard ip
is_wildcard_host (Name name) = false

-- routes want the port that clients have, at an address that is the same, or that is among all of
-- the machine
abbrev pub may_clash : SocketAddr → RouteAddress → Bool
may_clash clients routes =
    nat_eq (socket_port clients) routes.port
    && (is_wildcard (socket_ip clients) || is_at routes.host (socket_ip clients))
