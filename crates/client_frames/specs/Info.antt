-- What a server tells a client first.
use Rattle.std.specs.Prelude.{ℕ, true, List, ◌++◌, codes, decimal}
use Rattle.serde_json.specs.Data.{Data, Members, number, unsigned, string, boolean, object, member, no_members}
use Rattle.serde_json.specs.Written.{compact_text}
use Rattle.subj.specs.declared.limits.TheConstants.{MAX_PAYLOAD}
use Rattle.client_frames.specs.declared.info.InfoData.{InfoData}
use Rattle.client_frames.specs.ServerFacts.{ServerFacts}

-- the server's name, `-`, its incarnation (profile)
abbrev pub server_id : ServerFacts → List ℕ
server_id server = server.name ++ (codes "-" ++ decimal server.inc)

abbrev pub number_data : ℕ → Data
number_data n = number (unsigned n)

-- NATS documentation, "Client Protocol", "INFO"; the keys stand in the order of their bytes
-- (profile)
abbrev pub connection_members : InfoData → Members → Members
connection_members info members =
    member (codes "client_id") (number_data info.client_id) (
    member (codes "headers") (boolean true) (
    member (codes "host") (string info.server.host) (
    member (codes "max_payload") (number_data MAX_PAYLOAD) (
    member (codes "port") (number_data info.server.port) members))))

abbrev pub server_members : ServerFacts → Members
server_members server =
    member (codes "proto") (number_data 1) (
    member (codes "server_id") (string (server_id server)) (
    member (codes "server_name") (string server.name) (
    member (codes "version") (string (codes "1.0.0")) no_members)))

abbrev pub info_data : InfoData → Data
info_data info = object (connection_members info (server_members info.server))

-- as JSON without a blank
abbrev pub info_json : InfoData → List ℕ
info_json info = compact_text (info_data info)
