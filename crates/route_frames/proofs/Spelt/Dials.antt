-- A CONNECT whose members were all read.
use Rattle.std.proofs.Common.{◌≡◌, ℕ, List, ap, ◌∙◌, Ok}
use Rattle.std.specs.Prelude.{codes}
use Rattle.std.specs.Option.{ok_or}
use Rattle.serde_json.specs.Data.{Data}
use Rattle.route_values.specs.Records.{connect_of}
use Rattle.route_frames.specs.declared.faults.RouteFault.TheVariants.{BadNumber}
use Rattle.route_frames.specs.declared.greetings.Dial.{Dial}
use Rattle.route_frames.specs.Meaning.{◌>>=◌}
use Rattle.route_frames.specs.Greetings.{dial_in, node_at, connect_in}

pub dialed : (json : Data) (dial : Dial) (server_name to : List ℕ)
    → dial_in json ≡ Ok dial
    → node_at (codes "server_name") json ≡ Ok server_name
    → node_at (codes "to") json ≡ Ok to
    → connect_in json ≡ ok_or (connect_of server_name dial.inc to dial.to_inc dial.serial) BadNumber
unfolding connect_in
dialed json dial server_name to dial_is name_is to_is =
    ap (λ read.
    read
    >>= λ dial.
    node_at (codes "server_name") json
    >>= λ server_name.
    node_at (codes "to") json >>= λ to. ok_or (connect_of server_name dial.inc to dial.to_inc dial.serial) BadNumber)
    dial_is
    ∙ ap (λ read.
    read
    >>= λ server_name.
    node_at (codes "to") json >>= λ to. ok_or (connect_of server_name dial.inc to dial.to_inc dial.serial) BadNumber)
    name_is
    ∙ ap (λ read. read >>= λ to. ok_or (connect_of server_name dial.inc to dial.to_inc dial.serial) BadNumber) to_is
