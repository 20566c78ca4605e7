-- What the definitions come to.
use Rattle.std.specs.Prelude.{◌≡◌, ◌≢◌}
use Rattle.peer_proof.specs.declared.handshake.Role.{Role}
use Rattle.peer_proof.specs.declared.handshake.Role.TheVariants.{Dialer, Acceptor}
use Rattle.peer_proof.specs.declared.handshake.Parties.{Parties}
use Rattle.peer_proof.specs.Messages.{message_of}

abbrev pub HasOneMeaning : Type 0
HasOneMeaning =
    (role other_role : Role) (parties others : Parties)
    → message_of role parties ≡ message_of other_role others
    → (role ≡ other_role) × (parties ≡ others)

abbrev pub AreApart : Type 0
AreApart = (parties others : Parties) → message_of Dialer parties ≢ message_of Acceptor others
