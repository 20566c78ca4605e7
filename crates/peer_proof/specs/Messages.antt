-- What is authenticated. (Profile.)
use Rattle.std.specs.Prelude.{ℕ, List, ◌∷◌, ◌++◌, length, codes}
use Rattle.peer_proof.specs.declared.handshake.Role.{Role}
use Rattle.peer_proof.specs.declared.handshake.Role.TheVariants.{Dialer, Acceptor}
use Rattle.peer_proof.specs.declared.handshake.Parties.{Parties}
use Rattle.peer_proof.specs.Hmac.{hmac_of_block}

abbrev pub role_word : Role → List ℕ
role_word Dialer = codes "dialer"
role_word Acceptor = codes "acceptor"

-- how many bytes a part has, as one byte, and its bytes
abbrev pub part : List ℕ → List ℕ
part bytes = length bytes ∷ bytes

-- the role, both names and both words, each with its length
abbrev pub message_of : Role → Parties → List ℕ
message_of role parties =
    part (role_word role) ++ part parties.dialer ++ part parties.acceptor
    ++ part parties.dialer_word.0 ++ part parties.acceptor_word.0

-- the proof of the end in this role, under a secret with this block
unfoldable pub mac_of : List ℕ → Role → Parties → List ℕ
mac_of block role parties = hmac_of_block block (message_of role parties)
