use Rattle.peer_proof.proofs.Meanings.{apart}
use Rattle.peer_proof.proofs.handshake.no_message_is_of_both_roles.Goals as goal

pub returns : goal.returns
returns c = apart
