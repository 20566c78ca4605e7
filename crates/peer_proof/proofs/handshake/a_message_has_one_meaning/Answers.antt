use Rattle.peer_proof.proofs.Meanings.{one_meaning}
use Rattle.peer_proof.proofs.handshake.a_message_has_one_meaning.Goals as goal

pub returns : goal.returns
returns c = one_meaning
