use Rattle.std.proofs.Common.{◌≡◌, ◌++◌, List, ℕ, ap, ◌∙◌, sym, refl, append_assoc}
use Rattle.peer_proof.specs.Hmac.{outer_digest, masked}
use Rattle.peer_proof.specs.declared.secret.TheConstants.{INNER_PAD}
use Rattle.peer_proof.specs.Messages.{mac_of, message_of, part, role_word}
use Rattle.peer_proof.proofs.handshake.Parties.mac.Goals as goal

-- parts that are put behind one another, one at a time
five : (block a b c d e : List ℕ) → ((((block ++ a) ++ b) ++ c) ++ d) ++ e ≡ block ++ ((((a ++ b) ++ c) ++ d) ++ e)
five block a b c d e = simp append_assoc refl

pub returns : goal.returns
unfolding mac_of
returns c =
    let made = c.finish.ensures _
    (c.put_part-5.ensures _
    (c.put_part-4.ensures _
    (c.put_part-3.ensures _ (c.put_part-2.ensures _ (c.put_part.ensures _ c.begin-hasher.ensures))))) in
    made
    ∙ rw (c.block-2.ensures, c.block.ensures, c.word.ensures.same, c.bytes.ensures.same, c.bytes-2.ensures.same)
    (ap (outer_digest c.args.secret.now)
    (five (masked INNER_PAD c.args.secret.now) (part (role_word c.args.role)) (part c.args.self.now.dialer)
    (part c.args.self.now.acceptor) (part c.args.self.now.dialer_word.0) (part c.args.self.now.acceptor_word.0)))
