use Rattle.shard_core.proofs.Clients.Forms.{both_messages, both_some}
use Rattle.shard_core.proofs.delivery_buffer.message_lengths.Goals as goal

pub returns-clause-len : goal.returns-clause-len
returns-clause-len c = λ sid option.
    both_messages (record { plain = c.message_len-plain.result; headed = c.message_len-headed.result })
    c.args.message.now sid (c.message_len-plain.ensures.len sid) (c.message_len-headed.ensures.len sid) option

pub returns-clause-some : goal.returns-clause-some
returns-clause-some c =
    both_some (record { plain = c.message_len-plain.result; headed = c.message_len-headed.result })
    c.message_len-plain.ensures.some c.message_len-headed.ensures.some
