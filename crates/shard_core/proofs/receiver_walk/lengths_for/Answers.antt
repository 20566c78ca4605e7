use Rattle.shard_core.proofs.Clients.Forms.{both_parts}
use Rattle.shard_core.proofs.receiver_walk.lengths_for.Goals as goal

pub returns : goal.returns
returns c =
    both_parts (record { plain = c.len_for-plain.result; headed = c.len_for-headed.result }) c.args.tails.now
    c.args.receiver.now.head c.len_for-plain.ensures c.len_for-headed.ensures
