use Rattle.shard_core.proofs.Clients.Forms.{both_entries}
use Rattle.shard_core.proofs.delivery_buffer.due_lengths.Goals as goal

pub returns : goal.returns
returns c = λ shard queue option.
    both_entries (record { plain = c.due_len-plain.result; headed = c.headed_len-headed.result }) shard c.args.job.now
    queue c.args.sub.now (c.due_len-plain.ensures shard queue) (c.headed_len-headed.ensures shard queue) option
