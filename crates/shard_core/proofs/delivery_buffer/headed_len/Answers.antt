use Rattle.std.proofs.Common.{sym, ap, ◌∙◌}
use Rattle.std.specs.Option.{option_copied}
use Rattle.shard_core.proofs.Clients.Forms.{one_form}
use Rattle.shard_core.proofs.delivery_buffer.headed_len.Goals as goal

pub returns-in-None : goal.returns-in-None
returns-in-None c = λ shard queue.
    c.requires.plain shard queue
    ∙ one_form shard c.args.job.now queue c.args.sub.now (sym c.headers.ensures.same ∙ ap option_copied c.in-None.is)
