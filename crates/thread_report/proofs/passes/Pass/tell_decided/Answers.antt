use Rattle.std.proofs.Common.{sym, ap, ◌∙◌}
use Rattle.thread_node.specs.Told.{told_of_shard}
use Rattle.thread_report.proofs.passes.Pass.tell_decided.Goals as goal

pub returns-clause-told : goal.returns-clause-told
returns-clause-told g c = λ e answer asked said.
    c.tell_shard.ensures.told e answer asked (said ∙ ap (told_of_shard answer) (sym c.as_answer.ensures))
