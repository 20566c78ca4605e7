use Rattle.std.proofs.Common.{sym, ap, ◌∙◌, subst}
use Rattle.thread_report.specs.Owed.{Gains, by_server}
use Rattle.thread_report.proofs.Telling.{lists_told}
use Rattle.thread_report.proofs.passes.Pass.tell_lists.Goals as goal

pub returns-clause-told : goal.returns-clause-told
returns-clause-told g c = λ e answer asked said.
    let is = said ∙ lists_told answer c.args.done ∙ ap (by_server answer) (sym c.answered_by_shard.ensures.same) in
    subst (λ told. Gains c.args.keep c.args.shard e told c.args.self.now.calls c.tell.new.self.calls) is
    (c.tell.ensures e asked)
