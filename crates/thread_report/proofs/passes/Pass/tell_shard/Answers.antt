use Rattle.std.proofs.Common.{sym, ap, ◌∙◌, subst}
use Rattle.std.specs.Option.{option_map}
use Rattle.thread_report.specs.Owed.{Gains, by_server, plain}
use Rattle.thread_report.specs.declared.passes.CallAnswer.TheVariants.{Shard}
use Rattle.thread_report.proofs.Telling.{shard_told}
use Rattle.thread_report.proofs.passes.Pass.tell_shard.Goals as goal

pub returns-clause-told : goal.returns-clause-told
returns-clause-told g c = λ e answer asked said.
    let is = c.of_shard-told.ensures ∙ (λ k. option_map (λ t. Shard t (c.none.ensures k)) (said k))
    ∙ shard_told answer c.args.done ∙ ap (by_server (λ x. plain (answer x))) (sym c.answered_by_shard.ensures.same) in
    subst (λ told. Gains c.args.keep c.args.shard e told c.args.self.now.calls c.tell.new.self.calls) is
    (c.tell.ensures e asked)
