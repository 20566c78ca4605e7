use Rattle.std.proofs.Common.{◌∙◌, subst}
use Rattle.std.specs.Option.{option_map}
use Rattle.thread_report.specs.Owed.{Gains}
use Rattle.thread_report.specs.declared.passes.CallAnswer.TheVariants.{Hub}
use Rattle.thread_report.proofs.passes.Pass.tell_hub.Goals as goal

pub returns : goal.returns
returns g c = λ e asked.
    subst (λ told. Gains c.args.keep 0 e told c.args.self.now.calls c.tell.new.self.calls)
    (c.of_hub-told.ensures ∙ (λ k. option_map (λ t. Hub t (c.none.ensures k)) c.args.told)) (c.tell.ensures e asked)
