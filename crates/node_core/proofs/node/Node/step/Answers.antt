use Rattle.std.proofs.Common.{◌≡◌, subst}
use Rattle.subj.specs.Answers.{IsAnswered}
use Rattle.node_law.specs.Events.{NodeEvent}
use Rattle.node_core.specs.InCode.{result_in_code}
use Rattle.node_core.specs.Outcome.{Does, did_of}
use Rattle.node_core.specs.Served.{refusal}
use Rattle.node_core.proofs.node.Node.step.Goals as goal

pub returns : goal.returns
returns g c =
    subst (λ (e : NodeEvent).
    IsAnswered (refusal c.args.self.now e) (λ did. Does c.args.self.now e (did_of did) c.step_of.new.self)
    (c.step_of.new.self ≡ c.args.self.now) (result_in_code c.step_of.result))
    c.lend.ensures c.step_of.ensures
