use Rattle.std.proofs.Common.{◌≡◌, sym, subst}
use Rattle.subj.specs.Answers.{IsAnswered}
use Rattle.node_core.specs.declared.event_ref.EventRef.{EventRef}
use Rattle.node_core.specs.Lent.{asked_of}
use Rattle.node_core.specs.Outcome.{Does, did_of}
use Rattle.node_core.specs.Served.{refusal}
use Rattle.node_core.proofs.node.Node.did_asked.Goals as goal

pub returns-in-OnInfo : goal.returns-in-OnInfo
returns-in-OnInfo g c =
    subst (λ (e : EventRef).
    IsAnswered (refusal c.args.self.now (asked_of e))
    (λ x. Does c.args.self.now (asked_of e) (did_of x) c.did_info.new.self) (c.did_info.new.self ≡ c.args.self.now)
    c.did_info.result)
    (sym c.in-OnInfo.is) c.did_info.ensures

pub returns-in-OnConnect : goal.returns-in-OnConnect
returns-in-OnConnect g c =
    subst (λ (e : EventRef).
    IsAnswered (refusal c.args.self.now (asked_of e))
    (λ x. Does c.args.self.now (asked_of e) (did_of x) c.did_connect.new.self)
    (c.did_connect.new.self ≡ c.args.self.now) c.did_connect.result)
    (sym c.in-OnConnect.is) c.did_connect.ensures
