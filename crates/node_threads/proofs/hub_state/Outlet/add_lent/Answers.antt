use Rattle.std.proofs.Common.{◌+◌, List, length, refl, sym, ap, ◌∙◌}
use Rattle.subj.specs.declared.jobs.Job.{Job}
use Rattle.job_block.specs.Blocks.{IsLast}
use Rattle.std.proofs.Common.{◌<◌, subst}
use Rattle.node_threads.proofs.Lanes.Outlets.{unsent_next, added, last_unsent}
use Rattle.node_threads.proofs.hub_state.Outlet.add_lent.Goals as goal

pub begin_at-requires : goal.begin_at-requires
begin_at-requires g c some =
    let s = c.self.inside in
    unsent_next s.run s.unsent.jobs s.lines.items s.unsent.first_turn c.args.turn c.self.invariant
    c.first_turn-numbered.ensures.numbered
    (c.requires.turn ∙ ap (λ (o : List Job). length o + 1) (sym c.self.view_is)) some

pub put_lent-requires-clause-last : goal.put_lent-requires-clause-last
put_lent-requires-clause-last g c goes_on some =
    let s = c.self.inside in
    let origin = c.args.origin in
    let subject = c.args.publication.now.message.subject in
    let same = c.begin_at.ensures.0 in
    subst (λ (jobs : List Job). IsLast origin.publisher subject origin.echo c.args.queues jobs) (sym same)
    (last_unsent origin.publisher subject origin.echo c.args.queues s.run s.unsent.jobs s.lines.items c.self.invariant
    (subst (λ (o : List Job). IsLast origin.publisher subject origin.echo c.args.queues o) (sym c.self.view_is)
    (c.requires.last goes_on))
    (subst (λ (jobs : List Job). 0 < length jobs) same some))

pub invariant_of-self : goal.invariant_of-self
invariant_of-self g c =
    let s = c.self.inside in
    (added s.run s.lines.items s.unsent.jobs c.args.origin c.args.turn _ c.args.publication.now.message c.args.queues
    c.begin_at.new.block c.put_lent.new.block c.put_lent.result c.self.invariant
    (c.requires.turn ∙ ap (λ (o : List Job). length o + 1) (sym c.self.view_is)) c.begin_at.ensures.0
    c.begin_at.ensures.1 refl c.put_lent.ensures.ok c.put_lent.ensures.err).keeps
