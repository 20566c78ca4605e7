use Rattle.std.proofs.Common.{◌+◌, List, length, refl, sym, ap, ◌∙◌}
use Rattle.subj.specs.declared.jobs.Job.{Job}
use Rattle.job_block.specs.declared.kept.Origin.{Origin}
use Rattle.node_threads.proofs.Lanes.Outlets.{unsent_next, added}
use Rattle.node_threads.proofs.hub_state.Outlet.add.Goals as goal

pub begin_at-requires : goal.begin_at-requires
begin_at-requires g c some =
    let s = c.self.inside in
    unsent_next s.run s.unsent.jobs s.lines.items s.unsent.first_turn c.args.job.turn c.self.invariant
    c.first_turn-numbered.ensures.numbered
    (c.requires.turn ∙ ap (λ (o : List Job). length o + 1) (sym c.self.view_is)) some

pub invariant_of-self : goal.invariant_of-self
invariant_of-self g c =
    let s = c.self.inside in
    let job = c.args.job in
    let origin : Origin = record { id = job.id; publisher = job.publisher; echo = job.echo } in
    (added s.run s.lines.items s.unsent.jobs origin job.turn job.message job.message job.queues c.begin_at.new.block
    c.push_message.new.self c.push_message.result c.self.invariant
    (c.requires.turn ∙ ap (λ (o : List Job). length o + 1) (sym c.self.view_is)) c.begin_at.ensures.0
    c.begin_at.ensures.1 refl c.push_message.ensures.ok c.push_message.ensures.err).keeps
