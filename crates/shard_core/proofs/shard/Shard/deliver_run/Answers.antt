use Rattle.std.proofs.Common.{List, refl, ap, sym, subst}
use Rattle.list_laws.specs.Lists.{Each}
use Rattle.subj.specs.declared.jobs.Job.{Job}
use Rattle.shard_core.specs.Boxes.{Clients}
use Rattle.shard_core.specs.Lines.{Turns}
use Rattle.shard_core.specs.RunSteps.{GoesWith}
use Rattle.shard_core.proofs.RunSound.{can_count, delivers_run, sound_delivered}
use Rattle.shard_core.proofs.shard.Shard.deliver_run.Goals as goal

pub put_run-requires-clause-alike : goal.put_run-requires-clause-alike
put_run-requires-clause-alike g c =
    subst (λ (run : List Job). Each (GoesWith c.get-first.result) run) (sym c.first-together.ensures)
    (c.in-Some.ensures.together c.get-first.result c.get-first.ensures).alike

pub put_run-requires-clause-counts : goal.put_run-requires-clause-counts
put_run-requires-clause-counts g c =
    let together = c.in-Some.ensures.together c.get-first.result c.get-first.ensures in
    can_count _ _ _ c.first-together.result c.in-Some.run'.last c.self.invariant c.in-Some.ensures.hand
    (subst (λ (run : List Job). Turns c.self.inside.finished run c.in-Some.run'.last) (sym c.first-together.ensures)
    together.turns)
    c.in-Some.ensures.most

pub invariant_of-self-2 : goal.invariant_of-self-2
invariant_of-self-2 g c =
    let together = c.in-Some.ensures.together c.get-first.result c.get-first.ensures in
    sound_delivered _ _ _ _ c.put_run.new.conns c.put_run.new.openings c.first-together.result c.in-Some.run'.last
    c.self.invariant c.drop_candidate.ensures.chosen c.in-Some.ensures.hand
    (c.in_ok-put_run.ensures.put c.if-not-branch.false _ refl refl
    (sym (ap (λ (l : Clients). l.shown) c.drop_candidate.ensures.conns)))
    (subst (λ (run : List Job). Turns c.self.inside.finished run c.in-Some.run'.last) (sym c.first-together.ensures)
    together.turns)
    c.in-Some.ensures.most

pub returns-clause-ok : goal.returns-clause-ok
returns-clause-ok g c =
    let together = c.in-Some.ensures.together c.get-first.result c.get-first.ensures in
    delivers_run _ _ c.args.jobs.now c.first-together.result c.in-Some.run'.count c.get-first.result c.in-Some.run'.last
    c.put_run.new.conns c.put_run.new.openings c.drop_candidate.new.chosen c.args.self.now c.self.view_is
    c.first-together.ensures c.in-Some.ensures.few c.in-Some.ensures.some c.in-Some.ensures.hand
    c.drop_candidate.ensures.chosen together
    (c.in_ok-put_run.ensures.put c.if-not-branch.false _ refl refl
    (sym (ap (λ (l : Clients). l.shown) c.drop_candidate.ensures.conns)))
