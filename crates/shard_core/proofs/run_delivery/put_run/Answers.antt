use Rattle.std.proofs.Common.{◌≡◌, ℕ, true, ap, sym, ◌∙◌}
use Rattle.shard_core.specs.declared.openings.Openings.{Openings}
use Rattle.shard_core.specs.RunSteps.{subs_by_serials}
use Rattle.shard_core.specs.Held.{shard_with}
use Rattle.shard_core.proofs.RunSteps.{given_apart, has_delivered}
use Rattle.shard_core.proofs.run_delivery.put_run.Goals as goal

pub count_run-requires-clause-apart : goal.count_run-requires-clause-apart
count_run-requires-clause-apart g c =
    let put : c.in-Ok.put ≡ true = c.if-not-put.false in
    given_apart (shard_with c.args.shard c.args.conns.now.shown c.note_for_run.new.self.subs) c.args.first.now
    c.args.jobs.now c.requires.alike (c.in-Ok.ensures.rising put) c.deref.result.now
    (c.deref.ensures.value ∙ c.in-Ok.ensures.given put)

pub returns-clause-put : goal.returns-clause-put
returns-clause-put g c _ s shard subs clients =
    let put : c.in-Ok.put ≡ true = c.if-not-put.false in
    let opened = c.note_for_run.new.self in
    let counted = c.count_run.ensures
    ∙ ap (λ (n : ℕ). record opened { subs = subs_by_serials n c.deref.result.now opened.subs }) c.len.ensures in
    rw (← c.note_for_run.ensures)
    (has_delivered s c.args.first.now c.args.jobs.now c.requires.alike c.requires.some c.args.shard opened
    c.count_run.new.self c.args.conns.now c.stage_noted.new.conns c.commit.new.self c.deref.result.now shard
    (subs ∙ sym (ap (λ (o : Openings g.row.T.Denot). o.subs) c.note_for_run.ensures)) clients c.requires.settled
    c.numbers_are_apart.ensures c.in-Ok.ensures.shown (c.in-Ok.ensures.rising put) (c.in-Ok.ensures.staged put)
    (c.deref.ensures.value ∙ c.in-Ok.ensures.given put) c.commit.ensures.shown counted)
