use Rattle.std.proofs.Common.{◌≡◌, List, length, ap, sym, subst, ◌∙◌}
use Rattle.shard_core.specs.Boxes.{Clients}
use Rattle.shard_core.specs.Closings.{ended_ids}
use Rattle.shard_core.specs.Dirty.{AreTold}
use Rattle.shard_core.specs.Opened.{Opened, with_counts, with_closings}
use Rattle.shard_core.specs.Shards.{Client}
use Rattle.shard_core.specs.Tallies.{Tallied}
use Rattle.shard_core.proofs.Turns.TallySteps.{has_placed}
use Rattle.shard_core.proofs.delivery_buffer.place_all.Goals as goal

pub returns-clause-ok : goal.returns-clause-ok
returns-clause-ok g c s shard of clients =
    let is = c.buffer.view_is in
    let openings = c.args.openings.now in
    let put : c.replace-put.result.items ≡ c.buffer.inside.put.items = λ k. (c.replace-put.ensures.value k).items in
    let shut : c.replace-closed.result.items ≡ c.buffer.inside.shut.items =
    λ k. (c.replace-closed.ensures.value k).items in
    has_placed c.args.job.now c.args.buffer.now.copies s c.stage.new.buffer c.stage.new.conns.next c.commit.new.self
    openings c.count_all.new.self c.close_all.new.self
    (record {
      given = c.len.result;
      put = c.replace-put.result;
      closed = c.replace-closed.result;
      ended = c.in-Ok.ended;
    })
    (c.in-Ok.ensures.ok s shard (of ∙ sym (ap (λ (o : Opened). o.subs) c.remember.ensures)) clients)
    c.commit.ensures.shown
    (c.count_all.ensures ∙ ap (with_counts c.deref.result.now) c.remember.ensures
    ∙ ap (λ l. with_counts l openings) (c.deref.ensures.value ∙ ap (λ (t : Tallied). t.given) is))
    (c.close_all.ensures
    ∙ ap (λ l. with_closings l c.count_all.new.self) (c.deref-2.ensures.value ∙ ap (λ (t : Tallied). t.ended) is))
    (c.len.ensures ∙ c.buffer.inside.given.ok.0 ∙ ap (λ (t : Tallied). length t.given) is)
    (put ∙ ap (λ (t : Tallied). t.put) is) (shut ∙ ap (λ (t : Tallied). t.shut) is)
    (c.in-Ok.ensures.ended ∙ ap (λ n. ended_ids n c.stage.new.buffer.ended) (sym shard))

pub returns-clause-told : goal.returns-clause-told
returns-clause-told g c =
    let before = c.args.dirty_conns.now in
    let after = c.commit.new.dirty_conns in
    subst (λ (l : Clients). AreTold c.args.conns.now.shown l.shown before after) (sym c.commit.ensures.shown)
    (subst (λ (l : List Client). AreTold l c.stage.new.conns.next before after) c.in-Ok.ensures.shown
    c.commit.ensures.told)
