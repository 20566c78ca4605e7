use Rattle.std.proofs.Common.{◌+◌, ◌<◌, ◌^◌, ◌∙◌, List, subst, sym}
use denote.Ref.{Bor}
use Rattle.std.proofs.lemmas.List.{take_all}
use Rattle.sub_table.specs.declared.Subscription.{Subscription}
use Rattle.shard_core.specs.Tallies.{Follows, put_if_due, walk_matching, lent_subs}
use Rattle.shard_core.proofs.Turns.TallySteps.{holds_at, walk_on}
use Rattle.shard_core.proofs.delivery_buffer.DeliveryBuffer.put_each.Goals as goal

pub put_if_due-requires-clause-counts : goal.put_if_due-requires-clause-counts
put_if_due-requires-clause-counts g c =
    subst (λ (b : Bor Subscription). b.now.delivered + 1 < 2 ^ 64) (sym c.sub-item.is)
    (holds_at (λ (sub : Subscription). sub.delivered + 1 < 2 ^ 64) c.args.matching.now c.loop-sub.sub-index
    c.sub-item.result c.requires.counts c.loop-sub-test.true)

pub loop-sub-preserved : goal.loop-sub-preserved
loop-sub-preserved g c = record {
  shown = c.in_ok-put_if_due.ensures.shown ∙ c.loop-sub.invariant.shown;
  so_far =
      let subs = c.args.openings.now.subs in
      let job = c.args.job.now in
      let step = subst (λ (b : Bor Subscription).
      Follows subs job (λ s w. put_if_due s job w b.now) c.loop-sub.conns.next c.loop-sub.self
      c.put_if_due.new.conns.next c.put_if_due.new.self)
      c.sub-item.is c.in_ok-put_if_due.ensures.ok in
      walk_on subs job c.args.matching.now c.loop-sub.sub-index c.sub-item.result _ _ _ _ _ _ c.loop-sub-test.true
      c.loop-sub.invariant.so_far step;
}

pub returns-clause-ok : goal.returns-clause-ok
returns-clause-ok g c =
    let subs = c.args.openings.now.subs in
    let job = c.args.job.now in
    subst (λ (l : List (Bor Subscription)).
    Follows subs job (λ s w. walk_matching s job (lent_subs l) w) c.args.conns.now.next c.args.self.now
    c.loop-sub.conns.next c.loop-sub.self)
    (take_all c.loop-sub.sub-index c.args.matching.now c.loop-sub-test.false) c.loop-sub.invariant.so_far
