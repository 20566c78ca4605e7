use Rattle.std.proofs.Common.{◌+◌, ◌<◌, ◌^◌, List, ap, ◌∙◌}
use Rattle.std.specs.Prelude.{filter}
use Rattle.std.proofs.lemmas.Result.{on_ok_weaker}
use Rattle.sub_table.specs.Subscriptions.{gets}
use Rattle.sub_table.specs.declared.Subscription.{Subscription}
use Rattle.shard_core.specs.Tallies.{lent_subs}
use Rattle.shard_core.proofs.Turns.TallySteps.{holds_of_all, walk_whole}
use Rattle.shard_core.proofs.delivery_buffer.DeliveryBuffer.walk.Goals as goal

pub put_due-requires : goal.put_due-requires
put_due-requires g c =
    let looks = ap lent_subs c.deref.ensures.value ∙ c.in_ok-matching.ensures
    ∙ ap (λ (l : List Subscription). filter (gets c.lent.result) l) c.table.ensures.subs in
    record {
      counts =
          holds_of_all (λ (sub : Subscription). sub.delivered + 1 < 2 ^ 64) (gets c.lent.result)
          c.deref.result.now c.args.openings.now.subs looks c.requires;
    }

pub returns-clause-ok : goal.returns-clause-ok
returns-clause-ok g c =
    let subs = c.args.openings.now.subs in
    let looks = ap lent_subs c.deref.ensures.value ∙ c.in_ok-matching.ensures
    ∙ ap (λ (l : List Subscription). filter (gets c.lent.result) l) c.table.ensures.subs
    ∙ ap (λ t. filter (gets t) subs) (c.lent.ensures ∙ c.subject.ensures) in
    on_ok_weaker c.put_due.result (walk_whole subs c.args.job.now c.deref.result.now _ _ _ _ looks) c.put_due.ensures.ok
