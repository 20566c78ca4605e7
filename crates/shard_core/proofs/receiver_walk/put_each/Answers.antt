use Rattle.std.proofs.Common.{refl, sym, subst, ◌∙◌}
use Rattle.std.specs.Prelude.{filter}
use Rattle.sub_table.specs.Subscriptions.{gets}
use Rattle.shard_core.specs.ReceiverSteps.{IsFoundAs}
use Rattle.shard_core.proofs.Turns.Received.{received_on}
use Rattle.shard_core.proofs.receiver_walk.put_each.Goals as goal

pub loop-receiver-preserved : goal.loop-receiver-preserved
loop-receiver-preserved g c = record {
  shown = c.in_ok-put_if_due.ensures.shown ∙ c.loop-receiver.invariant.shown;
  copies = c.in_ok-put_if_due.ensures.copies;
  so_far =
      let subs = c.args.openings.now.subs in
      let subject = c.args.job.now.message.subject in
      received_on subs c.args.job.now (filter (gets subject) subs) c.args.receivers.now c.loop-receiver.receiver-index
      c.receiver-item.result _ _ _ _ _ _ c.requires.rising refl c.requires.receivers c.loop-receiver-test.true
      (λ sub is.
      c.in_ok-put_if_due.ensures.ok sub (subst (λ r. IsFoundAs subs subject r sub) (sym c.receiver-item.is) is))
      c.loop-receiver.invariant.so_far;
}
