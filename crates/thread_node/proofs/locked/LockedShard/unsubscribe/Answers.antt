use Rattle.std.proofs.Common.{◌≡◌, Option, refl, subst}
use Rattle.std.specs.Prelude.{option_to_list}
use Rattle.shard_core.specs.ShardEvents as of_shard
use Rattle.shard_core.specs.ShardSteps.{shard_refusal}
use Rattle.node_threads.specs.AtWork.{Does}
use Rattle.subj.specs.declared.identities.SubId.{SubId}
use Rattle.node_threads.specs.declared.shard_entries.ShardEvent.TheVariants as event
use Rattle.node_threads.specs.declared.shard_entries.ShardTold.{ShardTold}
use Rattle.node_threads.specs.declared.shard_entries.ShardTold.TheVariants as shard_told
use Rattle.thread_node.specs.Told.{ShardNotes, of_decision, told_of_shard}
use Rattle.thread_node.proofs.Telling.{answered_so, first_of_one, tape_answered}
use Rattle.thread_node.proofs.locked.LockedShard.unsubscribe.Goals as goal

pub invariant_of-self : goal.invariant_of-self
invariant_of-self g c =
    let s = c.self.inside in
    let i = c.self.invariant in
    let asks = of_shard.Unsubscribe c.args.conn c.args.sid.now c.args.max in
    let named = event.Unsubscribe c.args.conn c.args.sid.now c.args.max in
    let more = c.note_shard.new.tape in
    let done = of_decision c.unsubscribe-done.result in
    let said = subst (λ told. ShardNotes named told s.tape more) c.told_unsubscribed-told.ensures
    (c.note_shard.ensures named c.unsubscribe_event-event.ensures) in
    let noted = subst (λ (told : Option SubId → ShardTold). ShardNotes named (told_of_shard told done) s.tape more)
    (λ i x. shard_told.Unsubscribed (first_of_one x i)) said in
    let v = c.unsubscribe-done.new.self in
    let answered = answered_so (shard_refusal s.state.state asks)
    (λ x. Does s.state asks (of_shard.Unsubscribed (option_to_list x)) v) (v ≡ s.state) c.unsubscribe-done.result
    c.unsubscribe-done.ensures in (
      i.0,
      tape_answered g.N.NodeName.race.shards s.state c.unsubscribe-done.new.self asks named
          (λ x. of_shard.Unsubscribed (option_to_list x)) (of_decision c.unsubscribe-done.result) s.tape more i.1 refl
          (λ a. refl) answered noted,
    )
