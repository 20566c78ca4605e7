use Rattle.std.proofs.Common.{◌≡◌, ◌+◌, ◌++◌, [], ◌∷◌, None, refl, sym, subst}
use Rattle.sub_table.specs.declared.Subscription.{Subscription}
use Rattle.shard_core.specs.Held.{ArePossible, most_counts}
use Rattle.shard_core.specs.Opened.{Opened}
use Rattle.shard_core.specs.Shards.{State}
use Rattle.shard_core.specs.ShardSteps.{sub_called}
use Rattle.shard_core.proofs.Steps.Kept.{opens_next, possible_opened, sound_opened, still_possible}
use Rattle.shard_core.proofs.shard.Shard.subscribe.Goals as goal

pub invariant_of-self-2 : goal.invariant_of-self-2
invariant_of-self-2 g c =
    let old = c.self.inside in
    let serial = c.in-Ok-Some.serial in
    let sub : Subscription = record {
      serial = serial;
      conn = c.args.conn;
      key = c.args.key;
      sid = c.args.sid;
      delivered = 0;
      max = None;
    } in
    let most = most_counts old.hand None old.finished old.next_index in
    let s : State = record {
      shard = old.shard;
      shards = old.shards;
      next_conn = old.next_conn;
      opened = old.opened;
      finished = old.finished;
      hand = old.hand;
      next_index = old.next_index;
      clients = c.drop_candidate.new.conns.shown;
      subs = old.openings.subs;
      draining = old.draining;
      deltas = old.openings.deltas;
    } in
    let is : serial ≡ old.opened + 1 = opens_next s (sub_called c.args.conn c.args.sid old.openings.subs)
    c.in-Ok-Some.field-0 serial c.in-Ok-Some.ensures.1 c.in-Ok-Some.field-0-is in
    sound_opened _ _ _ _ c.drop_candidate.new.conns c.open.new.self serial c.self.invariant
    c.drop_candidate.ensures.chosen c.drop_candidate.ensures.conns
    (subst (λ (o : Opened). ArePossible serial most o.subs) (sym c.in_ok-open.ensures.ok)
    (subst (λ n. ArePossible n most (old.openings.subs ++ sub ∷ [])) (sym is)
    (possible_opened old.opened most old.openings.subs sub is refl (still_possible _ _ _ c.self.invariant))))
