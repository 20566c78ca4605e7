use Rattle.std.proofs.Common.{List, [], ◌∷◌, sym, ap, ◌∙◌}
use Rattle.std.specs.Prelude.{find}
use Rattle.std.specs.Option.{option_copied}
use Rattle.sub_table.specs.Subscriptions.{has_serial}
use Rattle.sub_table.specs.declared.Subscription.{Subscription}
use Rattle.shard_core.specs.Shards.{State}
use Rattle.shard_core.specs.Opened.{with_closings, with_counts}
use Rattle.shard_core.proofs.Closings.Opened.{no_closings}
use Rattle.shard_core.proofs.Turns.Claims.{place_counts, place_done, place_sound, place_ended, ends_none, ends_one, serial_is}
use Rattle.shard_core.proofs.shard.Shard.place.Goals as goal

pub is_last-ends-requires : goal.is_last-ends-requires
is_last-ends-requires g c =
    let s : State = record {
      shard = c.self.inside.shard;
      shards = c.self.inside.shards;
      next_conn = c.self.inside.next_conn;
      opened = c.self.inside.opened;
      finished = c.self.inside.finished;
      hand = c.self.inside.hand;
      next_index = c.self.inside.next_index;
      clients = c.self.inside.conns.shown;
      subs = c.self.inside.openings.subs;
      draining = c.self.inside.draining;
      deltas = c.self.inside.openings.deltas;
    } in
    let found = ap (λ (l : List Subscription). find (has_serial c.in-Some.serial) l) (sym c.table.ensures.subs)
    ∙ sym c.get.ensures ∙ ap option_copied c.in-Some-get.is in
    let is = sym c.take.ensures.value ∙ c.in-Some.is in
    place_counts s c.self.inside.conns.next c.self.inside.chosen c.in-Some.serial c.in-Some-get.sub.now c.args.self.now
    c.self.view_is c.requires.hand is found c.self.invariant

pub invariant_of-self : goal.invariant_of-self
invariant_of-self g c =
    let s : State = record {
      shard = c.self.inside.shard;
      shards = c.self.inside.shards;
      next_conn = c.self.inside.next_conn;
      opened = c.self.inside.opened;
      finished = c.self.inside.finished;
      hand = c.self.inside.hand;
      next_index = c.self.inside.next_index;
      clients = c.self.inside.conns.shown;
      subs = c.self.inside.openings.subs;
      draining = c.self.inside.draining;
      deltas = c.self.inside.openings.deltas;
    } in
    let found = ap (λ (l : List Subscription). find (has_serial c.in-Some.serial) l) (sym c.table.ensures.subs)
    ∙ sym c.get.ensures ∙ ap option_copied c.in-Some-get.is in
    let is = sym c.take.ensures.value ∙ c.in-Some.is in
    place_sound s c.self.inside.conns.next c.self.inside.chosen c.in-Some.serial c.in-Some-get.sub.now c.args.self.now
    c.self.view_is c.requires.hand is found c.self.invariant [] c.commit.new.self c.count.new.self c.take.new.self
    c.take.ensures.after c.commit.ensures.shown
    (c.count.ensures ∙ sym (no_closings (with_counts (c.in-Some.serial ∷ []) c.self.inside.openings)))

pub returns-then-not-ends-clause-placed : goal.returns-then-not-ends-clause-placed
returns-then-not-ends-clause-placed g c =
    let s : State = record {
      shard = c.self.inside.shard;
      shards = c.self.inside.shards;
      next_conn = c.self.inside.next_conn;
      opened = c.self.inside.opened;
      finished = c.self.inside.finished;
      hand = c.self.inside.hand;
      next_index = c.self.inside.next_index;
      clients = c.self.inside.conns.shown;
      subs = c.self.inside.openings.subs;
      draining = c.self.inside.draining;
      deltas = c.self.inside.openings.deltas;
    } in
    let found = ap (λ (l : List Subscription). find (has_serial c.in-Some.serial) l) (sym c.table.ensures.subs)
    ∙ sym c.get.ensures ∙ ap option_copied c.in-Some-get.is in
    let is = sym c.take.ensures.value ∙ c.in-Some.is in
    place_done s c.self.inside.conns.next c.self.inside.chosen c.in-Some.serial c.in-Some-get.sub.now c.args.self.now
    c.self.view_is c.requires.hand is found c.self.invariant [] c.commit.new.self c.count.new.self c.take.new.self
    (ends_none c.in-Some-get.sub.now (sym c.is_last-ends.ensures ∙ c.if-not-ends.true)) c.commit.ensures.shown
    (c.count.ensures ∙ sym (no_closings (with_counts (c.in-Some.serial ∷ []) c.self.inside.openings)))
    c.take.ensures.after

pub invariant_of-self-2 : goal.invariant_of-self-2
invariant_of-self-2 g c =
    let s : State = record {
      shard = c.self.inside.shard;
      shards = c.self.inside.shards;
      next_conn = c.self.inside.next_conn;
      opened = c.self.inside.opened;
      finished = c.self.inside.finished;
      hand = c.self.inside.hand;
      next_index = c.self.inside.next_index;
      clients = c.self.inside.conns.shown;
      subs = c.self.inside.openings.subs;
      draining = c.self.inside.draining;
      deltas = c.self.inside.openings.deltas;
    } in
    let found = ap (λ (l : List Subscription). find (has_serial c.in-Some.serial) l) (sym c.table.ensures.subs)
    ∙ sym c.get.ensures ∙ ap option_copied c.in-Some-get.is in
    let is = sym c.take.ensures.value ∙ c.in-Some.is in
    place_sound s c.self.inside.conns.next c.self.inside.chosen c.in-Some.serial c.in-Some-get.sub.now c.args.self.now
    c.self.view_is c.requires.hand is found c.self.invariant (c.in-Some.serial ∷ []) c.commit.new.self c.close.new.self
    c.take.new.self c.take.ensures.after c.commit.ensures.shown
    (c.close.ensures ∙ ap (with_closings (c.in-Some.serial ∷ [])) c.count.ensures)

pub returns-clause-placed : goal.returns-clause-placed
returns-clause-placed g c =
    let s : State = record {
      shard = c.self.inside.shard;
      shards = c.self.inside.shards;
      next_conn = c.self.inside.next_conn;
      opened = c.self.inside.opened;
      finished = c.self.inside.finished;
      hand = c.self.inside.hand;
      next_index = c.self.inside.next_index;
      clients = c.self.inside.conns.shown;
      subs = c.self.inside.openings.subs;
      draining = c.self.inside.draining;
      deltas = c.self.inside.openings.deltas;
    } in
    let found = ap (λ (l : List Subscription). find (has_serial c.in-Some.serial) l) (sym c.table.ensures.subs)
    ∙ sym c.get.ensures ∙ ap option_copied c.in-Some-get.is in
    let is = sym c.take.ensures.value ∙ c.in-Some.is in
    let sub = c.in-Some-get.sub.now in
    place_done s c.self.inside.conns.next c.self.inside.chosen c.in-Some.serial c.in-Some-get.sub.now c.args.self.now
    c.self.view_is c.requires.hand is found c.self.invariant (c.in-Some.serial ∷ []) c.commit.new.self c.close.new.self
    c.take.new.self
    (ends_one sub c.in-Some.serial (serial_is c.in-Some.serial s.subs sub found)
    (sym c.is_last-ends.ensures ∙ c.if-not-ends.false))
    c.commit.ensures.shown (c.close.ensures ∙ ap (with_closings (c.in-Some.serial ∷ [])) c.count.ensures)
    c.take.ensures.after

pub returns-clause-ended : goal.returns-clause-ended
returns-clause-ended g c =
    let s : State = record {
      shard = c.self.inside.shard;
      shards = c.self.inside.shards;
      next_conn = c.self.inside.next_conn;
      opened = c.self.inside.opened;
      finished = c.self.inside.finished;
      hand = c.self.inside.hand;
      next_index = c.self.inside.next_index;
      clients = c.self.inside.conns.shown;
      subs = c.self.inside.openings.subs;
      draining = c.self.inside.draining;
      deltas = c.self.inside.openings.deltas;
    } in
    let found = ap (λ (l : List Subscription). find (has_serial c.in-Some.serial) l) (sym c.table.ensures.subs)
    ∙ sym c.get.ensures ∙ ap option_copied c.in-Some-get.is in
    let is = sym c.take.ensures.value ∙ c.in-Some.is in
    let sub = c.in-Some-get.sub.now in
    place_ended s c.self.inside.conns.next c.self.inside.chosen c.in-Some.serial c.in-Some-get.sub.now c.args.self.now
    c.self.view_is c.requires.hand is found c.self.invariant (c.in-Some.serial ∷ [])
    (ends_one sub c.in-Some.serial (serial_is c.in-Some.serial s.subs sub found)
    (sym c.is_last-ends.ensures ∙ c.if-not-ends.false))
