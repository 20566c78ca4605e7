use Rattle.std.proofs.Common.{◌+◌, drop, subst}
use Rattle.std.proofs.lemmas.List.{drop_all, drop_more}
use Rattle.shard_core.specs.Dirty.{AreToldBut}
use Rattle.shard_core.proofs.Clients.Told.{kept_both, none_told, told_more}
use Rattle.shard_core.proofs.connections.note_all.Goals as goal

pub loop-place-init : goal.loop-place-init
loop-place-init c = record {
  told = none_told c.args.places.now c.args.conns.now.items c.args.dirty_conns.now;
  kept = record { dirty = λ n e. e; urgent = λ e. e };
}

pub loop-place-preserved : goal.loop-place-preserved
loop-place-preserved c =
    let k = c.loop-place.place-index in
    let places = c.args.places.now in
    let conns = c.args.conns.now.items in
    let next = drop_more places k 0 c.loop-place-test.true in
    record {
      told =
          told_more _ (drop (k + 1) places) places conns c.loop-place.dirty_conns c.note_at.new.dirty_conns
          (subst (λ left. AreToldBut left places conns c.loop-place.dirty_conns) next c.loop-place.invariant.told)
          c.note_at.ensures.told c.note_at.ensures.kept;
      kept =
          kept_both c.args.dirty_conns.now c.loop-place.dirty_conns c.note_at.new.dirty_conns
          c.loop-place.invariant.kept c.note_at.ensures.kept;
    }

pub returns-clause-told : goal.returns-clause-told
returns-clause-told c =
    subst (λ left. AreToldBut left c.args.places.now c.args.conns.now.items c.loop-place.dirty_conns)
    (drop_all c.loop-place.place-index c.args.places.now c.loop-place-test.false) c.loop-place.invariant.told
