use Rattle.std.proofs.Common.{◌≡◌, [], ◌∷◌, ◌+◌, ◌++◌, length, ap, sym, subst, ◌∙◌, arith, length-append, vec_capacity}
use Rattle.shard_core.specs.Opened.{Opened, AreRising, IsNext}
use Rattle.shard_core.proofs.Closings.Opened.{rising_push}
use Rattle.shard_core.proofs.openings.Openings.open.Goals as goal

pub invariant_of-self-2 : goal.invariant_of-self-2
invariant_of-self-2 g c =
    let us = g.T.SubTable.contents c.self.inside.table in
    let next : IsNext c.args.sub.serial us =
    subst (λ (o : Opened). IsNext c.args.sub.serial o.subs) (sym c.self.view_is) c.requires in
    let added : g.T.SubTable.contents c.add.new.self ≡ us ++ c.args.sub ∷ [] = c.in_ok-add.ensures.ok in
    let places = c.in_ok-reserve_for.ensures.places in
    let many : length (g.T.SubTable.contents c.add.new.self) ≡ length us + 1 =
    ap length added ∙ length-append us (c.args.sub ∷ []) in
    let pushed : length c.push_reserved.new.self.items ≡ length c.reserve_for.new.deltas.items + 1 =
    ap length c.push_reserved.ensures.items ∙ length-append c.reserve_for.new.deltas.items _ in
    let kept : length c.reserve_for.new.deltas.items ≡ length c.self.inside.deltas.items =
    ap length c.reserve_for.ensures.items in
    let capacity : vec_capacity c.push_reserved.new.self ≡ vec_capacity c.reserve_for.new.deltas =
    c.push_reserved.ensures.capacity in
    let many_open : c.len.result ≡ length us = c.len.ensures in
    record {
      rising = subst AreRising (sym added) (rising_push us c.args.sub c.self.invariant.rising next);
      noted = c.forget.ensures (g.T.SubTable.contents c.add.new.self);
      places = omega arith;
    }

pub add-requires : goal.add-requires
add-requires g c = subst (λ (o : Opened). IsNext c.args.sub.serial o.subs) (sym c.self.view_is) c.requires
