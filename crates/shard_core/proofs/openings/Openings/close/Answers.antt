use Rattle.std.proofs.Common.{◌≡◌, ◌+◌, [], ◌∷◌, ◌++◌, List, length, ap, sym, subst, ◌∙◌, arith, length-append}
use Rattle.std.specs.Prelude.{vec_capacity}
use Rattle.subj.specs.declared.keys.Delta.{Delta}
use Rattle.list_laws.proofs.Changes.{append_nil}
use Rattle.shard_core.specs.Closings.{closings_of}
use Rattle.shard_core.specs.Opened.{AreRising, with_closings}
use Rattle.shard_core.proofs.Turns.Groups.{forgotten}
use Rattle.shard_core.proofs.Closings.Opened.{opened_same, rising_left, rest_is, closes_none, closes_one}
use Rattle.shard_core.proofs.openings.Openings.close.Goals as goal

pub invariant_of-self : goal.invariant_of-self
invariant_of-self g c =
    let us = g.T.SubTable.contents c.self.inside.table in
    let rising = c.self.invariant.rising in
    let one = closes_one c.args.serial us c.in-Some.sub rising (sym c.in-Some.ensures.closed) in
    let left = c.in-Some.ensures.rest ∙ rest_is c.args.serial us rising in
    let fewer : length (g.T.SubTable.contents c.remove.new.self) + 1 ≡ length us =
    ap (λ l. length l + 1) left ∙ one.1 in
    let pushed : length c.push_reserved.new.self.items ≡ length c.self.inside.deltas.items + 1 =
    ap length c.push_reserved.ensures.items ∙ length-append c.self.inside.deltas.items _ in
    let capacity : vec_capacity c.push_reserved.new.self ≡ vec_capacity c.self.inside.deltas =
    c.push_reserved.ensures.capacity in
    let places = c.self.invariant.places in
    record {
      rising = subst AreRising (sym left) (rising_left (c.args.serial ∷ []) us rising);
      noted = c.forget.ensures (g.T.SubTable.contents c.remove.new.self);
      places = omega arith;
    }

pub invariant_of-self-in_default : goal.invariant_of-self-in_default
invariant_of-self-in_default g c =
    let us = g.T.SubTable.contents c.self.inside.table in
    let none = closes_none c.args.serial us (sym c.in_default.ensures.closed) in
    let same = c.in_default.ensures.rest ∙ rest_is c.args.serial us c.self.invariant.rising ∙ none.0 in
    forgotten us (g.T.SubTable.contents c.remove.new.self) c.self.inside.deltas.items
    (vec_capacity c.self.inside.deltas) c.self.inside.notes c.forget.new.self same c.forget.ensures c.self.invariant

pub returns-in-Some : goal.returns-in-Some
returns-in-Some g c =
    let us = g.T.SubTable.contents c.self.inside.table in
    let rising = c.self.invariant.rising in
    let one = closes_one c.args.serial us c.in-Some.sub rising (sym c.in-Some.ensures.closed) in
    let left = c.in-Some.ensures.rest ∙ rest_is c.args.serial us rising in
    let told : c.push_reserved.new.self.items ≡ c.self.inside.deltas.items ++ closings_of (c.args.serial ∷ []) us =
    ◌∙◌ {A = List Delta} c.push_reserved.ensures.items
    (ap (λ (l : List Delta). c.self.inside.deltas.items ++ l) (sym one.0)) in
    opened_same _ _ _ _ left told ∙ ap (with_closings (c.args.serial ∷ [])) c.self.view_is

pub returns-in_default : goal.returns-in_default
returns-in_default g c =
    let us = g.T.SubTable.contents c.self.inside.table in
    let ds = c.self.inside.deltas.items in
    let none = closes_none c.args.serial us (sym c.in_default.ensures.closed) in
    let left = c.in_default.ensures.rest ∙ rest_is c.args.serial us c.self.invariant.rising in
    opened_same _ _ _ _ left (sym (append_nil ds) ∙ ap (λ l. ds ++ l) (sym none.1))
    ∙ ap (with_closings (c.args.serial ∷ [])) c.self.view_is
