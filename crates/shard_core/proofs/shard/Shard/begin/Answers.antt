use Rattle.std.proofs.Common.{◌+◌, ◌≤◌, refl, sym, ap, ◌∙◌, subst}
use Rattle.subj.specs.declared.limits.TheConstants.{MAX_COUNTER}
use Rattle.shard_core.specs.Boxes.{Clients}
use Rattle.shard_core.specs.Tallies.{Tallied}
use Rattle.shard_core.proofs.Steps.Kept.{sound_begun}
use Rattle.shard_core.proofs.shard.Shard.begin.Goals as goal

pub invariant_of-self-2 : goal.invariant_of-self-2
invariant_of-self-2 g c =
    sound_begun _ _ _ _ c.place_all.new.conns c.place_all.new.openings c.args.job c.start.new.self.copies c.in-Ok.begun
    c.self.invariant c.drop_candidate.ensures.chosen (sym c.is_some.ensures ∙ c.if-is_some.false)
    (c.in-Ok.ensures.ok _ (sym (ap (λ (t : Tallied). t.shard) c.start.ensures)) refl
    (sym (ap (λ (l : Clients). l.shown) c.drop_candidate.ensures.conns)))
    (sym c.get.ensures.same ∙ c.if-get.false ∙ ap (λ n. n + 1) c.get-2.ensures.same)
    (subst (λ n. n ≤ MAX_COUNTER) c.get.ensures.same c.get.ensures.most)
