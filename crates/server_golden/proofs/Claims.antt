-- The seats of a race.
use Rattle.std.proofs.Common.{◌≡◌, ℕ, zero, suc, ◌+◌, ◌<◌, List, [], ◌∷◌, ◌++◌, length, length-append, sym, refl, ap, ◌∙◌, subst, arith}
use Rattle.atomic_table.proofs.Lists.{at_last, at_longer}
use Rattle.claim_cells.specs.Rule.{At}
use Rattle.claim_cells.specs.Seats.{RaceId, ShardShown}
use Rattle.claim_cells.specs.Calls.{AllNew, HasEach}

module _ (race : RaceId) (seats a : List ShardShown) (last : ShardShown) (popped : seats ≡ a ++ last ∷ []) where
  counted : (n : ℕ) → AllNew race (n + 1) seats → length a ≡ n
  counted n all =
      let e : length seats ≡ length a + 1 = ap length popped ∙ length-append a (last ∷ []) in
      let f = all.0 in
      omega arith

  pub last_is : (n : ℕ) → AllNew race (n + 1) seats → (last.race ≡ race) × (last.part.shard ≡ n + 1)
  last_is n all =
      let new =
      all.1 n last (subst (λ (l : List ShardShown). At l n last) (sym popped) (at_last a last n (counted n all))) in
      (new.0, ap (λ p. p.shard) new.1)

  pub rest_is : (n : ℕ) → AllNew race (n + 1) seats → AllNew race n a
  rest_is n all = (
    counted n all,
    (λ s seat at.
        all.1 s seat (subst (λ (l : List ShardShown). At l s seat) (sym popped) (at_longer a (last ∷ []) s seat at))),
  )

pub each_of_two : (n : ℕ) (seats : List ShardShown) (first second : ShardShown)
    → n ≡ 2
    → seats ≡ first ∷ second ∷ []
    → first.part.shard ≡ 1
    → second.part.shard ≡ 2
    → HasEach n seats
each_of_two n seats first second two is one last zero lt = (
  0,
  first,
  subst (λ (l : List ShardShown). At l 0 first) (sym is) refl,
  one,
)
each_of_two n seats first second two is one last (suc zero) lt = (
  1,
  second,
  subst (λ (l : List ShardShown). At l 1 second) (sym is) refl,
  last,
)
each_of_two n seats first second two is one last (suc (suc s)) lt = absurd (none two lt)
  where
    none : n ≡ 2 → suc (suc s) < n → ⊥
    none e l = omega arith
