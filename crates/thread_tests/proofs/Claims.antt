-- The seats of a race of two shards, as the tests have them.
use Rattle.std.proofs.Common.{◌≡◌, ℕ, zero, suc, ◌+◌, List, [], ◌∷◌, ◌++◌, length, length-append, sym, refl, ap, ◌∙◌, subst, arith}
use Rattle.atomic_table.proofs.Lists.{at_last, at_longer}
use Rattle.claim_cells.specs.Rule.{At}
use Rattle.claim_cells.specs.Seats.{RaceId, ShardShown}
use Rattle.claim_cells.specs.Calls.{AllNew, AllOf, HasEach}
use mathlib.Core.Option.{some-ne-none, some-injective}

module _ (race : RaceId) (seats a : List ShardShown) (last : ShardShown) (popped : seats ≡ a ++ last ∷ []) where
  counted : (n : ℕ) → AllNew race (n + 1) seats → length a ≡ n
  counted n all =
      let e : length seats ≡ length a + 1 = ap length popped ∙ length-append a (last ∷ []) in
      let f = all.0 in
      omega arith

  pub last_is : (n : ℕ) → AllNew race (n + 1) seats → (last.race ≡ race) × (last.part.shard ≡ n + 1)
  last_is n all =
      let new =
      all.1 n last (subst (λ (l : List ShardShown). At l n last) (sym popped) (at_last a last n (counted n all))) in
      (new.0, ap (λ p. p.shard) new.1)

  pub rest_is : (n : ℕ) → AllNew race (n + 1) seats → AllNew race n a
  rest_is n all = (
    counted n all,
    (λ s seat at.
        all.1 s seat (subst (λ (l : List ShardShown). At l s seat) (sym popped) (at_longer a (last ∷ []) s seat at))),
  )

pub each_of_two : (shards : ℕ) (seats : List ShardShown) (first second : ShardShown)
    → shards ≡ 2
    → seats ≡ second ∷ first ∷ []
    → first.part.shard ≡ 1
    → second.part.shard ≡ 2
    → HasEach shards seats
each_of_two shards seats first second count is one two zero low = (1, first, ap (λ l. lib.ListN.get_elem? l 1) is, one)
each_of_two shards seats first second count is one two (suc zero) low = (
  0,
  second,
  ap (λ l. lib.ListN.get_elem? l 0) is,
  two,
)
each_of_two shards seats first second count is one two (suc (suc s)) low = absurd (omega arith)
