-- Who won a pair, by the won lists of the parts.
use Rattle.std.proofs.Common.{◌≡◌, ℕ, zero, suc, ◌+◌, Bool, true, false, cond, List, [], ◌∷◌, ◌++◌, map, set, sym, refl, ap, ◌∙◌, subst, arith, Option, Some, None}
use Rattle.std.specs.Prelude.{nat_eq, find, is_none, ◌&&◌}
use Rattle.std.specs.Option.{option_map, option_or}
use Rattle.std.proofs.lemmas.Bool.Decides.{nat_tests}
use Rattle.std.proofs.lemmas.List.{map-append}
use Rattle.std.proofs.lemmas.List.Folds.{find-append}
use mathlib.Core.Option.{some-ne-none, some-injective}
use Rattle.claim_race.specs.Race.{Win, is_of_pair}
use Rattle.claim_cells.specs.declared.parts.ShardPart.{ShardPart}
use Rattle.claim_cells.specs.Rule.{At, Has}
use Rattle.claim_cells.specs.Steps.{won_by}
use Rattle.claim_cells.specs.OneSeat.{wins_of, wins_in}

abbrev win : ShardPart → ℕ × ℕ → Win
win p pair = record { turn = pair.0; index = pair.1; shard = p.shard }

abbrev pub NoneWon : List ShardPart → ℕ → ℕ → Type 0
NoneWon parts t x = (i : ℕ) (p : ShardPart) → At parts i p → ¬ Has p.won (t, x)

same_wins : (p q : ShardPart) → q.won ≡ p.won → q.shard ≡ p.shard → wins_of q ≡ wins_of p
same_wins p q won shard =
    λ j. map (λ (pair : ℕ × ℕ). let w : Win = record { turn = pair.0; index = pair.1; shard = shard j } in w) (won j)

-- a part that won the same is put in
pub wins_kept : (parts : List ShardPart) (s : ℕ) (p q : ShardPart)
    → At parts s p
    → q.won ≡ p.won
    → q.shard ≡ p.shard
    → wins_in (set parts s q) ≡ wins_in parts
wins_kept [] s p q at won shard = absurd (some-ne-none p (sym at))
wins_kept (y ∷ ys) zero p q at won shard =
    ap (λ l. l ++ wins_in ys)
    (same_wins y q (won ∙ ap (λ (p : ShardPart). p.won) (sym (some-injective y p at)))
    (shard ∙ ap (λ (p : ShardPart). p.shard) (sym (some-injective y p at))))
wins_kept (y ∷ ys) (suc s) p q at won shard = ap (λ l. wins_of y ++ l) (wins_kept ys s p q at won shard)

or_none : (a b : Option Win) → option_or a b ≡ None → (a ≡ None) × (b ≡ None)
or_none None b e = (refl, e)
or_none (Some w) b e = cc

with_none : (a : Option Win) → option_or a None ≡ a
with_none None = refl
with_none (Some w) = refl

module _ (f : Win → Bool) where
  one_more : (p : ShardPart) (x : ℕ)
      → find f (wins_of (won_by p x)) ≡ option_or (find f (wins_of p)) (find f (win p (p.finished + 1, x) ∷ []))
  one_more p x =
      ap (find f) (map-append (win p) p.won ((p.finished + 1, x) ∷ []))
      ∙ find-append f (wins_of p) (win p (p.finished + 1, x) ∷ [])

  -- another pair's winner is the same after a pair is won
  pub other_pair : (parts : List ShardPart) (s x : ℕ) (p : ShardPart)
      → At parts s p
      → f (win p (p.finished + 1, x)) ≡ false
      → find f (wins_in (set parts s (won_by p x))) ≡ find f (wins_in parts)
  other_pair [] s x p at nay = absurd (some-ne-none p (sym at))
  other_pair (y ∷ ys) zero x p at nay =
      find-append f (wins_of (won_by p x)) (wins_in ys)
      ∙ ap (λ o. option_or o (find f (wins_in ys)))
      (one_more p x ∙ ap (λ b. option_or (find f (wins_of p)) (cond b (Some (win p (p.finished + 1, x))) None)) nay
      ∙ with_none (find f (wins_of p)) ∙ ap (λ (p : ShardPart). find f (wins_of p)) (sym (some-injective y p at)))
      ∙ sym (find-append f (wins_of y) (wins_in ys))
  other_pair (y ∷ ys) (suc s) x p at nay =
      find-append f (wins_of y) (wins_in (set ys s (won_by p x)))
      ∙ ap (option_or (find f (wins_of y))) (other_pair ys s x p at nay)
      ∙ sym (find-append f (wins_of y) (wins_in ys))

  -- a pair that nobody had won is the winner's
  pub this_pair : (parts : List ShardPart) (s x : ℕ) (p : ShardPart)
      → At parts s p
      → f (win p (p.finished + 1, x)) ≡ true
      → find f (wins_in parts) ≡ None
      → find f (wins_in (set parts s (won_by p x))) ≡ Some (win p (p.finished + 1, x))
  this_pair [] s x p at sure none = absurd (some-ne-none p (sym at))
  this_pair (y ∷ ys) zero x p at sure none =
      find-append f (wins_of (won_by p x)) (wins_in ys)
      ∙ ap (λ o. option_or o (find f (wins_in ys)))
      (one_more p x ∙ ap (λ b. option_or (find f (wins_of p)) (cond b (Some (win p (p.finished + 1, x))) None)) sure
      ∙ ap (λ o. option_or o (Some (win p (p.finished + 1, x))))
      (ap (λ (p : ShardPart). find f (wins_of p)) (sym (some-injective y p at))
      ∙ (or_none (find f (wins_of y)) (find f (wins_in ys)) (sym (find-append f (wins_of y) (wins_in ys)) ∙ none)).0))
  this_pair (y ∷ ys) (suc s) x p at sure none =
      let both =
      or_none (find f (wins_of y)) (find f (wins_in ys)) (sym (find-append f (wins_of y) (wins_in ys)) ∙ none) in
      find-append f (wins_of y) (wins_in (set ys s (won_by p x)))
      ∙ ap (λ o. option_or o (find f (wins_in (set ys s (won_by p x))))) both.0
      ∙ this_pair ys s x p at sure both.1

are_equal : (a b c d : ℕ) → (nat_eq a c && nat_eq b d) ≡ true → (a ≡ c) × (b ≡ d)
are_equal a b c d is = grind (arith, nat_tests)

are_same : (a b : ℕ) → (nat_eq a a && nat_eq b b) ≡ true
are_same a b = grind (arith, nat_tests)

module _ (t x : ℕ) where
  nothing : (p : ShardPart) (pairs : List (ℕ × ℕ))
      → ¬ Has pairs (t, x)
      → find (is_of_pair t x) (map (win p) pairs) ≡ None
  nothing p [] nay = refl
  nothing p (pair ∷ pairs) nay =
      elim (nat_eq pair.0 t && nat_eq pair.1 x) as (λ b.
      (nat_eq pair.0 t && nat_eq pair.1 x) ≡ b
      → cond b (Some (win p pair)) (find (is_of_pair t x) (map (win p) pairs)) ≡ None) [
        | true ↦ λ is.
            let e = are_equal pair.0 pair.1 t x is in absurd (nay (0, (λ j. mathlib.Core.Option.some (e.0 j, e.1 j))))
        | false ↦ λ is. nothing p pairs (λ h. nay (suc h.0, h.1))
      ] refl

  something : (p : ShardPart) (pairs : List (ℕ × ℕ)) (i : ℕ)
      → At pairs i (t, x)
      → ¬ (find (is_of_pair t x) (map (win p) pairs) ≡ None)
  something p [] i at none = some-ne-none (t, x) (sym at)
  something p (pair ∷ pairs) zero at none =
      let e : pair ≡ (t, x) = some-injective pair (t, x) at in
      let f : cond (nat_eq t t && nat_eq x x) (Some (win p (t, x))) (find (is_of_pair t x) (map (win p) pairs)) ≡ None =
      ap
      (λ (z : ℕ × ℕ). cond (nat_eq z.0 t && nat_eq z.1 x) (Some (win p z)) (find (is_of_pair t x) (map (win p) pairs)))
      (sym e)
      ∙ none in
      no_win (win p (t, x))
      (ap (λ b. cond b (Some (win p (t, x))) (find (is_of_pair t x) (map (win p) pairs))) (sym (are_same t x)) ∙ f)
    where
      no_win : (w : Win) → ¬ (Some w ≡ None)
      no_win w e = cc
  something p (pair ∷ pairs) (suc i) at none =
      elim (nat_eq pair.0 t && nat_eq pair.1 x) as
      (λ b. cond b (Some (win p pair)) (find (is_of_pair t x) (map (win p) pairs)) ≡ None → ⊥) [
        | true ↦ λ e. cc
        | false ↦ λ e. something p pairs i at e
      ] none

  pub nobody : (parts : List ShardPart) → NoneWon parts t x → find (is_of_pair t x) (wins_in parts) ≡ None
  nobody [] nay = refl
  nobody (y ∷ ys) nay =
      find-append (is_of_pair t x) (wins_of y) (wins_in ys)
      ∙ ap (λ o. option_or o (find (is_of_pair t x) (wins_in ys))) (nothing y y.won (nay 0 y refl))
      ∙ nobody ys (λ i p at. nay (suc i) p at)

  won_there : (parts : List ShardPart) (i : ℕ) (p : ShardPart)
      → At parts i p
      → Has p.won (t, x)
      → ¬ (find (is_of_pair t x) (wins_in parts) ≡ None)
  won_there [] i p at has none = some-ne-none p (sym at)
  won_there (y ∷ ys) zero p at has none =
      something y y.won has.0 (subst (λ (p : ShardPart). At p.won has.0 (t, x)) (sym (some-injective y p at)) has.1)
      (or_none (find (is_of_pair t x) (wins_of y)) (find (is_of_pair t x) (wins_in ys))
      (sym (find-append (is_of_pair t x) (wins_of y) (wins_in ys)) ∙ none)).0
  won_there (y ∷ ys) (suc i) p at has none =
      won_there ys i p at has
      (or_none (find (is_of_pair t x) (wins_of y)) (find (is_of_pair t x) (wins_in ys))
      (sym (find-append (is_of_pair t x) (wins_of y) (wins_in ys)) ∙ none)).1

  some_or : (o : Option ℕ) → ¬ (o ≡ None) → is_none o ≡ false
  some_or None nay = absurd (nay refl)
  some_or (Some n) nay = refl

  unmapped : (o : Option Win) → option_map (λ (w : Win). w.shard) o ≡ None → o ≡ None
  unmapped None e = refl
  unmapped (Some w) e = cc

  pub somebody : (parts : List ShardPart) (i : ℕ) (p : ShardPart)
      → At parts i p
      → Has p.won (t, x)
      → is_none (option_map (λ (w : Win). w.shard) (find (is_of_pair t x) (wins_in parts))) ≡ false
  somebody parts i p at has = some_or _ (λ e. won_there parts i p at has (unmapped _ e))
