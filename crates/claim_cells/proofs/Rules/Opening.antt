-- The table at the start meets the rule.
use Rattle.std.proofs.Common.{◌≡◌, ℕ, zero, suc, ◌+◌, ◌*◌, ◌<◌, ◌≤◌, List, [], ◌∷◌, length, replicate, slice_index, sym, refl, ap, ◌∙◌, subst, inl, arith, lt_of_not-le}
use Rattle.std.proofs.lemmas.List.{get_or-replicate, length-replicate}
use Rattle.std.proofs.Math.ListN.{get_or-eq_default}
use mathlib.Core.Logic.{dite}
use mathlib.Core.Option.{some-ne-none, some-injective}
use native.Mathlib.Decide.{dec_le}
use Rattle.atomic_table.specs.Table.{opening}
use Rattle.claim_cells.specs.declared.parts.ShardPart.{ShardPart}
use Rattle.claim_cells.specs.declared.parts.View.{View}
use Rattle.claim_cells.specs.Rule.{At, Has, Law, Words, Seated, Kept, row, newcomer, newcomers, fresh_hub, whole_view}
use Rattle.claim_cells.proofs.Rules.Lists.{un_some}

zeros : (n i : ℕ) → slice_index (replicate n 0) i ≡ 0
zeros n i =
    dite (dec_le n i)
    (λ le. get_or-eq_default (replicate n 0) 0 (subst (λ (k : ℕ). k ≤ i) (sym (length-replicate n 0)) le))
    (λ gt. get_or-replicate n i 0 0 (lt_of_not-le gt))

newcomer_at : (s n i : ℕ) (p : ShardPart) → At (newcomers s n) i p → (p ≡ newcomer (s + i)) × (i < n)
newcomer_at s zero i p e = absurd (some-ne-none p (sym e))
newcomer_at s (suc n) zero p e = (sym (some-injective (newcomer s) p e) ∙ ap newcomer (omega arith), omega arith)
newcomer_at s (suc n) (suc i) p e =
    let t = newcomer_at (suc s) n i p e in (t.0 ∙ ap newcomer (omega arith), (let k = t.1 in omega arith))

pub newcomers_length : (s n : ℕ) → length (newcomers s n) ≡ n
newcomers_length s zero = refl
newcomers_length s (suc n) = ap suc (newcomers_length (suc s) n)

one_view : (v w : View) (j : ℕ) → At (v ∷ []) j w → (j ≡ 0) × (v ≡ w)
one_view v w zero e = (refl, some-injective v w e)
one_view v w (suc j) e = absurd (some-ne-none w (sym e))

none_has : {A : Type 0} {B : Type 0} (a : A) → Has [] a → B
none_has a h = absurd (some-ne-none a (sym h.1))

module _ (limit window names count : ℕ) where
  pub is_new : (s : ℕ) (p : ShardPart) → At (newcomers 1 count) s p → p ≡ newcomer (s + 1)
  is_new s p e = (newcomer_at 1 count s p e).0 ∙ ap newcomer (omega arith)

  law : Law limit window names fresh_hub (newcomers 1 count)
  law = record {
    named = λ s p e. ap (λ p. p.shard) (is_new s p e);
    limited = omega arith;
    finishes = λ s p e. let k = ap (λ (p : ShardPart). p.finished) (is_new s p e) in omega arith;
    looks = λ s f p h e. none_has (p.shard, f) h;
    sees = λ s n p e h. none_has n (subst (λ (p : ShardPart). Has p.loads n) (is_new s p e) h);
    near = λ s p e. omega arith;
    won = λ s p e t x h. none_has (t, x) (subst (λ (p : ShardPart). Has p.won (t, x)) (is_new s p e) h);
    lost = λ s p e t x h. none_has (t, x) (subst (λ (p : ShardPart). Has p.lost (t, x)) (is_new s p e) h);
    once = λ s r i j p q pair e _ h _. none_has pair (subst (λ (p : ShardPart). Has p.won pair) (is_new s p e) (i, h));
    others = λ s p pair e h. none_has pair (subst (λ (p : ShardPart). Has p.lost pair) (is_new s p e) h);
  }

  said : (words : List ℕ)
      → words ≡ replicate (count + 1 + window * names) 0
      → Words window names count words fresh_hub (newcomers 1 count)
  said words is = record {
    width = ap length is ∙ length-replicate (count + 1 + window * names) 0;
    shards = newcomers_length 1 count;
    issued = zero_at 0;
    finished = λ s p e. zero_at (s + 1) ∙ ap (λ p. p.finished) (sym (is_new s p e));
    greatest = λ s t x p e h. none_has (t, x) (subst (λ (p : ShardPart). Has p.won (t, x)) (is_new s p e) h);
    cells = λ c low. inl (zero_at (count + 1 + c));
  }
    where
      zero_at : (i : ℕ) → slice_index words i ≡ 0
      zero_at i = ap (λ (l : List ℕ). slice_index l i) is ∙ zeros (count + 1 + window * names) i

  seated : Seated (whole_view count ∷ []) fresh_hub (newcomers 1 count)
  seated = record {
    place = λ s. (0, s);
    desk = 0;
    shards = λ j i w p e k.
        let one = one_view (whole_view count) w j e in
        let k' : At (newcomers 1 count) i p = subst (λ (u : View). At u.shards i p) (sym one.1) k in
        let is : row p ≡ i = (let a = ap (λ (p : ShardPart). p.shard) (is_new i p k') in omega arith) in
        (subst (λ (s : ℕ). At (newcomers 1 count) s p) (sym is) k', λ m. (sym one.0 m, is m));
    hubs = λ j w h e is.
        let one = one_view (whole_view count) w j e in
        (sym (un_some fresh_hub h (ap (λ (u : View). u.hub) one.1 ∙ is)), one.0);
    each = λ s p e. (whole_view count, refl, e);
    one = (whole_view count, refl, refl);
  }

  pub opens : (S : Type 0) (words : List ℕ)
      → words ≡ replicate (count + 1 + window * names) 0
      → Kept {S = S} limit window names count (opening words [] (whole_view count))
  opens S words is = (fresh_hub, newcomers 1 count, law, said words is, seated)
