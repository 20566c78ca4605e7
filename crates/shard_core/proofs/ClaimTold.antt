-- Who is told of what is put in two steps, one after the other.
use Rattle.std.proofs.Common.{◌≡◌, ℕ, ◌+◌, ◌<◌, ◌≤◌, Bool, true, false, true≢false, List, length, get_or, refl, sym, ap, ◌∙◌, arith}
use Rattle.std.specs.Prelude.{nat_lt}
use Rattle.std.proofs.lemmas.Bool.Decides.{nat_tests}
use Rattle.std.proofs.lemmas.List.{get_or_past}
use Rattle.std.proofs.lemmas.Option.{same_Some, slice_get-get_or}
use Rattle.shard_core.specs.Dirty.{Dirty, AreTold, is_client_half_full, is_dirty}
use Rattle.shard_core.specs.Shards.{Client}
use Rattle.shard_core.proofs.Clients.Told.{kept_both}

-- what comes to be true was not before, where it is not
not_before : (x y : Bool) → (x ≡ true → y ≡ true) → y ≡ false → x ≡ false
not_before true y kept is = absurd (true≢false (sym (kept refl) ∙ is))
not_before false y kept is = refl

-- a place within a list has the same element, whatever is taken beyond its end
any_default : (xs : List Client) (i : ℕ) (c d : Client) → i < length xs → get_or xs i c ≡ get_or xs i d
any_default xs i c d lt =
    same_Some (get_or xs i c) (get_or xs i d) (sym (slice_get-get_or xs i c lt) ∙ slice_get-get_or xs i d lt)

below : (n i : ℕ) → nat_lt i n ≡ true → i < n
below n i e = grind (arith, nat_tests)

not_below : (n i : ℕ) → nat_lt i n ≡ false → n ≤ i
not_below n i e = grind (arith, nat_tests)

-- where two lists agree at a place within the first, it is within the second
within_both : (xs ys : List Client) (i : ℕ) (d : Client)
    → i < length xs
    → ((x : Client) → get_or xs i x ≡ get_or ys i x)
    → i < length ys
within_both xs ys i d lt same = by (nat_lt i (length ys)) refl
  where
    by : (b : Bool) → nat_lt i (length ys) ≡ b → i < length ys
    by true e = below (length ys) i e
    by false e =
        let here : Client = get_or xs i d in
        let other : Client = record here { number = here.number + 1 } in
        let is : here ≡ other =
        any_default xs i d other lt ∙ same other ∙ get_or_past ys i other (not_below (length ys) i e) in
        let number : here.number ≡ here.number + 1 = ap (λ (c : Client). c.number) is in
        absurd (omega (arith, number))

-- who is told of the first step and of the second is told of both
module _ (a b c : List Client) (before between after : Dirty) (first : AreTold a b before between)
    (second : AreTold b c between after) where
  dirty_both : (i : ℕ) (d : Client)
      → i < length c
      → is_dirty (get_or c i d).number after ≡ false
      → get_or c i d ≡ get_or a i d
  dirty_both i d lt out =
      let same : (x : Client) → get_or c i x ≡ get_or b i x =
      λ x. second.dirty i x lt (ap (λ (y : Client). is_dirty y.number after) (any_default c i x d lt) ∙ out) in
      let n : ℕ = (get_or c i d).number in
      same d
      ∙ first.dirty i d (within_both c b i d lt same)
      (ap (λ (y : Client). is_dirty y.number between) (sym (same d))
      ∙ not_before (is_dirty n between) (is_dirty n after) (second.kept.dirty n) out)

  urgent_both : (i : ℕ) (d : Client)
      → i < length c
      → is_client_half_full (get_or c i d) ≡ true
      → after.urgent ≡ false
      → get_or c i d ≡ get_or a i d
  urgent_both i d lt half calm =
      let same : (x : Client) → get_or c i x ≡ get_or b i x =
      λ x. second.urgent i x lt (ap is_client_half_full (any_default c i x d lt) ∙ half) calm in
      same d
      ∙ first.urgent i d (within_both c b i d lt same) (ap is_client_half_full (sym (same d)) ∙ half)
      (not_before between.urgent after.urgent second.kept.urgent calm)

  pub told_both : AreTold a c before after
  told_both = record {
    dirty = dirty_both;
    urgent = urgent_both;
    kept = kept_both before between after first.kept second.kept;
  }
