-- Places of names.
use Rattle.std.proofs.Common.{◌≡◌, ℕ, ◌≤◌, Bool, true, false, cond, List, length, Some, None, refl, sym, arith}
use Rattle.std.specs.Prelude.{nat_lt}
use Rattle.std.specs.List.{position, position_or_len}
use Rattle.std.proofs.lemmas.List.Sums.{prefix_len-le-length}
use Rattle.std.proofs.lemmas.Option.{none-some, same_Some}
use Rattle.list_laws.proofs.Tests.{lt_false}

pub place_found : {A : Type 0} (p : A → Bool) (xs : List A) (n : ℕ) → Some n ≡ position p xs → n ≡ position_or_len p xs
place_found p xs n e = go (nat_lt (position_or_len p xs) (length xs)) e
  where
    go : (b : Bool) → Some n ≡ cond b (Some (position_or_len p xs)) None → n ≡ position_or_len p xs
    go true f = same_Some n (position_or_len p xs) f
    go false f = absurd (none-some n (sym f))

pub no_place : {A : Type 0} (p : A → Bool) (xs : List A) → None ≡ position p xs → length xs ≡ position_or_len p xs
no_place p xs e = go (nat_lt (position_or_len p xs) (length xs)) refl e
  where
    go : (b : Bool)
        → nat_lt (position_or_len p xs) (length xs) ≡ b
        → None ≡ cond b (Some (position_or_len p xs)) None
        → length xs ≡ position_or_len p xs
    go true is f = absurd (none-some (position_or_len p xs) f)
    go false is f =
        let above = lt_false (position_or_len p xs) (length xs) is in
        let below : position_or_len p xs ≤ length xs = prefix_len-le-length _ xs in
        omega arith
