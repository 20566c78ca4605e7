-- Each line that is told comes a second after the tenth before it, and the last ten times are enough to see it.
use Rattle.std.proofs.Common.{◌≡◌, ◌∙◌, ap, refl, arith, ℕ, zero, suc, ◌+◌, ◌-◌, ◌<◌, ◌≤◌, Bool, true, false, cond, List, [], ◌∷◌, take, Option, Some, None}
use Rattle.std.specs.Prelude.{IfSome, nat_le, slice_get}
use Rattle.std.specs.Option.{option_map_or}
use Rattle.std.proofs.lemmas.Bool.{leb-true}
use Rattle.std.proofs.lemmas.List.{take-take}
use Rattle.event_log.specs.Rates.{AreApart, AtMostTenInASecond, has_room, kept_after, kept_of, told_of}

-- where there is room, the tenth line before is a second old
apart : (o : Option ℕ) (now : ℕ)
    → option_map_or (λ tenth. nat_le 1000 (now - tenth)) o true ≡ true
    → IfSome o (λ tenth. tenth + 1000 ≤ now)
apart None now e = tt
apart (Some tenth) now e = let old : 1000 ≤ now - tenth = leb-true 1000 (now - tenth) e in omega arith

told_apart : (times : List ℕ) → AreApart (told_of times)
unfolding told_of
told_apart [] = tt
told_apart (now ∷ before) = go (has_room (told_of before) now) refl (told_apart before)
  where
    go : (b : Bool)
        → has_room (told_of before) now ≡ b
        → AreApart (told_of before)
        → AreApart (cond b (now ∷ told_of before) (told_of before))
    go true e rest = (apart (slice_get (told_of before) 9) now e, rest)
    go false e rest = rest

-- what stands among the first n stands in the list at the same place
front_get : (n i : ℕ) (xs : List ℕ) → i < n → slice_get (take n xs) i ≡ slice_get xs i
front_get zero i xs h = let bad : ⊥ = omega arith in absurd bad
front_get (suc n) i [] h = refl
front_get (suc n) zero (x ∷ xs) h = refl
front_get (suc n) (suc i) (x ∷ xs) h = front_get n i xs (omega arith)

-- the last ten times tell whether there is room, and which are the last ten then
same_after : (told : List ℕ) (now : ℕ)
    → kept_after (take 10 told) now ≡ take 10 (cond (has_room told now) (now ∷ told) told)
same_after told now =
    ap (λ (b : Bool). cond b (now ∷ take 9 (take 10 told)) (take 10 told)) room ∙ go (has_room told now)
  where
    room : has_room (take 10 told) now ≡ has_room told now
    room =
        ap (λ (o : Option ℕ). option_map_or (λ tenth. nat_le 1000 (now - tenth)) o true)
        (front_get 10 9 told (omega arith))

    go : (b : Bool) → cond b (now ∷ take 9 (take 10 told)) (take 10 told) ≡ take 10 (cond b (now ∷ told) told)
    go true = ap (λ (xs : List ℕ). now ∷ xs) (take-take 9 10 told (omega arith))
    go false = refl

kept_is : (times : List ℕ) → kept_of times ≡ take 10 (told_of times)
unfolding told_of kept_of
kept_is [] = refl
kept_is (now ∷ before) = ap (λ (kept : List ℕ). kept_after kept now) (kept_is before) ∙ same_after (told_of before) now

pub at_most_ten : AtMostTenInASecond
at_most_ten times = (told_apart times, kept_is times)
