-- Queue names that stand in order are apart.
use Rattle.std.proofs.Common.{◌≡◌, ℕ, zero, suc, true, List, [], ◌∷◌, refl, sym, ap, subst}
use Rattle.std.specs.Prelude.{nat_le, length}
use Rattle.std.proofs.lemmas.Option.{none-some, same_Some}
use Rattle.list_laws.specs.Lists.{In, NoRepeat}
use Rattle.list_laws.proofs.Lists.{in_read}
use Rattle.list_laws.proofs.Tests.{and_true}
use Rattle.subj.specs.declared.limits.TheConstants.{MAX_QUEUE_NAMES}
use Rattle.subj.proofs.Rising.{not_before, head_below}
use Rattle.subj.specs.QueueNames.{is_before_first, are_rising, are_queue_names}

not_behind : (x : List ℕ) (xs : List (List ℕ)) → are_rising (x ∷ xs) ≡ true → In x xs → ⊥
not_behind x xs r i = not_before x (head_below x xs r x i)

rising_apart : (xs : List (List ℕ)) → are_rising xs ≡ true → NoRepeat xs
rising_apart [] r i j x e f = absurd (none-some x e)
rising_apart (y ∷ ys) r zero zero x e f = refl
rising_apart (y ∷ ys) r zero (suc j) x e f =
    absurd (not_behind y ys r (subst (λ n. In n ys) (sym (same_Some y x e)) (in_read ys j x f)))
rising_apart (y ∷ ys) r (suc i) zero x e f =
    absurd (not_behind y ys r (subst (λ n. In n ys) (sym (same_Some y x f)) (in_read ys i x e)))
rising_apart (y ∷ ys) r (suc i) (suc j) x e f =
    ap suc (rising_apart ys (and_true (is_before_first y ys) (are_rising ys) r).1 i j x e f)

pub names_apart : (xs : List (List ℕ)) → are_queue_names xs ≡ true → NoRepeat xs
names_apart xs r = rising_apart xs (and_true (nat_le (length xs) MAX_QUEUE_NAMES) (are_rising xs) r).1
