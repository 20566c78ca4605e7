-- Numbers as turns.
use Rattle.std.proofs.Common.{◌≡◌, ℕ, ◌≤◌, cond, Option, Some, None, refl, sym, ◌∙◌, subst, arith}
use Rattle.std.specs.Prelude.{nat_lt}
use Rattle.std.specs.Option.{IsSome}
use Rattle.std.proofs.lemmas.Bool.Decides.{nat_tests}
use Rattle.subj.specs.Numbers.{turn_of}
use Rattle.subj.specs.declared.limits.TheConstants.{MAX_COUNTER}

within : (limit n : ℕ) → n ≤ limit → cond (nat_lt limit n) None (Some n) ≡ Some n
within limit n le = grind (arith, nat_tests)

told : (limit n r : ℕ) → cond (nat_lt limit n) None (Some n) ≡ Some r → r ≡ n
told limit n r is = grind (arith, nat_tests)

pub is_turn : (n : ℕ) → n ≤ MAX_COUNTER → turn_of n ≡ Some n
is_turn n le = within MAX_COUNTER n le

pub some_turn : (n : ℕ) (o : Option ℕ) → o ≡ turn_of n → n ≤ MAX_COUNTER → IsSome o
some_turn n o is le = subst IsSome (sym (is ∙ is_turn n le)) refl

pub same_turn : (n r : ℕ) (o : Option ℕ) → o ≡ turn_of n → o ≡ Some r → r ≡ n
same_turn n r o is some = told MAX_COUNTER n r (sym is ∙ some)
