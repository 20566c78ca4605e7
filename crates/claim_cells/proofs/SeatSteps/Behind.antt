-- The first shard that is too far behind.
use Rattle.std.proofs.Common.{◌≡◌, ℕ, ◌+◌, ◌-◌, ◌<◌, ◌≤◌, true, false, cond, List, length, get_or, take, Option, Some, None, refl, ap, sym, ◌∙◌, arith, length-take-le, get_or-take}
use Rattle.std.specs.Prelude.{nat_lt, nat_eq, position, slice_get, unwrap_or}
use Rattle.std.specs.Option.{option_map}
use Rattle.std.specs.List.{position_or_len}
use Rattle.std.proofs.lemmas.Bool.Decides.{nat_tests}
use Rattle.std.proofs.lemmas.List.Sums.{fails_before_first, position_or_len_is}
use Rattle.std.proofs.lemmas.Option.{slice_get-get_or}
use Rattle.subj.specs.Numbers.{finished_turn}
use Rattle.subj.specs.declared.limits.TheConstants.{WINDOW}
use Rattle.subj.specs.declared.turns.Busy.{Busy}
use Rattle.claim_race.specs.Race.{busy_of, busy_at, is_behind}

later : (a b n : ℕ) → b < a → cond (nat_eq a b) 0 n ≡ n
later a b n low = grind (arith, nat_tests)

-- a shard that stands in the list has the turn that stands there
pub turn_there : (turns : List ℕ) (k : ℕ) → k < length turns → finished_turn turns (k + 1) ≡ get_or turns k 0
turn_there turns k low =
    later (k + 1) 0 (unwrap_or (slice_get turns (k + 1 - 1)) 0) (omega arith)
    ∙ ap (λ (i : ℕ). unwrap_or (slice_get turns i) 0) {x = k + 1 - 1} {y = k} (omega arith)
    ∙ ap (λ (o : Option ℕ). unwrap_or o 0) (slice_get-get_or turns k 0 low)

pub is_far : (issued n : ℕ) → n + WINDOW < issued + 1 → is_behind issued n ≡ true
is_far issued n far = grind (arith, nat_tests)

pub is_near : (issued n : ℕ) → issued + 1 ≤ n + WINDOW → is_behind issued n ≡ false
is_near issued n near = grind (arith, nat_tests)

not_behind : (issued n : ℕ) → is_behind issued n ≡ false → issued + 1 ≤ n + WINDOW
not_behind issued n is = grind (arith, nat_tests)

found : (n len : ℕ) → n < len → cond (nat_lt n len) (Some n) None ≡ Some n
found n len low = grind (arith, nat_tests)

none : (n len : ℕ) → len ≤ n → cond (nat_lt n len) (Some n) None ≡ None
none n len past = grind (arith, nat_tests)

not_found : (n len : ℕ) → cond (nat_lt n len) (Some n) None ≡ None → len ≤ n
not_found n len e = grind (arith, nat_tests)

unmapped : {A B : Type 0} (f : A → B) (o : Option A) → option_map f o ≡ None → o ≡ None
unmapped f None none = refl
unmapped f (Some x) none = cc

module _ (issued : ℕ) (turns : List ℕ) where
  abbrev Near : ℕ → Type 0
  Near n = (k : ℕ) → k < n → is_behind issued (get_or turns k 0) ≡ false

  pub none_behind : Near (length turns) → busy_of issued turns ≡ None
  unfolding busy_of
  none_behind near =
      ap (option_map (busy_at turns))
      (none (position_or_len (is_behind issued) turns) (length turns)
      (let e =
      position_or_len_is (is_behind issued) turns (length turns) 0 (omega arith) near (λ lt. absurd (omega arith)) in
      omega arith))

  pub first_behind : (k : ℕ)
      → k < length turns
      → Near k
      → is_behind issued (get_or turns k 0) ≡ true
      → busy_of issued turns ≡ Some (record { shard = k + 1; finished = get_or turns k 0 })
  unfolding busy_of
  first_behind k low near far =
      let e : position_or_len (is_behind issued) turns ≡ k =
      position_or_len_is (is_behind issued) turns k 0 (omega arith) near (λ _. far) in
      ap (option_map (busy_at turns))
      (ap (λ n. cond (nat_lt n (length turns)) (Some n) None) e ∙ found k (length turns) low)

  pub room : busy_of issued turns ≡ None → (k : ℕ) → k < length turns → issued + 1 ≤ get_or turns k 0 + WINDOW
  unfolding busy_of
  room is k low =
      let past : length turns ≤ position_or_len (is_behind issued) turns =
      not_found _ _ (unmapped (busy_at turns) (position (is_behind issued) turns) is) in
      not_behind issued _ (fails_before_first (is_behind issued) turns k 0 (omega arith))

abbrev pub NearSome : ℕ → List ℕ → ℕ → Type 0
NearSome issued turns n = (k : ℕ) → k < n → is_behind issued (finished_turn turns (k + 1)) ≡ false

-- the same of the first turns of a list
module _ (issued shards : ℕ) (turns : List ℕ) (long : shards ≤ length turns) where
  abbrev some_of : List ℕ
  some_of = take shards turns

  counted : length some_of ≡ shards
  counted = length-take-le shards turns long

  same : (k : ℕ) → k < shards → get_or some_of k 0 ≡ finished_turn turns (k + 1)
  same k low = get_or-take shards turns k 0 low ∙ sym (turn_there turns k (omega arith))

  pub near_more : (n : ℕ)
      → NearSome issued turns n
      → is_behind issued (finished_turn turns (n + 1)) ≡ false
      → NearSome issued turns (n + 1)
  near_more n near this k low =
      elim (nat_eq k n) as (λ b. nat_eq k n ≡ b → is_behind issued (finished_turn turns (k + 1)) ≡ false) [
        | true ↦ λ e.
            ap (λ (i : ℕ). is_behind issued (finished_turn turns (i + 1))) {x = k} {y = n} (grind (arith, nat_tests))
            ∙ this
        | false ↦ λ e. near k (grind (arith, nat_tests))
      ] refl

  pub none_of_some : NearSome issued turns shards → busy_of issued some_of ≡ None
  none_of_some near =
      none_behind issued some_of (λ k low.
      let low' : k < shards = (let e = counted in omega arith) in ap (is_behind issued) (same k low') ∙ near k low')

  pub first_of_some : (k : ℕ)
      → k < shards
      → NearSome issued turns k
      → is_behind issued (finished_turn turns (k + 1)) ≡ true
      → busy_of issued some_of ≡ Some (record { shard = k + 1; finished = finished_turn turns (k + 1) })
  first_of_some k low near far =
      first_behind issued some_of k (let e = counted in omega arith)
      (λ i under. ap (is_behind issued) (same i (omega arith)) ∙ near i under)
      (ap (is_behind issued) (same k low) ∙ far)
      ∙ ap (λ (n : ℕ). let busy : Option Busy = Some (record { shard = k + 1; finished = n }) in busy) (same k low)
