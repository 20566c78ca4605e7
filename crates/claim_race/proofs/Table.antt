-- Who won a pair, as the table tells.
use Rattle.std.proofs.Common.{◌≡◌, ◌≢◌, ℕ, ◌<◌, Bool, true, false, ◌&&◌, cond, List, [], ◌∷◌, length, get_or, set, Option, Some, None, refl, ap, sym, ◌∙◌, arith}
use Rattle.std.specs.Prelude.{nat_eq, find, slice_get}
use Rattle.std.specs.Option.{option_map}
use Rattle.std.proofs.lemmas.Bool.Decides.{nat_tests}
use Rattle.std.proofs.lemmas.List.Folds.{find_at, find_past}
use Rattle.std.proofs.lemmas.List.Sums.{position_or_len_is}
use Rattle.std.proofs.lemmas.Option.{slice_get_past, slice_get-get_or}
use Rattle.claim_race.specs.declared.plain_race.Claimed.{Claimed}
use Rattle.claim_race.specs.Race.{Win, is_of_pair}
use Rattle.claim_race.specs.PlainRace.{cell, win_of, wins_in, IsTable}

-- the place holds the pair
abbrev pub holds : ℕ → ℕ → Option Claimed → Bool
holds t i None = false
holds t i (Some claimed) = is_of_pair t i (win_of claimed)

abbrev shard_at : Option (Option Claimed) → Option ℕ
shard_at None = None
shard_at (Some None) = None
shard_at (Some (Some claimed)) = Some claimed.shard

abbrev pub winner_in : List (Option Claimed) → ℕ → ℕ → Option ℕ
winner_in table t i = option_map (λ (win : Win). win.shard) (find (is_of_pair t i) (wins_in table))

found : (table : List (Option Claimed)) (t i : ℕ) → winner_in table t i ≡ shard_at (find (holds t i) table)
found [] t i = refl
found (None ∷ table) t i = found table t i
found (Some claimed ∷ table) t i =
    elim (is_of_pair t i (win_of claimed)) as (λ b.
    option_map (λ (win : Win). win.shard) (cond b (Some (win_of claimed)) (find (is_of_pair t i) (wins_in table)))
    ≡ shard_at (cond b (Some (Some claimed)) (find (holds t i) table))) [
      | true ↦ refl
      | false ↦ found table t i
    ]

-- what a place holds
pub told : (t i : ℕ) (place : Option Claimed)
    → holds t i place ≡ true
    → (claimed : Claimed) × (place ≡ Some claimed) × (claimed.turn ≡ t) × (claimed.index ≡ i)
told t i None is = cc
told t i (Some claimed) is = let same = both claimed.turn claimed.index t i is in (claimed, refl, same.0, same.1) where
  both : (a b t i : ℕ) → (nat_eq a t && nat_eq b i) ≡ true → (a ≡ t) × (b ≡ i)
  both a b t i is = grind (arith, nat_tests)

pub holds_it : (claimed : Claimed) → holds claimed.turn claimed.index (Some claimed) ≡ true
holds_it claimed = same claimed.turn claimed.index where
  same : (a b : ℕ) → (nat_eq a a && nat_eq b b) ≡ true
  same a b = grind (arith, nat_tests)

pub nobody : (table : List (Option Claimed)) (t i : ℕ)
    → ((k : ℕ) → k < length table → holds t i (get_or table k None) ≡ false)
    → winner_in table t i ≡ None
nobody table t i none =
    found table t i
    ∙ ap shard_at (find_at (holds t i) table
    ∙ ap (slice_get table)
    (position_or_len_is (holds t i) table (length table) None (omega arith) none (λ lt. absurd (omega arith)))
    ∙ slice_get_past table (length table) (omega arith))

pub somebody : (table : List (Option Claimed)) (t i k : ℕ) (claimed : Claimed)
    → k < length table
    → ((j : ℕ) → j < k → holds t i (get_or table j None) ≡ false)
    → get_or table k None ≡ Some claimed
    → holds t i (Some claimed) ≡ true
    → winner_in table t i ≡ Some claimed.shard
somebody table t i k claimed below before is here =
    found table t i
    ∙ ap shard_at (find_at (holds t i) table
    ∙ ap (slice_get table)
    (position_or_len_is (holds t i) table k None (omega arith) before (λ _. ap (holds t i) is ∙ here))
    ∙ slice_get-get_or table k None below
    ∙ ap (λ (place : Option Claimed). let there : Option (Option Claimed) = Some place in there) is)

pub unchanged : (table : List (Option Claimed)) (t i k : ℕ) (place : Option Claimed)
    → holds t i (get_or table k None) ≡ false
    → holds t i place ≡ false
    → winner_in (set table k place) t i ≡ winner_in table t i
unchanged table t i k place old new =
    found (set table k place) t i
    ∙ ap shard_at (find_past (holds t i) table k place None old new)
    ∙ sym (found table t i)

-- a place other than the pair's doesn't hold it
pub elsewhere : (issued : ℕ) (finished : List ℕ) (table : List (Option Claimed))
    → IsTable issued finished table
    → (t i k : ℕ)
    → k ≢ cell t i
    → holds t i (get_or table k None) ≡ false
elsewhere issued finished table is t i k other =
    elim (holds t i (get_or table k None)) as (λ b. holds t i (get_or table k None) ≡ b → b ≡ false) [
      | true ↦ λ yes.
          let what = told t i (get_or table k None) yes in
          absurd (other (sym (is.placed k what.0 what.1).0 ∙ ap (λ n. cell n what.0.index) what.2 ∙ ap (cell t) what.3))
      | false ↦ λ _. refl
    ] refl
