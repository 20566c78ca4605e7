-- The first shard that is too far behind.
use Rattle.std.proofs.Common.{◌≡◌, ℕ, ◌+◌, ◌<◌, ◌≤◌, Bool, false, not, cond, List, [], ◌∷◌, length, get_or, map, Option, Some, None, refl, ap, sym, ◌∙◌, arith}
use Rattle.std.specs.Prelude.{nat_lt, position}
use Rattle.std.specs.Option.{option_map}
use Rattle.std.specs.List.{prefix_len, position_or_len}
use Rattle.std.proofs.lemmas.Bool.Decides.{nat_tests}
use Rattle.std.proofs.lemmas.List.{length-map, get_or-map}
use Rattle.std.proofs.lemmas.List.Sums.{fails_before_first}
use Rattle.list_laws.proofs.Positions.{not_below}
use Rattle.subj.specs.declared.limits.TheConstants.{WINDOW}
use Rattle.subj.specs.declared.turns.Busy.{Busy}
use Rattle.claim_race.specs.declared.plain_race.Progress.{Progress}
use Rattle.claim_race.specs.Race.{busy_of, busy_at, is_behind}
use Rattle.claim_race.specs.PlainRace.{finished_in}

prefix_len-map : {A B : Type 0} (f : A → B) (p : B → Bool) (xs : List A)
    → prefix_len p (map f xs) ≡ prefix_len (λ x. p (f x)) xs
prefix_len-map f p [] = refl
prefix_len-map f p (x ∷ xs) = ap (λ n. cond (p (f x)) (1 + n) 0) (prefix_len-map f p xs)

position-map : {A B : Type 0} (f : A → B) (p : B → Bool) (xs : List A)
    → position p (map f xs) ≡ position (λ x. p (f x)) xs
position-map f p xs =
    ap (λ n. cond (nat_lt n (length (map f xs))) (Some n) None) (prefix_len-map f (λ x. not (p x)) xs)
    ∙ ap (λ n. cond (nat_lt (prefix_len (λ x. not (p (f x))) xs) n) (Some (prefix_len (λ x. not (p (f x))) xs)) None)
    (length-map xs f)

busy_is : (issued : ℕ) (progress : List Progress)
    → busy_of issued (finished_in progress)
    ≡ option_map (busy_at (finished_in progress)) (position (λ shard. is_behind issued shard.finished) progress)
unfolding busy_of
busy_is issued progress =
    ap (option_map (busy_at (finished_in progress)))
    (position-map (λ (shard : Progress). shard.finished) (is_behind issued) progress)

pub no_busy : (issued : ℕ) (progress : List Progress)
    → position (λ shard. is_behind issued shard.finished) progress ≡ None
    → busy_of issued (finished_in progress) ≡ None
no_busy issued progress none = busy_is issued progress ∙ ap (option_map (busy_at (finished_in progress))) none

pub some_busy : (issued : ℕ) (progress : List Progress) (place : ℕ) (shard : Progress)
    → position (λ shard. is_behind issued shard.finished) progress ≡ Some place
    → place < length progress
    → shard ≡ get_or progress place shard
    → busy_of issued (finished_in progress) ≡ Some (record { shard = place + 1; finished = shard.finished })
some_busy issued progress place shard some below is =
    busy_is issued progress
    ∙ ap (option_map (busy_at (finished_in progress))) some
    ∙ ap (λ (n : ℕ). let busy : Option Busy = Some (record { shard = place + 1; finished = n }) in busy)
    (get_or-map (λ (shard : Progress). shard.finished) progress place shard 0 below
    ∙ ap (λ (shard : Progress). shard.finished) (sym is))

not_behind : (issued finished : ℕ) → is_behind issued finished ≡ false → issued + 1 ≤ finished + WINDOW
not_behind issued finished is = grind (arith, nat_tests)

unmapped : {A B : Type 0} (f : A → B) (o : Option A) → option_map f o ≡ None → o ≡ None
unmapped f None none = refl
unmapped f (Some x) none = cc

-- where no shard is too far behind, the next turn is in the window of each
pub room : (issued : ℕ) (finished : List ℕ)
    → busy_of issued finished ≡ None
    → (place : ℕ)
    → place < length finished
    → issued + 1 ≤ get_or finished place 0 + WINDOW
unfolding busy_of
room issued finished none place below =
    let past : length finished ≤ position_or_len (is_behind issued) finished =
    not_below _ _ (unmapped (busy_at finished) (position (is_behind issued) finished) none) in
    not_behind issued _ (fails_before_first (is_behind issued) finished place 0 (omega arith))
