-- What single fields that are spelt mean.
use Rattle.std.proofs.Common.{◌≡◌, ℕ, ◌≤◌, Bool, true, false, ◌&&◌, ◌||◌, cond, List, refl, ap, ◌∙◌, arith, Option, Some, None, Ok, Err}
use Rattle.std.specs.Prelude.{nat_lt, nat_le, nat_eq, is_some}
use Rattle.std.specs.Option.{ok_or}
use Rattle.std.proofs.lemmas.Bool.{le-leb}
use Rattle.std.proofs.lemmas.Bool.Decides.{nat_tests}
use Rattle.subj.specs.declared.limits.TheConstants.{MAX_INCARNATION, MAX_COUNTER}
use Rattle.subj.specs.declared.keys.Key.{Key}
use Rattle.subj.specs.Names.{pattern_fault, queue_name_fault}
use Rattle.subj.specs.Numbers.{incarnation_of}
use Rattle.route_values.specs.Snapshots.{Weighted, is_weight, weighted_key}
use Rattle.route_values.specs.Valid.{IsQueue, IsKey, IsIncarnation}
use Rattle.route_frames.specs.declared.faults.RouteFault.TheVariants.{BadArgs, BadNumber}
use Rattle.route_frames.specs.declared.line_reading.Digits.{Digits}
use Rattle.route_frames.specs.declared.line_reading.Numbers.{Numbers}
use Rattle.route_frames.specs.Meaning.{◌>>=◌}
use Rattle.route_frames.specs.CommonFields.{within, numbers_in_range, name_of}
use Rattle.route_frames.specs.NumberedLines.{optional, key_of}
use Rattle.subj.specs.declared.faults.NameFault.{NameFault}

-- ---- numbers

pub within_again : (least most n : ℕ) → least ≤ n → n ≤ most → within least most n ≡ Ok n
within_again least most n low high =
    ap (λ b. cond (b && nat_le n most) (Ok n) (Err BadNumber)) (le-leb least n low)
    ∙ ap (λ b. cond b (Ok n) (Err BadNumber)) (le-leb n most high)

inc_test : (n : ℕ) (zero above : Bool)
    → nat_eq n 0 ≡ zero
    → nat_lt MAX_INCARNATION n ≡ above
    → 1 ≤ n
    → n ≤ MAX_INCARNATION
    → (zero || above) ≡ false
inc_test n zero above z a low high = grind (arith, nat_tests)

pub incarnation_again : (n : ℕ) → IsIncarnation n → ok_or (incarnation_of n) BadNumber ≡ Ok n
incarnation_again n is = ap (λ b. ok_or (cond b None (Some n)) BadNumber) (inc_test n _ _ refl refl is.least is.most)

abbrev pub digits_spelt : ℕ → ℕ → ℕ → Digits
digits_spelt inc to_inc number = record { inc = inc; to_inc = to_inc; number = number }

abbrev pub numbers_spelt : ℕ → ℕ → ℕ → Numbers
numbers_spelt inc to_inc number = record { inc = inc; to_inc = to_inc; number = number }

pub in_range_again : (least inc to_inc number : ℕ)
    → IsIncarnation inc
    → IsIncarnation to_inc
    → least ≤ number
    → number ≤ MAX_COUNTER
    → numbers_in_range least (digits_spelt inc to_inc number) ≡ Ok (numbers_spelt inc to_inc number)
unfolding numbers_in_range
in_range_again least inc to_inc number is is_too low high =
    rw (incarnation_again inc is, incarnation_again to_inc is_too, within_again least MAX_COUNTER number low high) refl

-- ---- names

pub name_again : (fault : List ℕ → Option NameFault) (name : List ℕ) → fault name ≡ None → name_of fault name ≡ Ok name
name_again fault name is = ap (λ found. cond (is_some found) (Err BadArgs) (Ok name)) is

optional_queue_again : (queue : Option (List ℕ)) → IsQueue queue → optional (name_of queue_name_fault) queue ≡ Ok queue
optional_queue_again None is = refl
optional_queue_again (Some queue) is =
    ap (λ read. read >>= λ value. Ok (Some value)) (name_again queue_name_fault queue is)

pub key_again : (key : Key) → IsKey key → key_of key.pattern key.queue ≡ Ok key
unfolding key_of
key_again key is = rw (name_again pattern_fault key.pattern is.pattern, optional_queue_again key.queue is.queue) refl

pub weighted_again : (weighted : Weighted)
    → is_weight weighted.0 weighted.1 ≡ true
    → ok_or (weighted_key weighted.0 weighted.1) BadArgs ≡ Ok weighted
weighted_again weighted is = ap (λ b. ok_or (cond b (Some weighted) None) BadArgs) is
