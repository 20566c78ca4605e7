-- Jobs that stand in a list one behind another.
use Rattle.std.proofs.Common.{◌≡◌, ℕ, zero, suc, ◌+◌, ◌-◌, ◌<◌, ◌≤◌, List, [], ◌∷◌, length, take, drop, slice_get, slice_range, Some, refl, sym, ap, ◌∙◌, arith, length-drop, take_all}
use Rattle.std.proofs.lemmas.List.{drop-drop, length-take-le, take-take}
use Rattle.subj.specs.declared.jobs.Job.{Job}

at_front : (n : ℕ) (jobs : List Job) (k : ℕ) → k < n → slice_get (take n jobs) k ≡ slice_get jobs k
at_front zero jobs k low = absurd (omega arith)
at_front (suc n) [] k low = refl
at_front (suc n) (job ∷ jobs) zero low = refl
at_front (suc n) (job ∷ jobs) (suc k) low = at_front n jobs k (omega (arith, low))

at_back : (n : ℕ) (jobs : List Job) (k p : ℕ) → p ≡ n + k → slice_get (drop n jobs) k ≡ slice_get jobs p
at_back zero jobs k p is = let same : k ≡ p = omega (arith, is) in ap (slice_get jobs) same
at_back (suc n) [] k p is = refl
at_back (suc n) (job ∷ jobs) k zero is = absurd (omega (arith, is))
at_back (suc n) (job ∷ jobs) k (suc p) is = at_back n jobs k p (omega (arith, is))

pub length_in : (jobs : List Job) (start end : ℕ) → start ≤ end → end ≤ length jobs
    → length (slice_range jobs start end) ≡ end - start
length_in jobs start end order within =
    length-take-le (end - start) (drop start jobs) (let e = length-drop start jobs in omega (arith, e, order, within))

pub got : (jobs : List Job) (start end place : ℕ) (job : Job) → place < end - start
    → slice_get jobs (start + place) ≡ Some job
    → slice_get (slice_range jobs start end) place ≡ Some job
got jobs start end place job low is =
    at_front (end - start) (drop start jobs) place low ∙ at_back start jobs place (start + place) refl ∙ is

pub first_in : (jobs : List Job) (start end count : ℕ) → count ≤ end - start
    → slice_range jobs start (start + count) ≡ take count (slice_range jobs start end)
first_in jobs start end count few =
    ap (λ n. take n (drop start jobs)) {x = start + count - start} {y = count} (omega arith)
    ∙ sym (take-take count (end - start) (drop start jobs) few)

none_behind : (n : ℕ) → take {A = Job} n [] ≡ []
none_behind zero = refl
none_behind (suc n) = refl

drop_front : (count n : ℕ) (jobs : List Job) → drop count (take n jobs) ≡ take (n - count) (drop count jobs)
drop_front zero n jobs = let same : n ≡ n - 0 = omega arith in ap (λ m. take m jobs) same
drop_front (suc count) zero jobs =
    let none : 0 ≡ 0 - suc count = omega arith in ap (λ m. take m (drop (suc count) jobs)) none
drop_front (suc count) (suc n) [] = sym (none_behind (suc n - suc count))
drop_front (suc count) (suc n) (job ∷ jobs) =
    let same : n - count ≡ suc n - suc count = omega arith in
    drop_front count n jobs ∙ ap (λ m. take m (drop count jobs)) same

pub behind_in : (jobs : List Job) (start end count : ℕ)
    → slice_range jobs (start + count) end ≡ drop count (slice_range jobs start end)
behind_in jobs start end count =
    let same : end - (start + count) ≡ end - start - count = omega arith in
    ap (λ n. take n (drop (start + count) jobs)) same
    ∙ ap (λ l. take (end - start - count) l) (sym (drop-drop count start jobs))
    ∙ sym (drop_front count (end - start) (drop start jobs))

pub from_in : (jobs : List Job) (start : ℕ) → slice_range jobs start (length jobs) ≡ drop start jobs
from_in jobs start =
    take_all (length jobs - start) (drop start jobs) (let e = length-drop start jobs in omega (arith, e))

-- a place of such a part is one of the block
pub place_in : (jobs : List Job) (start end place : ℕ) (seen : List Job) → start ≤ end → end ≤ length jobs
    → slice_range jobs start end ≡ seen
    → place < length seen
    → place < end - start
place_in jobs start end place seen order within same low =
    let count = sym (ap (λ (l : List Job). length l) same) ∙ length_in jobs start end order within in
    omega (arith, count, low)
