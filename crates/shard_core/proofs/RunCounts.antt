-- Subscriptions counted: what a count leaves, and the counts of a job and of a run.
use Rattle.std.proofs.Common.{◌≡◌, ℕ, ◌+◌, ◌≤◌, Bool, true, false, cond, List, [], ◌∷◌, length, map, filter}
use Rattle.std.proofs.Common.{Option, Some, None, refl, sym, ap, ◌∙◌, inl, inr, ◌⊎◌, ⊎_elim, arith, ◌≢◌}
use Rattle.std.specs.Prelude.{nat_eq, nat_le}
use Rattle.std.specs.List.{list_any}
use Rattle.list_laws.specs.Lists.{In}
use Rattle.list_laws.proofs.Lists.{pairs_cases, in_map}
use Rattle.list_laws.proofs.Changes.{map_map, map_same, map_filter, in_filter, filter_in, in_mapped, pairs_map_back}
use Rattle.list_laws.proofs.Tests.{le_true, le_false, has_in, in_has}
use Rattle.sub_table.specs.Subscriptions.{serial_of}
use Rattle.sub_table.specs.declared.Subscription.{Subscription}
use Rattle.subj.specs.declared.jobs.Job.{Job}
use Rattle.shard_core.specs.Closings.{is_left, serials_of}
use Rattle.shard_core.specs.Opened.{AreApart}
use Rattle.shard_core.specs.Owed.{is_due, sub_with_count, reaches}
use Rattle.shard_core.specs.Runs.{times_due, sub_with_run}

-- ---- a subscription with another count

abbrev pub recounted : (Subscription → ℕ) → Subscription → Subscription
recounted count sub = record sub { delivered = count sub }

pub due_recounted : (count : Subscription → ℕ) (job : Job) (subs : List Subscription)
    → filter (is_due job) (map (recounted count) subs) ≡ map (recounted count) (filter (is_due job) subs)
due_recounted count job subs = map_filter (recounted count) (is_due job) (is_due job) subs (λ x. refl)

pub serials_recounted : (count : Subscription → ℕ) (subs : List Subscription)
    → serials_of (map (recounted count) subs) ≡ serials_of subs
serials_recounted count subs = map_map (recounted count) serial_of subs

pub with_count : (sub : Subscription) (m n : ℕ)
    → m ≡ n → (record sub { delivered = m }) ≡ (record sub { delivered = n })
with_count sub m n same = ap (λ (k : ℕ). record sub { delivered = k }) same

-- ---- the counts of a job, and of a run

abbrev pub one_if : Bool → ℕ
one_if b = cond b 1 0

-- one more for whoever gets the job
abbrev pub with_job : Job → Subscription → ℕ
with_job job sub = sub.delivered + one_if (is_due job sub)

pub times_first : (job : Job) (jobs : List Job) (sub : Subscription)
    → times_due (job ∷ jobs) sub ≡ one_if (is_due job sub) + times_due jobs sub
times_first job jobs sub = by (is_due job sub) (filter (λ j. is_due j sub) jobs)
  where
    by : (b : Bool) (rest : List Job) → length (cond b (job ∷ rest) rest) ≡ one_if b + length rest
    by true rest = omega arith
    by false rest = omega arith

pub count_on : (job : Job) (jobs : List Job) (x : Subscription)
    → with_job job x + times_due jobs x ≡ x.delivered + times_due (job ∷ jobs) x
count_on job jobs x = omega (arith, times_first job jobs x)

pub run_counted : (job : Job) (jobs : List Job) (subs : List Subscription)
    → map (sub_with_run jobs) (map (recounted (with_job job)) subs) ≡ map (sub_with_run (job ∷ jobs)) subs
run_counted job jobs subs =
    map_map (recounted (with_job job)) (sub_with_run jobs) subs
    ∙ map_same (λ x. sub_with_run jobs (recounted (with_job job) x)) (sub_with_run (job ∷ jobs)) subs
    (λ x. with_count x (with_job job x + times_due jobs x) (x.delivered + times_due (job ∷ jobs) x)
    (count_on job jobs x))

pub no_jobs_counted : (subs : List Subscription) → map (sub_with_run []) subs ≡ subs
no_jobs_counted [] = refl
no_jobs_counted (x ∷ xs) = λ i. with_count x (x.delivered + 0) x.delivered (omega arith) i ∷ no_jobs_counted xs i

-- ---- nothing closes

pub none_closed : (subs : List Subscription) → filter (is_left []) subs ≡ subs
none_closed [] = refl
none_closed (x ∷ xs) = ap (λ l. x ∷ l) (none_closed xs)

-- ---- one job counted by serials

pub map_same_in : {A B : Type 0} (f g : A → B) (xs : List A)
    → ((x : A) → In x xs → f x ≡ g x) → map f xs ≡ map g xs
map_same_in f g [] same = refl
map_same_in f g (x ∷ xs) same = λ i. same x (inl refl) i ∷ map_same_in f g xs (λ y there. same y (inr there)) i

-- two that are open under one serial are the same
pub one_serial : (subs : List Subscription) (x y : Subscription)
    → AreApart (serials_of subs) → In x subs → In y subs → x.serial ≡ y.serial → x ≡ y
one_serial subs x y apart i j same =
    ⊎_elim (λ (e : x ≡ y). e)
    (λ (either : (x.serial ≢ y.serial) ⊎ (y.serial ≢ x.serial)).
    ⊎_elim (λ (n : x.serial ≢ y.serial). absurd (n same)) (λ (n : y.serial ≢ x.serial). absurd (n (sym same))) either)
    (pairs_cases (λ (u v : Subscription). u.serial ≢ v.serial) subs
    (pairs_map_back (λ (j k : ℕ). j ≢ k) serial_of subs apart) x y i j)

-- a serial stands among those of whoever gets the job just where its subscription does
is_counted : (job : Job) (subs : List Subscription) (x : Subscription) → AreApart (serials_of subs) → In x subs
    → list_any (nat_eq x.serial) (serials_of (filter (is_due job) subs)) ≡ is_due job x
is_counted job subs x apart i = by (is_due job x) refl (list_any (nat_eq x.serial) (serials_of due)) refl
  where
    due : List Subscription
    due = filter (is_due job) subs

    by : (is : Bool) → is_due job x ≡ is
        → (any : Bool) → list_any (nat_eq x.serial) (serials_of due) ≡ any → any ≡ is
    by true is true e = refl
    by true is false e =
        sym e ∙ in_has x.serial (serials_of due) (in_mapped serial_of due x (filter_in (is_due job) subs x i is))
    by false is false e = refl
    by false is true e =
        let found = in_map serial_of due x.serial (has_in x.serial (serials_of due) e) in
        let there = in_filter (is_due job) subs found.0 found.1 in
        let same : x ≡ found.0 = one_serial subs x found.0 apart i there.0 found.2 in
        sym there.1 ∙ ap (is_due job) (sym same) ∙ is

counted_if : (sub : Subscription) (b : Bool)
    → cond b (record sub { delivered = sub.delivered + 1 }) sub ≡ (record sub { delivered = sub.delivered + one_if b })
counted_if sub true = refl
counted_if sub false = with_count sub sub.delivered (sub.delivered + 0) (omega arith)

pub job_counted : (job : Job) (subs : List Subscription) → AreApart (serials_of subs)
    → map (sub_with_count (serials_of (filter (is_due job) subs))) subs ≡ map (recounted (with_job job)) subs
job_counted job subs apart =
    map_same_in (sub_with_count (serials_of (filter (is_due job) subs))) (recounted (with_job job)) subs
    (λ x there. ap (λ b. cond b (record x { delivered = x.delivered + 1 }) x) (is_counted job subs x apart there)
    ∙ counted_if x (is_due job x))

-- ---- a maximum that more messages do not reach is not reached by fewer

pub fewer_reach : (max : Option ℕ) (less more : ℕ) → less ≤ more → reaches max more ≡ false → reaches max less ≡ false
fewer_reach None less more le e = refl
fewer_reach (Some max) less more le e = by (nat_le max less) refl
  where
    by : (b : Bool) → nat_le max less ≡ b → b ≡ false
    by false is = refl
    by true is =
        let below = le_true max less is in
        let above = le_false max more e in
        absurd (omega (arith, below, above))
