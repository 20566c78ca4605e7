-- Calls in order, and the least places that come next under each lock: one call more.
use Rattle.std.specs.Prelude.{slice_index_or, slice_set}
use Rattle.std.proofs.Common.{◌≡◌, ℕ, zero, suc, ◌+◌, ◌<◌, ◌≤◌, List, [], ◌∷◌, ◌++◌, All, length, take, get_or, refl, sym, ap, ◌∙◌, subst, arith, ⊎_elim}
use Rattle.std.proofs.lemmas.List.{get_or-set_same, get_or-set_other, take_more}
use Rattle.std.proofs.lemmas.List.Elements.{All-push}
use Rattle.std.proofs.lemmas.Bool.{cases_eq, cases_lt}
use Rattle.thread_report.specs.declared.passes.Call.{Call}
use Rattle.thread_report.specs.Owed.{Precedes}

-- the least place that comes next under the lock of each of these calls is a later one
abbrev pub AreBelow : List ℕ → List Call → Type 0
AreBelow least calls = All (λ c. c.place < slice_index_or least c.lock 0) calls

-- a call at such a place, or a later one, stands behind all of them
pub comes_after : (least : List ℕ) (before : List Call) (call : Call)
    → AreBelow least before
    → slice_index_or least call.lock 0 ≤ call.place
    → All (λ c. Precedes c call) before
comes_after least before call below next k d lt same =
    let c = get_or before k d in
    let at : slice_index_or least c.lock 0 ≡ slice_index_or least call.lock 0 =
    ap (λ n. slice_index_or least n 0) same in
    omega (arith, below k d lt, next, at)

-- and once it is written down, all of them and the call are below
pub below_more : (least : List ℕ) (calls : List Call) (n : ℕ) (call : Call)
    → n < length calls
    → call ≡ get_or calls n call
    → AreBelow least (take n calls)
    → call.lock < length least
    → slice_index_or least call.lock 0 ≤ call.place
    → AreBelow (slice_set least call.lock (call.place + 1)) (take (n + 1) calls)
below_more least calls n call lt is below room next =
    let more = slice_set least call.lock (call.place + 1) in
    let same : slice_index_or more call.lock 0 ≡ call.place + 1 =
    get_or-set_same least call.lock (call.place + 1) 0 room in
    let here : call.place < slice_index_or more call.lock 0 = omega (arith, same) in
    subst (AreBelow more) (sym (take_more calls n call lt ∙ ap (λ x. take n calls ++ x ∷ []) (sym is)))
    (All-push (λ c. c.place < slice_index_or more c.lock 0) (take n calls) call
    (λ k e le.
    let c = get_or (take n calls) k e in
    ⊎_elim (λ (one : c.lock ≡ call.lock).
    let old : slice_index_or least c.lock 0 ≡ slice_index_or least call.lock 0 =
    ap (λ m. slice_index_or least m 0) one in
    let new : slice_index_or more c.lock 0 ≡ call.place + 1 = ap (λ m. slice_index_or more m 0) one ∙ same in
    omega (arith, below k e le, next, old, new))
    (λ other.
    let new : slice_index_or more c.lock 0 ≡ slice_index_or least c.lock 0 =
    get_or-set_other least call.lock c.lock (call.place + 1) 0 other in
    omega (arith, below k e le, new))
    (cases_eq c.lock call.lock))
    here)

-- ---- the order

there : {A : Type 0} (xs : List A) (n : ℕ) (a b : A) → n < length xs → get_or xs n a ≡ get_or xs n b
there [] n a b lt = absurd (omega arith)
there (x ∷ xs) zero a b lt = refl
there (x ∷ xs) (suc n) a b lt = there xs n a b (omega arith)

pub in_order_more : (calls : List Call) (n : ℕ) (call : Call)
    → n < length calls
    → call ≡ get_or calls n call
    → ((k : ℕ) (d : Call) → k < n → All (λ c. Precedes c (slice_index_or calls k d)) (take k calls))
    → All (λ c. Precedes c call) (take n calls)
    → (k : ℕ) (d : Call)
    → k < n + 1
    → All (λ c. Precedes c (slice_index_or calls k d)) (take k calls)
in_order_more calls n call lt at before here k d le =
    ⊎_elim (λ (less : k < n). before k d less)
    (λ (most : n ≤ k).
    let is : n ≡ k = omega arith in
    subst (λ m. All (λ c. Precedes c (slice_index_or calls m d)) (take m calls)) is
    (subst (λ x. All (λ c. Precedes c x) (take n calls)) (at ∙ there calls n call d lt) here))
    (cases_lt k n)
