-- One life more.
use Rattle.std.proofs.Common.{◌≡◌, ℕ, ◌<◌, ◌≤◌, List, [], ◌∷◌, ◌++◌, Option, None, Some, refl, sym, subst, inl, inr, arith}
use Rattle.std.specs.Prelude.{IfSome}
use Rattle.list_laws.specs.Lists.{In, Each, Pairs}
use Rattle.list_laws.proofs.Lists.{each_append, each_one, pairs_append}
use Rattle.incarnation_file.specs.Disk.{Content}
use Rattle.incarnation_file.specs.Kept.{IsAtLeast, IsKept, IsAfter, IsBelow}

-- no answer is above it
abbrev pub IsMost : ℕ → Option ℕ → Type 0
IsMost last answer = IfSome answer (λ n. n ≤ last)

-- the answers rise up to the last number, which is kept
abbrev pub HaveRisen : (Content → Type 0) → List ℕ → List (Option ℕ) → Type 0
HaveRisen left server answers =
    Pairs IsBelow answers × (last : ℕ) × Each (IsMost last) answers × IsKept left server last

at_least_none : (server : List ℕ) (file : Content) → IsAtLeast server 0 file
at_least_none server None = refl
at_least_none server (Some bytes) = λ n line. omega arith

-- before the first life any disk will do
pub risen_at_first : (left : Content → Type 0) (server : List ℕ) (answers : List (Option ℕ))
    → answers ≡ []
    → HaveRisen left server answers
risen_at_first left server answers none =
    subst (λ l. HaveRisen left server l) (sym none) (tt, 0, (λ x i. absurd i), λ c found. at_least_none server c)

below_most : (last n : ℕ) (older : Option ℕ) → last < n → IsMost last older → IsBelow older (Some n)
below_most last n None lt most = tt
below_most last n (Some m) lt most = omega (arith, lt, most)

most_more : (last n : ℕ) (older : Option ℕ) → last < n → IsMost last older → IsMost n older
most_more last n None lt most = tt
most_more last n (Some m) lt most = omega (arith, lt, most)

below_none : (older : Option ℕ) → IsBelow older None
below_none None = tt
below_none (Some m) = tt

pairs_one : (x : Option ℕ) → Pairs IsBelow (x ∷ [])
pairs_one x = ((λ y i. absurd i), tt)

risen_on : (before left : Content → Type 0) (server : List ℕ) (answers : List (Option ℕ)) (answer : Option ℕ)
    → HaveRisen before server answers
    → ((last : ℕ) → IsKept before server last → IsAfter last answer (IsKept left server))
    → HaveRisen left server (answers ++ answer ∷ [])
risen_on before left server answers None risen life =
    let last = risen.1 in (
      pairs_append IsBelow answers (None ∷ []) risen.0 (pairs_one None) (λ x y i j. one_below x y j),
      last,
      each_append (IsMost last) answers (None ∷ []) risen.2 (each_one (IsMost last) None tt),
      life last risen.3,
    )
  where
    one_below : (x y : Option ℕ) → In y (None ∷ []) → IsBelow x y
    one_below x y (inl is) = subst (λ z. IsBelow x z) (sym is) (below_none x)
    one_below x y (inr i) = absurd i
risen_on before left server answers (Some n) risen life =
    let last = risen.1 in
    let then = life last risen.3 in (
      pairs_append IsBelow answers (Some n ∷ []) risen.0 (pairs_one (Some n))
          (λ x y i j. one_below x y (below_most last n x then.0 (risen.2 x i)) j),
      n,
      each_append (IsMost n) answers (Some n ∷ []) (λ x i. most_more last n x then.0 (risen.2 x i))
          (each_one (IsMost n) (Some n) (omega arith)),
      then.1,
    )
  where
    one_below : (x y : Option ℕ) → IsBelow x (Some n) → In y (Some n ∷ []) → IsBelow x y
    one_below x y below (inl is) = subst (λ z. IsBelow x z) (sym is) below
    one_below x y below (inr i) = absurd i

pub risen_to : (before left : Content → Type 0) (server : List ℕ) (answers next : List (Option ℕ)) (answer : Option ℕ)
    → next ≡ answers ++ answer ∷ []
    → HaveRisen before server answers
    → ((last : ℕ) → IsKept before server last → IsAfter last answer (IsKept left server))
    → HaveRisen left server next
risen_to before left server answers next answer is risen life =
    subst (λ l. HaveRisen left server l) (sym is) (risen_on before left server answers answer risen life)

-- a life ends, and the next start finds what it may then
pub life_ends : (server : List ℕ) (last : ℕ) (answer : Option ℕ) (left found next : Content → Type 0)
    → IsKept left server last
    → IfSome answer (λ n. (last < n) × IsKept found server n)
    → ((c : Content) → found c → left c)
    → ((c : Content) → next c → found c)
    → IsAfter last answer (IsKept next server)
life_ends server last None left found next kept rises counts ends = λ c is. kept c (counts c (ends c is))
life_ends server last (Some n) left found next kept rises counts ends = (rises.0, λ c is. rises.1 c (ends c is))
