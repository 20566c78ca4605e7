-- Names that are gathered: each has its place, and they never become fewer.
use Rattle.std.proofs.Common.{◌≡◌, ℕ, suc, ◌+◌, ◌<◌, ◌≤◌, Bool, true, false, ◌||◌, cond, List, [], ◌∷◌, length, take, drop, Option, Some, None, All, refl, ap, sym, ◌∙◌, arith}
use Rattle.std.proofs.lemmas.List.{length-map}
use Rattle.std.specs.Prelude.{nat_lt, not, ◌&&◌, is_none, map, insert, unwrap_or, if◌then◌else◌}
use Rattle.std.specs.List.{list_any, position, position_or_len}
use Rattle.std.specs.Str.{bytes_eq}
use Rattle.std.proofs.lemmas.Bool.Decides.{nat_tests}
use Rattle.std.proofs.lemmas.List.Elements.{All-append, All-cons, All-take, All-drop}
use Rattle.subj.specs.QueueNames.{is_before}
use Rattle.subj.specs.Matching.{subject_matches}
use Rattle.route_values.specs.Snapshots.{Weighted}
use Rattle.interest.specs.Counts.{is_plain}
use Rattle.interest.specs.Matches.{has_name, place_name, add_name, add_queue, names_in, has_queue_match}

-- ---- lists in which each item stands for a name

module _ {X : Type 0} (name_of : X → List ℕ) where
  pub any_of : (test : List ℕ → Bool) (xs : List X)
      → list_any (λ x. test (name_of x)) xs ≡ list_any test (map name_of xs)
  any_of test [] = refl
  any_of test (x ∷ xs) = ap (λ b. test (name_of x) || b) (any_of test xs)

  -- it goes in before the first that stands behind it
  abbrev pub gap : List ℕ → List X → ℕ
  gap name xs = position_or_len (λ x. is_before name (name_of x)) xs

  next_place : (n : ℕ) (name : X) (y : X) (ys : List X)
      → map name_of (insert (y ∷ ys) (1 + n) name) ≡ name_of y ∷ map name_of (insert ys n name)
  next_place n name y ys = let more : 1 + n ≡ suc n = omega arith in rw more refl

  pub put_in : (x : X) (xs : List X)
      → map name_of (insert xs (gap (name_of x) xs) x) ≡ place_name (name_of x) (map name_of xs)
  put_in x [] = refl
  put_in x (y ∷ ys) =
      elim (is_before (name_of x) (name_of y)) as (λ b.
      map name_of (insert (y ∷ ys) (cond (not b) (1 + gap (name_of x) ys) 0) x)
      ≡ cond b (name_of x ∷ name_of y ∷ map name_of ys) (name_of y ∷ place_name (name_of x) (map name_of ys))) [
        | true ↦ refl
        | false ↦ next_place (gap (name_of x) ys) x y ys ∙ ap (λ l. name_of y ∷ l) (put_in x ys)
      ]

  gap_within : (name : List ℕ) (xs : List X) → gap name xs ≤ length xs
  gap_within name [] = omega arith
  gap_within name (y ∷ ys) =
      elim (is_before name (name_of y)) as (λ b. cond (not b) (1 + gap name ys) 0 ≤ length (y ∷ ys)) [
        | true ↦ omega arith
        | false ↦ let within = gap_within name ys in omega arith
      ]

  pub place_is : (name : List ℕ) (xs : List X)
      → unwrap_or (position (λ x. is_before name (name_of x)) xs) (length xs) ≡ gap name xs
  place_is name xs = at (gap name xs) (length xs) (gap_within name xs)
    where
      at : (n m : ℕ) → n ≤ m → unwrap_or (cond (nat_lt n m) (Some n) None) m ≡ n
      at n m within = go (nat_lt n m) refl
        where
          go : (b : Bool) → nat_lt n m ≡ b → unwrap_or (cond b (Some n) None) m ≡ n
          go true is = refl
          go false is = grind (arith, nat_tests, is)

pub All-insert : {X : Type 0} (P : X → Type 0) (xs : List X) (i : ℕ) (x : X) → All P xs → P x → All P (insert xs i x)
All-insert P xs i x all one =
    All-append P (take i xs) (x ∷ drop i xs) (All-take P i xs all) (All-cons P x (drop i xs) one (All-drop P i xs all))

-- ---- how many there are

one_placed : (name : List ℕ) (names : List (List ℕ)) → length (place_name name names) ≡ length names + 1
one_placed name [] = refl
one_placed name (other ∷ others) =
    elim (is_before name other) as
    (λ b. length (cond b (name ∷ other ∷ others) (other ∷ place_name name others)) ≡ length (other ∷ others) + 1) [
      | true ↦ omega arith
      | false ↦ let one = one_placed name others in omega arith
    ]

pub one_more : (name : List ℕ) (names : List (List ℕ))
    → has_name name names ≡ false
    → length (add_name name names) ≡ length names + 1
one_more name names new = ap (λ b. length (cond b names (place_name name names))) new ∙ one_placed name names

not_fewer : (name : List ℕ) (names : List (List ℕ)) → length names ≤ length (add_name name names)
not_fewer name names =
    elim (has_name name names) as (λ b. length names ≤ length (cond b names (place_name name names))) [
      | true ↦ omega arith
      | false ↦ let one = one_placed name names in omega arith
    ]

not_fewer_with : (matches : Bool) (queue : Option (List ℕ)) (names : List (List ℕ))
    → length names ≤ length (add_queue matches queue names)
not_fewer_with matches None names = omega arith
not_fewer_with true (Some name) names = not_fewer name names
not_fewer_with false (Some name) names = omega arith

pub not_fewer_in : (subject : List ℕ) (keys : List Weighted) (names : List (List ℕ))
    → length names ≤ length (names_in subject keys names)
not_fewer_in subject [] names = omega arith
not_fewer_in subject (e ∷ es) names =
    let one = not_fewer_with (subject_matches e.0.pattern subject) e.0.queue names in
    let rest = not_fewer_in subject es (add_queue (subject_matches e.0.pattern subject) e.0.queue names) in
    omega arith

-- ---- where no key with a queue name matches, there is none

neither : (a b : Bool) → (a || b) ≡ false → (a ≡ false) × (b ≡ false)
neither true b none = cc
neither false b none = (refl, none)

not_queued : (matches : Bool) (queue : Option (List ℕ)) (names : List (List ℕ))
    → (not (is_none queue) && matches) ≡ false
    → add_queue matches queue names ≡ names
not_queued matches None names none = refl
not_queued true (Some name) names none = cc
not_queued false (Some name) names none = refl

pub none_queued : (subject : List ℕ) (keys : List Weighted) (names : List (List ℕ))
    → has_queue_match subject keys ≡ false
    → names_in subject keys names ≡ names
none_queued subject [] names none = refl
none_queued subject (e ∷ es) names none =
    let parts = neither (not (is_plain e.0) && subject_matches e.0.pattern subject) (has_queue_match subject es) none in
    ap (names_in subject es) (not_queued (subject_matches e.0.pattern subject) e.0.queue names parts.0)
    ∙ none_queued subject es names parts.1

-- ---- a name is there, or is put in its place

pub there : (name : List ℕ) (names : List (List ℕ)) → has_name name names ≡ true → names ≡ add_name name names
there name names is = sym (ap (λ b. if b then names else place_name name names) is)

pub put : (name : List ℕ) (names : List (List ℕ))
    → has_name name names ≡ false
    → place_name name names ≡ add_name name names
put name names is = sym (ap (λ b. if b then names else place_name name names) is)

module _ {X : Type 0} (name_of : X → List ℕ) where
  -- what a test of the items tells of the names
  pub has_is : (name : List ℕ) (items slice : List X) (names : List (List ℕ)) (has answer : Bool)
      → map name_of items ≡ names
      → slice ≡ items
      → has ≡ list_any (λ x. bytes_eq name (name_of x)) slice
      → has ≡ answer
      → has_name name names ≡ answer
  has_is name items slice names has answer view lent is told =
      ap (has_name name) (sym view)
      ∙ sym (any_of name_of (bytes_eq name) items)
      ∙ ap (list_any (λ x. bytes_eq name (name_of x))) (sym lent)
      ∙ sym is
      ∙ told

  pub put_is : (x : X) (items slice new : List X) (names : List (List ℕ)) (place : Option ℕ) (len at : ℕ)
      → map name_of items ≡ names
      → slice ≡ items
      → place ≡ position (λ y. is_before (name_of x) (name_of y)) slice
      → len ≡ length items
      → at ≡ unwrap_or place len
      → new ≡ insert items at x
      → map name_of new ≡ place_name (name_of x) names
  put_is x items slice new names place len at view lent is many where_ made =
      let lies : at ≡ gap name_of (name_of x) items = where_
      ∙ (λ i. unwrap_or ((is ∙ ap (position (λ y. is_before (name_of x) (name_of y))) lent) i) (many i))
      ∙ place_is name_of (name_of x) items in
      ap (map name_of) (made ∙ ap (λ n. insert items n x) lies)
      ∙ put_in name_of x items
      ∙ ap (place_name (name_of x)) view

  pub full_is : (name : List ℕ) (items : List X) (names : List (List ℕ)) (most : ℕ)
      → map name_of items ≡ names
      → most ≤ length items
      → has_name name names ≡ false
      → most < length (add_name name names)
  full_is name items names most view full new =
      let more = one_more name names new in
      let same = length-map items name_of in
      let len = ap length view in
      omega arith
