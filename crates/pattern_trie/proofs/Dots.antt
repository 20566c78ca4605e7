-- The beginnings before one dot more.
use Rattle.std.proofs.Common.{◌≡◌, ℕ, suc, ◌+◌, ◌<◌, ◌≤◌, Bool, true, false, ◌&&◌, ◌||◌, List, [], ◌∷◌, ◌++◌, length, take, drop, get_or, refl, ap, sym, ◌∙◌, arith, inl, inr, ◌⊎◌}
use Rattle.std.specs.Prelude.{nat_lt}
use Rattle.std.specs.Bool.{nat_eq}
use Rattle.std.specs.Str.{bytes_eq}
use Rattle.std.specs.Cmp.Lexicographic.{bytes_decides, nat_list_eq_equiv}
use Rattle.std.proofs.lemmas.Bool.{cases_Bool}
use Rattle.std.proofs.lemmas.List.{length-take-le}
use Rattle.std.proofs.lemmas.Bool.Decides.{nat_tests}
use Rattle.subj.specs.Names.{is_dot}
use Rattle.pattern_trie.specs.Nodes.{one_if}
use Rattle.pattern_trie.specs.Beginnings.{is_before_dot, is_before_dot_of, is_beginning}

and_false : (b : Bool) → false ≡ (b && false)
and_false true = refl
and_false false = refl

turned : (a b : ℕ) → nat_eq a b ≡ nat_eq b a
turned a b = grind (arith, nat_tests)

trichotomy : (a b : ℕ) → (a < b) ⊎ ((a ≡ b) ⊎ (b < a))
trichotomy a b =
    elim (cases_Bool (nat_lt a b)) [
      | inl y ↦ inl (grind (arith, nat_tests))
      | inr n ↦
          elim (cases_Bool (nat_lt b a)) [
            | inl y ↦ inr (inr (grind (arith, nat_tests)))
            | inr m ↦ inr (inl (grind (arith, nat_tests)))
          ]
    ]

inner : (a b c : Bool) (d : Bool) → d ≡ (b && c) → (a && d) ≡ ((a && b) && c)
inner true b c d is = is
inner false b c d is = refl

-- what stands before a dot ends at that dot
pub before_is : (q text : List ℕ)
    → is_before_dot q text ≡ (bytes_eq (take (length q) text) q && is_dot (get_or text (length q) 0))
before_is [] [] = refl
before_is [] (b ∷ t) = refl
before_is (a ∷ q) [] = refl
before_is (a ∷ q) (b ∷ t) =
    ap (λ x. x && is_before_dot q t) (turned a b)
    ∙ inner (nat_eq b a) (bytes_eq (take (length q) t) q) (is_dot (get_or t (length q) 0)) (is_before_dot q t)
    (before_is q t)

-- no text is as long as a shorter one
unlike : (xs ys : List ℕ) → (length xs ≡ length ys → ⊥) → bytes_eq xs ys ≡ false
unlike xs ys n =
    elim (cases_Bool (bytes_eq xs ys)) [
      | inl y ↦ absurd (n (ap length ((bytes_decides xs ys).0 y)))
      | inr e ↦ e
    ]

test_true : (a b : ℕ) → a < b → nat_lt a b ≡ true
test_true a b lt = grind (arith, nat_tests)

test_false : (a b : ℕ) → b ≤ a → nat_lt a b ≡ false
test_false a b le = grind (arith, nat_tests)

-- the same at any length, once it is known
before_at : (q text : List ℕ) (at : ℕ)
    → length q ≡ at
    → is_before_dot q text ≡ (bytes_eq (take at text) q && is_dot (get_or text at 0))
before_at q text at is = before_is q text ∙ ap (λ n. bytes_eq (take n text) q && is_dot (get_or text n 0)) is

and_true : (b : Bool) → (b && true) ≡ b
and_true true = refl
and_true false = refl

none_added : (b c : Bool) → c ≡ false → one_if b ≡ one_if b + one_if c
none_added b c none = last (one_if b) ∙ ap (λ x. one_if b + one_if x) (sym none) where
  last : (n : ℕ) → n ≡ n + 0
  last n = omega arith

module _ (text q : List ℕ) (at : ℕ) where
  short_other : at ≤ length text → (length q ≡ at → ⊥) → bytes_eq (take at text) q ≡ false
  short_other within n = unlike (take at text) q (λ e. n (sym e ∙ length-take-le at text within))

  shorter : length q < at → is_before_dot_of (at + 1) q text ≡ is_before_dot_of at q text
  shorter lt =
      ap (λ x. x && is_before_dot q text)
      (test_true (length q) (at + 1) (omega arith) ∙ sym (test_true (length q) at lt))

  longer : at < length q → is_before_dot_of (at + 1) q text ≡ is_before_dot_of at q text
  longer lt =
      ap (λ x. x && is_before_dot q text)
      (test_false (length q) (at + 1) (omega arith) ∙ sym (test_false (length q) at (omega arith)))

  as_long : length q ≡ at → is_before_dot_of (at + 1) q text ≡ is_before_dot q text
  as_long is = ap (λ x. x && is_before_dot q text) (test_true (length q) (at + 1) (omega arith))

  as_long_none : length q ≡ at → is_before_dot_of at q text ≡ false
  as_long_none is = ap (λ x. x && is_before_dot q text) (test_false (length q) at (omega arith))

-- one dot more: the text before it, and what stood before an earlier one
pub one_more : (text : List ℕ) (at : ℕ) (q : List ℕ)
    → at < length text
    → is_dot (get_or text at 0) ≡ true
    → one_if (is_before_dot_of (at + 1) q text)
    ≡ one_if (is_before_dot_of at q text) + one_if (bytes_eq (take at text) q)
one_more text at q within dot =
    elim (trichotomy (length q) at) [
      | inl lt ↦
          ap one_if (shorter text q at lt)
          ∙ none_added (is_before_dot_of at q text) (bytes_eq (take at text) q)
          (short_other text q at (omega arith) (λ e. omega arith))
      | inr (inl is) ↦
          ap one_if (as_long text q at is ∙ before_at q text at is ∙ ap (λ d. bytes_eq (take at text) q && d) dot
          ∙ and_true (bytes_eq (take at text) q))
          ∙ first (one_if (bytes_eq (take at text) q))
          ∙ ap (λ b. one_if b + one_if (bytes_eq (take at text) q)) (sym (as_long_none text q at is))
      | inr (inr gt) ↦
          ap one_if (longer text q at gt)
          ∙ none_added (is_before_dot_of at q text) (bytes_eq (take at text) q)
          (short_other text q at (omega arith) (λ e. omega arith))
    ]
  where
    first : (n : ℕ) → n ≡ 0 + n
    first n = omega arith

-- no dot more
pub none_more : (text : List ℕ) (at : ℕ) (q : List ℕ)
    → is_dot (get_or text at 0) ≡ false
    → is_before_dot_of (at + 1) q text ≡ is_before_dot_of at q text
none_more text at q other =
    elim (trichotomy (length q) at) [
      | inl lt ↦ shorter text q at lt
      | inr (inl is) ↦
          as_long text q at is
          ∙ before_at q text at is
          ∙ ap (λ d. bytes_eq (take at text) q && d) other
          ∙ sym (and_false (bytes_eq (take at text) q))
          ∙ sym (as_long_none text q at is)
      | inr (inr gt) ↦ longer text q at gt
    ]

itself : (xs : List ℕ) → bytes_eq xs xs ≡ true
itself xs = nat_list_eq_equiv.refl xs

-- what stands before a dot
pub before_this : (text : List ℕ) (at n : ℕ)
    → at < length text
    → at < n
    → is_dot (get_or text at 0) ≡ true
    → is_before_dot_of n (take at text) text ≡ true
before_this text at n within below dot =
    let len = length-take-le at text (omega arith) in
    ap (λ x. x && is_before_dot (take at text) text) (test_true (length (take at text)) n (omega arith))
    ∙ before_at (take at text) text at len
    ∙ ap (λ d. bytes_eq (take at text) (take at text) && d) dot
    ∙ and_true (bytes_eq (take at text) (take at text))
    ∙ itself (take at text)

pub not_before_itself : (text : List ℕ) (at : ℕ) → at ≤ length text → is_before_dot_of at (take at text) text ≡ false
not_before_itself text at within = as_long_none text (take at text) at (length-take-le at text within)

and_none : (b : Bool) → (b && false) ≡ false
and_none true = refl
and_none false = refl

before_past : (q text : List ℕ) → length text ≤ length q → is_before_dot q text ≡ false
before_past [] [] le = refl
before_past [] (b ∷ t) le = absurd (omega arith)
before_past (a ∷ q) [] le = refl
before_past (a ∷ q) (b ∷ t) le = ap (λ x. nat_eq a b && x) (before_past q t (omega arith)) ∙ and_none (nat_eq a b)

pub all_before : (q text : List ℕ) → is_before_dot_of (length text) q text ≡ is_before_dot q text
all_before q text =
    elim (cases_Bool (nat_lt (length q) (length text))) [
      | inl y ↦ ap (λ x. x && is_before_dot q text) y
      | inr n ↦
          let none = before_past q text (grind (arith, nat_tests)) in
          ap (λ x. nat_lt (length q) (length text) && x) none ∙ and_none (nat_lt (length q) (length text)) ∙ sym none
    ]

-- the beginnings are those before a dot, and the text
pub all_beginnings : (q text : List ℕ)
    → one_if (is_beginning q text) ≡ one_if (is_before_dot_of (length text) q text) + one_if (bytes_eq text q)
all_beginnings q text =
    elim (cases_Bool (bytes_eq q text)) [
      | inl y ↦
          let is : q ≡ text = (bytes_decides q text).0 y in
          ap (λ b. one_if (b || is_before_dot q text)) y
          ∙ first
          ∙ ap (λ b. one_if b + 1) (sym (before_past q text (ap_le is)))
          ∙ ap (λ b. one_if b + 1) (sym (all_before q text))
          ∙ ap (λ b. one_if (is_before_dot_of (length text) q text) + one_if b)
          (sym (nat_list_eq_equiv.symm text q ∙ y))
      | inr n ↦
          ap (λ b. one_if (b || is_before_dot q text)) n
          ∙ ap one_if (sym (all_before q text))
          ∙ none_added (is_before_dot_of (length text) q text) (bytes_eq text q) (nat_list_eq_equiv.symm text q ∙ n)
    ]
  where
    first : 1 ≡ 0 + 1
    first = omega arith

    ap_le : q ≡ text → length text ≤ length q
    ap_le is = let same = ap length is in omega arith

spread : (x y z : Bool) → ((x && y) || (x && z)) ≡ (x && (y || z))
spread true y z = refl
spread false y z = refl

deeper : (x y z d : Bool) → (y || z) ≡ d → ((x && y) || (x && z)) ≡ (x && d)
deeper true y z d is = is
deeper false y z d is = refl

joined : (x y z : Bool) → (x && (y && z)) ≡ ((x && y) && z)
joined true y z = refl
joined false y z = refl

further : (n : ℕ) (b : ℕ) (t : List ℕ) → drop (n + 1 + 1) (b ∷ t) ≡ drop (n + 1) t
further n b t = ap (λ k. drop k (b ∷ t)) (next n) where
  next : (n : ℕ) → n + 1 + 1 ≡ suc (n + 1)
  next n = omega arith

-- a beginning with more tokens: it stands before a dot, and they begin what is behind
pub behind_dot : (q more text : List ℕ)
    → is_beginning (q ++ 46 ∷ more) text ≡ (is_before_dot q text && is_beginning more (drop (length q + 1) text))
behind_dot [] more [] = refl
behind_dot [] more (b ∷ t) =
    ap (λ x. (x && bytes_eq more t) || (x && is_before_dot more t)) (turned 46 b)
    ∙ spread (nat_eq b 46) (bytes_eq more t) (is_before_dot more t)
behind_dot (a ∷ q) more [] = refl
behind_dot (a ∷ q) more (b ∷ t) =
    deeper (nat_eq a b) (bytes_eq (q ++ 46 ∷ more) t) (is_before_dot (q ++ 46 ∷ more) t)
    (is_before_dot q t && is_beginning more (drop (length q + 1) t)) (behind_dot q more t)
    ∙ joined (nat_eq a b) (is_before_dot q t) (is_beginning more (drop (length q + 1) t))
    ∙ ap (λ l. (nat_eq a b && is_before_dot q t) && is_beginning more l)
    (sym (further (length q) b t) ∙ ap (λ k. drop k (b ∷ t)) (suc_plus (length q)))
  where
    suc_plus : (n : ℕ) → n + 1 + 1 ≡ suc n + 1
    suc_plus n = omega arith
