-- Marks, and the classes of what stands behind a beginning.
use Rattle.std.proofs.Common.{◌≡◌, ℕ, ◌-◌, ◌<◌, ◌^◌, Bool, true, false, cond, ◌&&◌, ◌||◌, List, [], ◌∷◌, refl, ap, sym, ◌∙◌, arith}
use Rattle.std.specs.Prelude.{max, bit_or}
use Rattle.std.specs.Bool.{nat_eq}
use Rattle.std.specs.Int.{bit_at}
use Rattle.std.specs.List.{onto_first}
use Rattle.std.specs.Str.{bytes_eq}
use Rattle.std.proofs.lemmas.Bool.{cond-true, and_parts}
use Rattle.std.proofs.lemmas.Bool.Decides.{nat_tests}
use Rattle.std.proofs.lemmas.Nat.Bits.{bit_at_or, bit_at-lt, bit_at-pow_same, bit_at_ones}
use Rattle.subj.specs.Names.{tokens, is_dot, is_one_wildcard, is_rest_wildcard}
use Rattle.pattern_trie.specs.declared.marks.Marks.{Marks}
use Rattle.pattern_trie.specs.Beginnings.{is_beginning, is_before_dot}
use Rattle.pattern_trie.specs.Classes.{first_token, class_of, class_of_token, plain_class_of, is_in}

-- ---- the first token

head : List (List ℕ) → List ℕ
head [] = []
head (t ∷ ts) = t

onto_head : (x : ℕ) (ts : List (List ℕ)) → head (onto_first x ts) ≡ x ∷ head ts
unfolding head
onto_head x [] = refl
onto_head x (t ∷ ts) = refl

first_is : (text : List ℕ) → first_token text ≡ head (tokens text)
unfolding head
first_is [] = refl
first_is (x ∷ xs) =
    elim (is_dot x) as
    (λ b. cond b [] (x ∷ first_token xs) ≡ head (cond b ([] ∷ tokens xs) (onto_first x (tokens xs)))) [
      | true ↦ refl
      | false ↦ ap (λ l. x ∷ l) (first_is xs) ∙ sym (onto_head x (tokens xs))
    ]

pub class_of_first : (text token : List ℕ) (ts : List (List ℕ)) (n : ℕ)
    → tokens text ≡ token ∷ ts
    → n ≡ class_of_token token
    → n ≡ class_of text
unfolding head
class_of_first text token ts n cut is = is ∙ ap class_of_token (sym (first_is text ∙ ap head cut))

spread : (x y z : Bool) → ((x && y) || (x && z)) ≡ (x && (y || z))
spread true y z = refl
spread false y z = refl

same_first : (more text : List ℕ) → is_beginning more text ≡ true → first_token more ≡ first_token text
same_first [] [] begins = refl
same_first [] (b ∷ t) begins = sym (cond-true (is_dot b) [] (b ∷ first_token t) begins)
same_first (a ∷ q) [] begins = cc
same_first (a ∷ q) (b ∷ t) begins =
    let both : (nat_eq a b && is_beginning q t) ≡ true =
    sym (spread (nat_eq a b) (bytes_eq q t) (is_before_dot q t)) ∙ begins in
    ap (λ x. cond (is_dot x) [] (x ∷ first_token q)) (same a b ((and_parts (nat_eq a b) (is_beginning q t) both).0))
    ∙ ap (λ l. cond (is_dot b) [] (b ∷ l)) (same_first q t ((and_parts (nat_eq a b) (is_beginning q t) both).1))
  where
    same : (a b : ℕ) → nat_eq a b ≡ true → a ≡ b
    same a b so = grind (arith, nat_tests)

-- ---- bits

one_of : (x y z : ℕ) → z ≡ max x y → nat_eq x 1 ≡ true → y < 2 → nat_eq z 1 ≡ true
one_of x y z is one below = grind (arith, nat_tests)

other_of : (x y z : ℕ) → z ≡ max x y → nat_eq y 1 ≡ true → x < 2 → nat_eq z 1 ≡ true
other_of x y z is one below = grind (arith, nat_tests)

joined : (a b c : Marks) (i : ℕ)
    → c.bits ≡ bit_or a.bits b.bits
    → bit_at c.bits i ≡ max (bit_at a.bits i) (bit_at b.bits i)
joined a b c i is = ap (λ n. bit_at n i) is ∙ bit_at_or a.bits b.bits i

-- what is in one of two is in both together
pub in_first : (more : List ℕ) (a b c : Marks)
    → c.bits ≡ bit_or a.bits b.bits
    → is_in more a ≡ true
    → is_in more c ≡ true
in_first more a b c is so =
    one_of (bit_at a.bits (class_of more)) (bit_at b.bits (class_of more)) (bit_at c.bits (class_of more))
    (joined a b c (class_of more) is) so (bit_at-lt b.bits (class_of more))

pub in_second : (more : List ℕ) (a b c : Marks)
    → c.bits ≡ bit_or a.bits b.bits
    → is_in more b ≡ true
    → is_in more c ≡ true
in_second more a b c is so =
    other_of (bit_at a.bits (class_of more)) (bit_at b.bits (class_of more)) (bit_at c.bits (class_of more))
    (joined a b c (class_of more) is) so (bit_at-lt a.bits (class_of more))

-- what begins a text is in the class of its first token
pub begins_marked : (more text : List ℕ) (m : Marks)
    → m.bits ≡ 2 ^ class_of text
    → is_beginning more text ≡ true
    → is_in more m ≡ true
begins_marked more text m is begins =
    ap (λ n. nat_eq (bit_at n (class_of more)) 1) is
    ∙ ap (λ t. nat_eq (bit_at (2 ^ class_of text) (class_of_token t)) 1) (same_first more text begins)
    ∙ ap (λ b. nat_eq b 1) (bit_at-pow_same (class_of text))

class_below : (token : List ℕ) → class_of_token token < 64
class_below token =
    elim (is_one_wildcard token) as (λ b. cond b 62 (cond (is_rest_wildcard token) 63 (plain_class_of token)) < 64) [
      | true ↦ omega arith
      | false ↦
          elim (is_rest_wildcard token) as (λ b. cond b 63 (plain_class_of token) < 64) [
            | true ↦ omega arith
            | false ↦ omega arith
          ]
    ]

pub all_in : (m : Marks) (more : List ℕ) → m.bits ≡ 2 ^ 64 - 1 → is_in more m ≡ true
all_in m more is =
    ap (λ n. nat_eq (bit_at n (class_of more)) 1) is
    ∙ ap (λ b. nat_eq b 1) (bit_at_ones 64 (class_of more) (class_below (first_token more)))
