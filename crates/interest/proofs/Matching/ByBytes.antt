-- Texts in the order of bytes, and what they have in front of them.
use Rattle.std.proofs.Common.{◌≡◌, ℕ, ◌<◌, true, false, List, [], ◌∷◌, ◌++◌, refl, ap, sym, ◌∙◌, subst, inl, inr, ◌⊎◌, take, drop, length, eqb, nat_cmp, Ordering, Less, Equal, Greater}
use Rattle.std.specs.Cmp.{ranked, nat_cmp_total, tied_itself, alike_right}
use Rattle.std.specs.Cmp.Lexicographic.{slice_cmp, nat_list_cmp_total, pointwise, bytes_decides}
use Rattle.std.specs.Ordering.{MatchOrdering, is_lt, ordering_then, ordering_reverse}
use Rattle.std.proofs.lemmas.List.{take-append-drop}
use Rattle.std.proofs.lemmas.Map.Lookups.{exact_bytes}
use Rattle.std.proofs.Math.Seq.{take-append_seam}
use Rattle.subj.specs.QueueNames.{is_before}
use Rattle.interest.specs.Sights.{Begins}

abbrev by_bytes : List ℕ → List ℕ → Ordering
by_bytes = slice_cmp nat_cmp

level : (x : ℕ) → nat_cmp x x ≡ Equal
level x = tied_itself nat_cmp_total x

same_byte : (x y : ℕ) → nat_cmp x y ≡ Equal → x ≡ y
same_byte x y is = subst (λ r. MatchOrdering r (x < y) (x ≡ y) (y < x)) is (ranked x y (nat_cmp x y) refl)

turned : (a b : List ℕ) → by_bytes a b ≡ ordering_reverse (by_bytes b a)
turned a b = nat_list_cmp_total.antisymm a b

not_less : (r : Ordering) → is_lt r ≡ false → r ≡ Less → ⊥
not_less Less other is = cc
not_less Equal other is = cc
not_less Greater other is = cc

-- a text in front of both changes nothing
pub common : (front a b : List ℕ) → by_bytes (front ++ a) (front ++ b) ≡ by_bytes a b
common [] a b = refl
common (x ∷ front) a b = ap (λ r. ordering_then r (by_bytes (front ++ a) (front ++ b))) (level x) ∙ common front a b

pub same_behind : (front a b : List ℕ) → is_before (front ++ a) (front ++ b) ≡ is_before a b
same_behind front a b = ap is_lt (common front a b)

-- no text stands before its beginning
pub not_before_beginning : (front rest : List ℕ) → is_before (front ++ rest) front ≡ false
not_before_beginning [] [] = refl
not_before_beginning [] (x ∷ rest) = refl
not_before_beginning (y ∷ front) rest =
    ap (λ r. is_lt (ordering_then r (by_bytes (front ++ rest) front))) (level y) ∙ not_before_beginning front rest

-- what does not stand before another
pub in_turn : (a b c : List ℕ) → is_before b a ≡ false → is_before c b ≡ false → is_before c a ≡ false
in_turn a b c ab bc =
    elim (by_bytes b a) as (λ r. by_bytes b a ≡ r → is_before c a ≡ false) [
      | Less ↦ λ is. absurd (not_less (by_bytes b a) ab is)
      | Equal ↦ λ is. ap is_lt (sym (alike_right nat_list_cmp_total b a c is)) ∙ bc
      | Greater ↦ λ is.
          elim (by_bytes c a) as (λ r. by_bytes c a ≡ r → is_lt r ≡ false) [
            | Less ↦ λ less.
                absurd
                (not_less (by_bytes c b) bc (nat_list_cmp_total.trans c a b less (turned a b ∙ ap ordering_reverse is)))
            | Equal ↦ λ _. refl
            | Greater ↦ λ _. refl
          ] refl
    ] refl

pub not_back : (a b : List ℕ) → is_before a b ≡ true → is_before b a ≡ false
not_back a b before = elim (by_bytes a b) as (λ r. by_bytes a b ≡ r → is_before b a ≡ false) [
  | Less ↦ λ is. ap is_lt (turned b a ∙ ap ordering_reverse is)
  | Equal ↦ λ is. ap is_lt (turned b a ∙ ap ordering_reverse is)
  | Greater ↦ λ is. let clash : false ≡ true = sym (ap is_lt is) ∙ before in cc
] refl

pub neither : (a b : List ℕ) → is_before a b ≡ false → is_before b a ≡ false → a ≡ b
neither a b ab ba = elim (by_bytes a b) as (λ r. by_bytes a b ≡ r → a ≡ b) [
  | Less ↦ λ is. absurd (not_less (by_bytes a b) ab is)
  | Equal ↦ λ is. exact_bytes a b is
  | Greater ↦ λ is. absurd (not_less (by_bytes b a) ba (turned b a ∙ ap ordering_reverse is))
] refl

-- a text between a beginning and what has it has it too
pub between : (front text rest : List ℕ)
    → is_before text front ≡ false
    → is_before (front ++ rest) text ≡ false
    → Begins front text
between [] text rest low high = (text, refl)
between (x ∷ front) [] rest low high = cc
between (x ∷ front) (y ∷ text) rest low high =
    elim (nat_cmp y x) as (λ r. nat_cmp y x ≡ r → Begins (x ∷ front) (y ∷ text)) [
      | Less ↦ λ is.
          let clash : true ≡ false = sym (ap (λ r. is_lt (ordering_then r (by_bytes text front))) is) ∙ low in cc
      | Equal ↦ λ is.
          let back : nat_cmp x y ≡ Equal = nat_cmp_total.antisymm x y ∙ ap ordering_reverse is in
          let rest_low : is_before text front ≡ false =
          sym (ap (λ r. is_lt (ordering_then r (by_bytes text front))) is) ∙ low in
          let rest_high : is_before (front ++ rest) text ≡ false =
          sym (ap (λ r. is_lt (ordering_then r (by_bytes (front ++ rest) text))) back) ∙ high in
          let inner = between front text rest rest_low rest_high in
          (inner.0, (λ i. same_byte y x is i ∷ inner.1 i))
      | Greater ↦ λ is.
          let back : nat_cmp x y ≡ Less = nat_cmp_total.antisymm x y ∙ ap ordering_reverse is in
          let clash : true ≡ false =
          sym (ap (λ r. is_lt (ordering_then r (by_bytes (front ++ rest) text))) back) ∙ high in
          cc
    ] refl

-- what does not stand before a text has its beginning, or stands behind all that have it
pub outside : (front rest other text : List ℕ)
    → is_before text (front ++ rest) ≡ false
    → Begins front text ⊎ (is_before text (front ++ other) ≡ false)
outside [] rest other text high = inl (text, refl)
outside (x ∷ front) rest other [] high = cc
outside (x ∷ front) rest other (y ∷ text) high =
    elim (nat_cmp y x) as
    (λ r. nat_cmp y x ≡ r → Begins (x ∷ front) (y ∷ text) ⊎ (is_before (y ∷ text) (x ∷ front ++ other) ≡ false)) [
      | Less ↦ λ is.
          let clash : true ≡ false =
          sym (ap (λ r. is_lt (ordering_then r (by_bytes text (front ++ rest)))) is) ∙ high in
          cc
      | Equal ↦ λ is.
          let inner = outside front rest other text
          (sym (ap (λ r. is_lt (ordering_then r (by_bytes text (front ++ rest)))) is) ∙ high) in
          elim inner [
            | inl so ↦ inl (so.0, (λ i. same_byte y x is i ∷ so.1 i))
            | inr so ↦ inr (ap (λ r. is_lt (ordering_then r (by_bytes text (front ++ other)))) is ∙ so)
          ]
      | Greater ↦ λ is. inr (ap (λ r. is_lt (ordering_then r (by_bytes text (front ++ other)))) is)
    ] refl

-- a text without the beginning stands to what has it as to the beginning
pub without : (front rest text : List ℕ)
    → (Begins front text → ⊥)
    → is_before text (front ++ rest) ≡ is_before text front
without [] rest text not_so = absurd (not_so (text, refl))
without (x ∷ front) rest [] not_so = refl
without (x ∷ front) rest (y ∷ text) not_so =
    elim (nat_cmp y x) as (λ r.
    nat_cmp y x ≡ r
    → is_lt (ordering_then r (by_bytes text (front ++ rest))) ≡ is_lt (ordering_then r (by_bytes text front))) [
      | Less ↦ λ is. refl
      | Equal ↦ λ is. without front rest text (λ so. not_so (so.0, (λ i. same_byte y x is i ∷ so.1 i)))
      | Greater ↦ λ is. refl
    ] refl

-- ---- a beginning taken off

pub stripped : (text front rest : List ℕ)
    → pointwise eqb (take (length front) text) front ≡ true
    → rest ≡ drop (length front) text
    → text ≡ front ++ rest
stripped text front rest so is =
    sym (take-append-drop (length front) text)
    ∙ (λ i. (bytes_decides (take (length front) text) front).0 so i ++ sym is i)

pub unstripped : (text front : List ℕ) → pointwise eqb (take (length front) text) front ≡ false → Begins front text → ⊥
unstripped text front other so =
    let same : take (length front) text ≡ front = ap (take (length front)) so.1 ∙ take-append_seam front so.0 in
    let clash : true ≡ false = sym ((bytes_decides (take (length front) text) front).1 same) ∙ other in cc

pub behind_stripped : (text front rest last : List ℕ)
    → pointwise eqb (take (length front) text) front ≡ true
    → rest ≡ drop (length front) text
    → is_before rest last ≡ is_before text (front ++ last)
behind_stripped text front rest last so is =
    sym (same_behind front rest last) ∙ ap (λ l. is_before l (front ++ last)) (sym (stripped text front rest so is))

pub behind_unstripped : (text front last : List ℕ)
    → pointwise eqb (take (length front) text) front ≡ false
    → is_before text front ≡ is_before text (front ++ last)
behind_unstripped text front last other = sym (without front last text (unstripped text front other))
