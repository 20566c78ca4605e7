-- What one more or one less held changes.
use Rattle.std.proofs.Common.{◌≡◌, ℕ, ◌+◌, ◌≤◌, Bool, length, drop, true, false, cond, ◌&&◌, ◌||◌, List, [], ◌∷◌, ◌++◌, refl, ap, sym, ◌∙◌, arith, inl, inr}
use Rattle.std.specs.List.{list_any}
use Rattle.std.specs.Str.{bytes_eq}
use Rattle.std.specs.Cmp.Lexicographic.{bytes_decides, nat_list_eq_equiv}
use Rattle.std.proofs.lemmas.Bool.{cases_Bool, cond-true, cond-false, and_parts}
use Rattle.pattern_trie.specs.Nodes.{one_if, without_value}
use Rattle.pattern_trie.specs.Beginnings.{is_beginning, is_before_dot}
use Rattle.pattern_trie.specs.Held.{Held, count_below, values_for, without_held}
use Rattle.pattern_trie.proofs.Dots.{behind_dot}

-- ---- one more

pub count_push : {V : Type 0} (q text : List ℕ) (v : V) (held : List (Held V))
    → count_below q (held ++ (text, v) ∷ []) ≡ count_below q held + one_if (is_beginning q text)
count_push q text v [] = turn (one_if (is_beginning q text)) where
  turn : (n : ℕ) → n + 0 ≡ 0 + n
  turn n = omega arith
count_push q text v (h ∷ held) =
    ap (λ n. one_if (is_beginning q h.0) + n) (count_push q text v held)
    ∙ move (one_if (is_beginning q h.0)) (count_below q held) (one_if (is_beginning q text))
  where
    move : (a b c : ℕ) → a + (b + c) ≡ a + b + c
    move a b c = omega arith

pub values_push_here : {V : Type 0} (q text : List ℕ) (v : V) (held : List (Held V))
    → bytes_eq q text ≡ true
    → values_for q (held ++ (text, v) ∷ []) ≡ values_for q held ++ v ∷ []
values_push_here q text v [] is = cond-true (bytes_eq q text) (v ∷ []) [] is
values_push_here q text v (h ∷ held) is =
    elim (bytes_eq q h.0) as (λ b.
    cond b (h.1 ∷ values_for q (held ++ (text, v) ∷ [])) (values_for q (held ++ (text, v) ∷ []))
    ≡ cond b (h.1 ∷ values_for q held) (values_for q held) ++ v ∷ []) [
      | true ↦ ap (λ vs. h.1 ∷ vs) (values_push_here q text v held is)
      | false ↦ values_push_here q text v held is
    ]

pub values_push_other : {V : Type 0} (q text : List ℕ) (v : V) (held : List (Held V))
    → bytes_eq q text ≡ false
    → values_for q (held ++ (text, v) ∷ []) ≡ values_for q held
values_push_other q text v [] is = cond-false (bytes_eq q text) (v ∷ []) [] is
values_push_other q text v (h ∷ held) is =
    ap (λ vs. cond (bytes_eq q h.0) (h.1 ∷ vs) vs) (values_push_other q text v held is)

-- ---- what is counted

pub begins_itself : (q : List ℕ) → is_beginning q q ≡ true
begins_itself q = ap (λ b. b || is_before_dot q q) (nat_list_eq_equiv.refl q)

pub none_below : {V : Type 0} (q : List ℕ) (held : List (Held V)) → count_below q held ≡ 0 → values_for q held ≡ []
none_below q [] none = refl
none_below q (h ∷ held) none =
    elim (cases_Bool (bytes_eq q h.0)) [
      | inl y ↦
          let one : one_if (is_beginning q h.0) ≡ 1 = ap (λ b. one_if (b || is_before_dot q h.0)) y in
          absurd (omega arith)
      | inr n ↦
          cond-false (bytes_eq q h.0) (h.1 ∷ values_for q held) (values_for q held) n ∙ none_below q held (omega arith)
    ]

-- ---- one less

swap : (a b : ℕ) → a + b ≡ b + a
swap a b = omega arith

slide : (a b c d : ℕ) → b + c ≡ d → a + b + c ≡ a + d
slide a b c d e = omega arith

pub count_without : {V : Type 0} (eq : V → V → Bool) (q text : List ℕ) (v : V) (held : List (Held V))
    → list_any (eq v) (values_for text held) ≡ true
    → count_below q (without_held eq text v held) + one_if (is_beginning q text) ≡ count_below q held
count_without eq q text v [] has = cc
count_without eq q text v (h ∷ held) has =
    elim (bytes_eq text h.0) as (λ b.
    bytes_eq text h.0 ≡ b
    → list_any (eq v) (cond b (h.1 ∷ values_for text held) (values_for text held)) ≡ true
    → count_below q (cond (b && eq v h.1) held (h ∷ without_held eq text v held)) + one_if (is_beginning q text)
    ≡ one_if (is_beginning q h.0) + count_below q held) [
      | true ↦ λ is.
          elim (eq v h.1) as (λ c.
          (c || list_any (eq v) (values_for text held)) ≡ true
          → count_below q (cond c held (h ∷ without_held eq text v held)) + one_if (is_beginning q text)
          ≡ one_if (is_beginning q h.0) + count_below q held) [
            | true ↦ λ some.
                ap (λ t. count_below q held + one_if (is_beginning q t)) ((bytes_decides text h.0).0 is)
                ∙ swap (count_below q held) (one_if (is_beginning q h.0))
            | false ↦ λ some.
                slide (one_if (is_beginning q h.0)) (count_below q (without_held eq text v held))
                (one_if (is_beginning q text)) (count_below q held) (count_without eq q text v held some)
          ]
      | false ↦ λ is some.
          slide (one_if (is_beginning q h.0)) (count_below q (without_held eq text v held))
          (one_if (is_beginning q text)) (count_below q held) (count_without eq q text v held some)
    ] refl has

pub without_absent : {V : Type 0} (eq : V → V → Bool) (text : List ℕ) (v : V) (held : List (Held V))
    → list_any (eq v) (values_for text held) ≡ false
    → without_held eq text v held ≡ held
without_absent eq text v [] none = refl
without_absent eq text v (h ∷ held) none =
    elim (bytes_eq text h.0) as (λ b.
    list_any (eq v) (cond b (h.1 ∷ values_for text held) (values_for text held)) ≡ false
    → cond (b && eq v h.1) held (h ∷ without_held eq text v held) ≡ h ∷ held) [
      | true ↦
          elim (eq v h.1) as (λ c.
          (c || list_any (eq v) (values_for text held)) ≡ false
          → cond c held (h ∷ without_held eq text v held) ≡ h ∷ held) [
            | true ↦ λ some. cc
            | false ↦ λ some. ap (λ l. h ∷ l) (without_absent eq text v held some)
          ]
      | false ↦ λ some. ap (λ l. h ∷ l) (without_absent eq text v held some)
    ] none

pub values_without_here : {V : Type 0} (eq : V → V → Bool) (q : List ℕ) (v : V) (held : List (Held V))
    → values_for q (without_held eq q v held) ≡ without_value eq v (values_for q held)
values_without_here eq q v [] = refl
values_without_here eq q v (h ∷ held) =
    elim (bytes_eq q h.0) as (λ b.
    bytes_eq q h.0 ≡ b
    → values_for q (cond (b && eq v h.1) held (h ∷ without_held eq q v held))
    ≡ without_value eq v (cond b (h.1 ∷ values_for q held) (values_for q held))) [
      | true ↦ λ is.
          elim (eq v h.1) as (λ c.
          values_for q (cond c held (h ∷ without_held eq q v held))
          ≡ cond c (values_for q held) (h.1 ∷ without_value eq v (values_for q held))) [
            | true ↦ refl
            | false ↦
                cond-true (bytes_eq q h.0) (h.1 ∷ values_for q (without_held eq q v held))
                (values_for q (without_held eq q v held)) is
                ∙ ap (λ vs. h.1 ∷ vs) (values_without_here eq q v held)
          ]
      | false ↦ λ is.
          cond-false (bytes_eq q h.0) (h.1 ∷ values_for q (without_held eq q v held))
          (values_for q (without_held eq q v held)) is
          ∙ values_without_here eq q v held
    ] refl

pub values_without_other : {V : Type 0} (eq : V → V → Bool) (q text : List ℕ) (v : V) (held : List (Held V))
    → bytes_eq q text ≡ false
    → values_for q (without_held eq text v held) ≡ values_for q held
values_without_other eq q text v [] other = refl
values_without_other eq q text v (h ∷ held) other =
    elim (bytes_eq text h.0) as (λ b.
    bytes_eq text h.0 ≡ b
    → values_for q (cond (b && eq v h.1) held (h ∷ without_held eq text v held))
    ≡ cond (bytes_eq q h.0) (h.1 ∷ values_for q held) (values_for q held)) [
      | true ↦ λ is.
          elim (eq v h.1) as (λ c.
          values_for q (cond c held (h ∷ without_held eq text v held))
          ≡ cond (bytes_eq q h.0) (h.1 ∷ values_for q held) (values_for q held)) [
            | true ↦
                sym (cond-false (bytes_eq q h.0) (h.1 ∷ values_for q held) (values_for q held)
                (ap (bytes_eq q) (sym ((bytes_decides text h.0).0 is)) ∙ other))
            | false ↦ ap (λ vs. cond (bytes_eq q h.0) (h.1 ∷ vs) vs) (values_without_other eq q text v held other)
          ]
      | false ↦ λ is. ap (λ vs. cond (bytes_eq q h.0) (h.1 ∷ vs) vs) (values_without_other eq q text v held other)
    ] refl

-- ---- a beginning and one token more

begins_too : (q more p : List ℕ) → is_beginning (q ++ 46 ∷ more) p ≡ true → is_beginning q p ≡ true
begins_too q more p so =
    or_second (bytes_eq q p) (is_before_dot q p)
    ((and_parts (is_before_dot q p) (is_beginning more (drop (length q + 1) p)) (sym (behind_dot q more p) ∙ so)).0)
  where
    or_second : (a b : Bool) → b ≡ true → (a || b) ≡ true
    or_second true b e = refl
    or_second false b e = e

fewer : (a b : Bool) → (a ≡ true → b ≡ true) → one_if a ≤ one_if b
fewer true true so = omega arith
fewer true false so = absurd (no (so refl)) where
  no : false ≡ true → ⊥
  no e = cc
fewer false true so = omega arith
fewer false false so = omega arith

pub fewer_behind : {V : Type 0} (q more : List ℕ) (held : List (Held V))
    → count_below (q ++ 46 ∷ more) held ≤ count_below q held
fewer_behind q more [] = omega arith
fewer_behind q more (h ∷ held) =
    let one = fewer (is_beginning (q ++ 46 ∷ more) h.0) (is_beginning q h.0) (begins_too q more h.0) in
    let rest = fewer_behind q more held in
    omega arith
