-- Subscriptions under their serials, and their list.
use Rattle.std.proofs.Common.{◌≡◌, ℕ, Bool, true, false, cond, List, [], ◌∷◌, ◌++◌, Some, None, refl, ap, sym, ◌∙◌, arith, inl, inr}
use Rattle.std.specs.Prelude.{nat_eq, find, unwrap_or}
use Rattle.std.specs.Map.{lookup, remove_entry, set_value, values_of}
use Rattle.std.proofs.lemmas.Bool.{cases_Bool, cond-true, cond-false, and_parts, and_from}
use Rattle.std.proofs.lemmas.Bool.Decides.{nat_tests}
use Rattle.sub_table.specs.declared.Subscription.{Subscription}
use Rattle.sub_table.specs.Subscriptions.{has_serial, without_serial, with_changed}
use Rattle.sub_trie.specs.Rising.{is_keyed}
use Rattle.sub_trie.proofs.Listing.{flipped}

same_test : (n k : ℕ) (sub : Subscription) → nat_eq k sub.serial ≡ true → nat_eq n k ≡ has_serial n sub
same_test n k sub so = flipped n k ∙ ap (λ m. nat_eq m n) (same k sub.serial so) where
  same : (a b : ℕ) → nat_eq a b ≡ true → a ≡ b
  same a b so = grind (arith, nat_tests)

pub found_by : (n : ℕ) (es : List (ℕ × Subscription))
    → is_keyed es ≡ true
    → lookup (nat_eq n) es ≡ find (has_serial n) (values_of es)
found_by n [] keyed = refl
found_by n (e ∷ es) keyed =
    ap (λ b. cond b (Some e.1) (lookup (nat_eq n) es))
    (same_test n e.0 e.1 ((and_parts (nat_eq e.0 e.1.serial) (is_keyed es) keyed).0))
    ∙ ap (λ o. cond (has_serial n e.1) (Some e.1) o)
    (found_by n es ((and_parts (nat_eq e.0 e.1.serial) (is_keyed es) keyed).1))

pub removed_by : (n : ℕ) (es : List (ℕ × Subscription))
    → is_keyed es ≡ true
    → values_of (remove_entry (nat_eq n) es) ≡ without_serial n (values_of es)
removed_by n [] keyed = refl
removed_by n (e ∷ es) keyed =
    ap (λ b. values_of (cond b es (e ∷ remove_entry (nat_eq n) es)))
    (same_test n e.0 e.1 ((and_parts (nat_eq e.0 e.1.serial) (is_keyed es) keyed).0))
    ∙ elim (has_serial n e.1) as (λ b.
    values_of (cond b es (e ∷ remove_entry (nat_eq n) es))
    ≡ cond b (values_of es) (e.1 ∷ without_serial n (values_of es))) [
      | true ↦ refl
      | false ↦ ap (λ l. e.1 ∷ l) (removed_by n es ((and_parts (nat_eq e.0 e.1.serial) (is_keyed es) keyed).1))
    ]

pub keyed_removed : (test : ℕ → Bool) (es : List (ℕ × Subscription))
    → is_keyed es ≡ true
    → is_keyed (remove_entry test es) ≡ true
keyed_removed test [] keyed = refl
keyed_removed test (e ∷ es) keyed =
    let first = (and_parts (nat_eq e.0 e.1.serial) (is_keyed es) keyed).0 in
    let rest = (and_parts (nat_eq e.0 e.1.serial) (is_keyed es) keyed).1 in
    elim (test e.0) as (λ b. is_keyed (cond b es (e ∷ remove_entry test es)) ≡ true) [
      | true ↦ rest
      | false ↦ and_from (nat_eq e.0 e.1.serial) (is_keyed (remove_entry test es)) first (keyed_removed test es rest)
    ]

first_is : (s t : Subscription) → Some s ≡ Some t → s ≡ t
first_is s t e = ap (λ o. unwrap_or o s) e

pub set_by : (n : ℕ) (change : Subscription → Subscription) (es : List (ℕ × Subscription)) (s : Subscription)
    → is_keyed es ≡ true
    → lookup (nat_eq n) es ≡ Some s
    → values_of (set_value (nat_eq n) es (change s)) ≡ with_changed n change (values_of es)
set_by n change [] s keyed found = cc
set_by n change (e ∷ es) s keyed found =
    let test = same_test n e.0 e.1 ((and_parts (nat_eq e.0 e.1.serial) (is_keyed es) keyed).0) in
    elim (cases_Bool (has_serial n e.1)) [
      | inl so ↦
          let is : e.1 ≡ s =
          first_is e.1 s (sym (cond-true (nat_eq n e.0) (Some e.1) (lookup (nat_eq n) es) (test ∙ so)) ∙ found) in
          ap values_of
          (cond-true (nat_eq n e.0) ((e.0, change s) ∷ es) (e ∷ set_value (nat_eq n) es (change s)) (test ∙ so))
          ∙ ap (λ t. change t ∷ values_of es) (sym is)
          ∙ sym
          (cond-true (has_serial n e.1) (change e.1 ∷ values_of es) (e.1 ∷ with_changed n change (values_of es)) so)
      | inr other ↦
          let rest = sym (cond-false (nat_eq n e.0) (Some e.1) (lookup (nat_eq n) es) (test ∙ other)) ∙ found in
          ap values_of
          (cond-false (nat_eq n e.0) ((e.0, change s) ∷ es) (e ∷ set_value (nat_eq n) es (change s)) (test ∙ other))
          ∙ ap (λ l. e.1 ∷ l) (set_by n change es s ((and_parts (nat_eq e.0 e.1.serial) (is_keyed es) keyed).1) rest)
          ∙ sym
          (cond-false (has_serial n e.1) (change e.1 ∷ values_of es) (e.1 ∷ with_changed n change (values_of es)) other)
    ]

pub keyed_set : (test : ℕ → Bool) (change : Subscription → Subscription)
    (same_serial : (s : Subscription) → (change s).serial ≡ s.serial) (es : List (ℕ × Subscription)) (s : Subscription)
    → is_keyed es ≡ true
    → lookup test es ≡ Some s
    → is_keyed (set_value test es (change s)) ≡ true
keyed_set test change same_serial [] s keyed found = cc
keyed_set test change same_serial (e ∷ es) s keyed found =
    let first = (and_parts (nat_eq e.0 e.1.serial) (is_keyed es) keyed).0 in
    let rest = (and_parts (nat_eq e.0 e.1.serial) (is_keyed es) keyed).1 in
    elim (cases_Bool (test e.0)) [
      | inl so ↦
          let is : e.1 ≡ s = first_is e.1 s (sym (cond-true (test e.0) (Some e.1) (lookup test es) so) ∙ found) in
          ap is_keyed (cond-true (test e.0) ((e.0, change s) ∷ es) (e ∷ set_value test es (change s)) so)
          ∙ and_from (nat_eq e.0 (change s).serial) (is_keyed es)
          (ap (nat_eq e.0) (same_serial s ∙ ap (λ t. t.serial) (sym is)) ∙ first) rest
      | inr other ↦
          let found_there = sym (cond-false (test e.0) (Some e.1) (lookup test es) other) ∙ found in
          ap is_keyed (cond-false (test e.0) ((e.0, change s) ∷ es) (e ∷ set_value test es (change s)) other)
          ∙ and_from (nat_eq e.0 e.1.serial) (is_keyed (set_value test es (change s))) first
          (keyed_set test change same_serial es s rest found_there)
    ]

pub changed_nowhere : (n : ℕ) (change : Subscription → Subscription) (subs : List Subscription)
    → find (has_serial n) subs ≡ None
    → with_changed n change subs ≡ subs
changed_nowhere n change [] none = refl
changed_nowhere n change (s ∷ subs) none =
    elim (has_serial n s) as (λ b.
    cond b (Some s) (find (has_serial n) subs) ≡ None
    → cond b (change s ∷ subs) (s ∷ with_changed n change subs) ≡ s ∷ subs) [
      | true ↦ λ found. cc
      | false ↦ λ found. ap (λ l. s ∷ l) (changed_nowhere n change subs found)
    ] none

pub values_push : (n : ℕ) (sub : Subscription) (es : List (ℕ × Subscription))
    → values_of (es ++ (n, sub) ∷ []) ≡ values_of es ++ sub ∷ []
values_push n sub [] = refl
values_push n sub (e ∷ es) = ap (λ l. e.1 ∷ l) (values_push n sub es)

pub keyed_push : (n : ℕ) (sub : Subscription) (es : List (ℕ × Subscription))
    → nat_eq n sub.serial ≡ true
    → is_keyed es ≡ true
    → is_keyed (es ++ (n, sub) ∷ []) ≡ true
keyed_push n sub [] so keyed = and_from (nat_eq n sub.serial) true so refl
keyed_push n sub (e ∷ es) so keyed =
    and_from (nat_eq e.0 e.1.serial) (is_keyed (es ++ (n, sub) ∷ []))
    ((and_parts (nat_eq e.0 e.1.serial) (is_keyed es) keyed).0)
    (keyed_push n sub es so ((and_parts (nat_eq e.0 e.1.serial) (is_keyed es) keyed).1))
