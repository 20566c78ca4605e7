-- The serials of the subscriptions that a test holds of: what a change to the list changes.
use Rattle.std.proofs.Common.{◌≡◌, ℕ, ◌<◌, Bool, true, false, cond, not, ◌&&◌, List, [], ◌∷◌, ◌++◌, map, Some, None, Ok, Err, refl, ap, sym, ◌∙◌, arith, inl, inr, All}
use Rattle.std.specs.Prelude.{nat_eq, nat_lt, find, filter, unwrap_or, Result, OnOk, OnErr}
use Rattle.std.specs.Result.{is_err}
use Rattle.std.specs.declared.alloc.AllocError.{AllocError}
use Rattle.std.specs.Option.{option_map}
use Rattle.std.specs.Str.{bytes_eq}
use Rattle.std.specs.Cmp.Lexicographic.{bytes_decides}
use Rattle.arrayvec.specs.ArrayVec.{ArrayVec as Items}
use Rattle.std.specs.List.{AllByRecursion}
use Rattle.std.proofs.lemmas.Bool.{cases_Bool, cond-true, cond-false, and_parts}
use Rattle.std.proofs.lemmas.Bool.Decides.{nat_tests}
use Rattle.std.proofs.lemmas.List.Elements.{recursion_from_All}
use Rattle.sub_table.specs.declared.Subscription.{Subscription}
use Rattle.sub_table.specs.Subscriptions.{has_serial, without_serial, with_changed, serial_of, serials_of, is_of, is_called}
use Rattle.sub_trie.specs.Groups.{first_of, is_other, called_eq, serials_called}
use Rattle.sub_trie.specs.Rising.{all_above, is_rising}

abbrev pub serials_if : (Subscription → Bool) → List Subscription → List ℕ
serials_if p subs = map serial_of (filter p subs)

in_both : (c : Bool) (x : ℕ) (xs ys : List ℕ) → x ∷ cond c xs ys ≡ cond c (x ∷ xs) (x ∷ ys)
in_both true x xs ys = refl
in_both false x xs ys = refl

-- ---- one more

pub push_if : (p : Subscription → Bool) (subs : List Subscription) (sub : Subscription)
    → serials_if p (subs ++ sub ∷ []) ≡ cond (p sub) (serials_if p subs ++ sub.serial ∷ []) (serials_if p subs)
push_if p [] sub =
    elim (p sub) as (λ b. map serial_of (cond b (sub ∷ []) []) ≡ cond b (sub.serial ∷ []) []) [
      | true ↦ refl
      | false ↦ refl
    ]
push_if p (s ∷ subs) sub =
    elim (p s) as (λ b.
    map serial_of (cond b (s ∷ filter p (subs ++ sub ∷ [])) (filter p (subs ++ sub ∷ [])))
    ≡ cond (p sub) (map serial_of (cond b (s ∷ filter p subs) (filter p subs)) ++ sub.serial ∷ [])
    (map serial_of (cond b (s ∷ filter p subs) (filter p subs)))) [
      | true ↦
          ap (λ l. s.serial ∷ l) (push_if p subs sub)
          ∙ in_both (p sub) s.serial (serials_if p subs ++ sub.serial ∷ []) (serials_if p subs)
      | false ↦ push_if p subs sub
    ]

-- ---- one less

others_stay : (p : Subscription → Bool) (n : ℕ) (subs : List Subscription)
    → all_above n subs ≡ true
    → filter (is_other n) (serials_if p subs) ≡ serials_if p subs
others_stay p n [] above = refl
others_stay p n (s ∷ subs) above =
    let first = (and_parts (nat_lt n s.serial) (all_above n subs) above).0 in
    let rest = others_stay p n subs ((and_parts (nat_lt n s.serial) (all_above n subs) above).1) in
    let apart : is_other n s.serial ≡ true = ap not (unlike n s.serial first) in
    elim (p s) as (λ b.
    filter (is_other n) (map serial_of (cond b (s ∷ filter p subs) (filter p subs)))
    ≡ map serial_of (cond b (s ∷ filter p subs) (filter p subs))) [
      | true ↦
          cond-true (is_other n s.serial) (s.serial ∷ filter (is_other n) (serials_if p subs))
          (filter (is_other n) (serials_if p subs)) apart
          ∙ ap (λ l. s.serial ∷ l) rest
      | false ↦ rest
    ]
  where
    unlike : (a b : ℕ) → nat_lt a b ≡ true → nat_eq b a ≡ false
    unlike a b lt = grind (arith, nat_tests)

first_is : (s t : Subscription) → Some s ≡ Some t → s ≡ t
first_is s t e = ap (λ o. unwrap_or o s) e

pub without_if : (p : Subscription → Bool) (n : ℕ) (subs : List Subscription) (sub : Subscription)
    → is_rising subs ≡ true
    → find (has_serial n) subs ≡ Some sub
    → serials_if p (without_serial n subs) ≡ cond (p sub) (filter (is_other n) (serials_if p subs)) (serials_if p subs)
without_if p n [] sub rising found = cc
without_if p n (s ∷ subs) sub rising found =
    let above = (and_parts (all_above s.serial subs) (is_rising subs) rising).0 in
    elim (cases_Bool (has_serial n s)) [
      | inl so ↦
          let is : s ≡ sub =
          first_is s sub (sym (cond-true (has_serial n s) (Some s) (find (has_serial n) subs) so) ∙ found) in
          let serial : s.serial ≡ n = grind (arith, nat_tests) in
          let gone : is_other n s.serial ≡ false = ap not so in
          ap (serials_if p) (cond-true (has_serial n s) subs (s ∷ without_serial n subs) so)
          ∙ elim (p s) as (λ b.
          serials_if p subs
          ≡ cond b (filter (is_other n) (map serial_of (cond b (s ∷ filter p subs) (filter p subs))))
          (map serial_of (cond b (s ∷ filter p subs) (filter p subs)))) [
            | true ↦
                sym (cond-false (is_other n s.serial) (s.serial ∷ filter (is_other n) (serials_if p subs))
                (filter (is_other n) (serials_if p subs)) gone
                ∙ others_stay p n subs (ap (λ m. all_above m subs) (sym serial) ∙ above))
            | false ↦ refl
          ]
          ∙ ap (λ t. cond (p t) (filter (is_other n) (serials_if p (s ∷ subs))) (serials_if p (s ∷ subs))) is
      | inr other ↦
          let rest = without_if p n subs sub ((and_parts (all_above s.serial subs) (is_rising subs) rising).1)
          (sym (cond-false (has_serial n s) (Some s) (find (has_serial n) subs) other) ∙ found) in
          let stays : is_other n s.serial ≡ true = ap not other in
          ap (serials_if p) (cond-false (has_serial n s) subs (s ∷ without_serial n subs) other)
          ∙ elim (p s) as (λ b.
          map serial_of (cond b (s ∷ filter p (without_serial n subs)) (filter p (without_serial n subs)))
          ≡ cond (p sub) (filter (is_other n) (map serial_of (cond b (s ∷ filter p subs) (filter p subs))))
          (map serial_of (cond b (s ∷ filter p subs) (filter p subs)))) [
            | true ↦
                ap (λ l. s.serial ∷ l) rest
                ∙ in_both (p sub) s.serial (filter (is_other n) (serials_if p subs)) (serials_if p subs)
                ∙ ap (λ l. cond (p sub) l (s.serial ∷ serials_if p subs))
                (sym (cond-true (is_other n s.serial) (s.serial ∷ filter (is_other n) (serials_if p subs))
                (filter (is_other n) (serials_if p subs)) stays))
            | false ↦ rest
          ]
    ]

-- ---- groups of serials by a key

module _ {Q : Type 0} (same : Q → Bool) (k : Q) (p : Q → Subscription → Bool) (old new : Q → List ℕ)
    (subs : List Subscription) (sub : Subscription) (own : (q : Q) → p q sub ≡ same q)
    (alike : (q : Q) → same q ≡ true → serials_if (p k) subs ≡ serials_if (p q) subs)
    (had : (q : Q) → old q ≡ serials_if (p q) subs) where
  pub grouped_push : ((q : Q) → new q ≡ cond (same q) (old k ++ sub.serial ∷ []) (old q))
      → (q : Q)
      → new q ≡ serials_if (p q) (subs ++ sub ∷ [])
  grouped_push is q =
      elim (cases_Bool (same q)) [
        | inl so ↦
            is q
            ∙ cond-true (same q) (old k ++ sub.serial ∷ []) (old q) so
            ∙ ap (λ l. l ++ sub.serial ∷ []) (had k ∙ alike q so)
            ∙ sym (push_if (p q) subs sub
            ∙ cond-true (p q sub) (serials_if (p q) subs ++ sub.serial ∷ []) (serials_if (p q) subs) (own q ∙ so))
        | inr other ↦
            is q
            ∙ cond-false (same q) (old k ++ sub.serial ∷ []) (old q) other
            ∙ had q
            ∙ sym (push_if (p q) subs sub
            ∙ cond-false (p q sub) (serials_if (p q) subs ++ sub.serial ∷ []) (serials_if (p q) subs) (own q ∙ other))
      ]

  pub grouped_without : (n : ℕ)
      → is_rising subs ≡ true
      → find (has_serial n) subs ≡ Some sub
      → ((q : Q) → new q ≡ cond (same q) (filter (is_other n) (old k)) (old q))
      → (q : Q)
      → new q ≡ serials_if (p q) (without_serial n subs)
  grouped_without n rising found is q =
      elim (cases_Bool (same q)) [
        | inl so ↦
            is q
            ∙ cond-true (same q) (filter (is_other n) (old k)) (old q) so
            ∙ ap (filter (is_other n)) (had k ∙ alike q so)
            ∙ sym (without_if (p q) n subs sub rising found
            ∙ cond-true (p q sub) (filter (is_other n) (serials_if (p q) subs)) (serials_if (p q) subs) (own q ∙ so))
        | inr other ↦
            is q
            ∙ cond-false (same q) (filter (is_other n) (old k)) (old q) other
            ∙ had q
            ∙ sym (without_if (p q) n subs sub rising found
            ∙ cond-false (p q sub) (filter (is_other n) (serials_if (p q) subs)) (serials_if (p q) subs)
            (own q ∙ other))
      ]

-- ---- the first

pub first_if : (p : Subscription → Bool) (subs : List Subscription)
    → first_of (serials_if p subs) ≡ option_map serial_of (find p subs)
first_if p [] = refl
first_if p (s ∷ subs) =
    elim (p s) as (λ b.
    first_of (map serial_of (cond b (s ∷ filter p subs) (filter p subs)))
    ≡ option_map serial_of (cond b (Some s) (find p subs))) [
      | true ↦ refl
      | false ↦ first_if p subs
    ]

-- ---- what was opened last, closed again

last_goes : (sub : Subscription) (subs : List Subscription)
    → AllByRecursion (λ other. other.serial < sub.serial) subs
    → without_serial sub.serial (subs ++ sub ∷ []) ≡ subs
last_goes sub [] below =
    let own : has_serial sub.serial sub ≡ true = grind (arith, nat_tests) in
    cond-true (has_serial sub.serial sub) [] (sub ∷ []) own
last_goes sub (s ∷ subs) below =
    let lower = below.0 in
    let apart : has_serial sub.serial s ≡ false = grind (arith, nat_tests) in
    cond-false (has_serial sub.serial s) (subs ++ sub ∷ []) (s ∷ without_serial sub.serial (subs ++ sub ∷ [])) apart
    ∙ ap (λ l. s ∷ l) (last_goes sub subs below.1)

last_found : (sub : Subscription) (subs : List Subscription)
    → AllByRecursion (λ other. other.serial < sub.serial) subs
    → find (has_serial sub.serial) (subs ++ sub ∷ []) ≡ Some sub
last_found sub [] below =
    let own : has_serial sub.serial sub ≡ true = grind (arith, nat_tests) in
    cond-true (has_serial sub.serial sub) (Some sub) None own
last_found sub (s ∷ subs) below =
    let lower = below.0 in
    let apart : has_serial sub.serial s ≡ false = grind (arith, nat_tests) in
    cond-false (has_serial sub.serial s) (Some s) (find (has_serial sub.serial) (subs ++ sub ∷ [])) apart
    ∙ last_found sub subs below.1

pub last_closed : (sub : Subscription) (subs : List Subscription)
    → All (λ other. other.serial < sub.serial) subs
    → without_serial sub.serial (subs ++ sub ∷ []) ≡ subs
last_closed sub subs below =
    last_goes sub subs (recursion_from_All (λ (other : Subscription). other.serial < sub.serial) subs below)

pub last_is : (sub : Subscription) (subs : List Subscription)
    → All (λ other. other.serial < sub.serial) subs
    → find (has_serial sub.serial) (subs ++ sub ∷ []) ≡ Some sub
last_is sub subs below =
    last_found sub subs (recursion_from_All (λ (other : Subscription). other.serial < sub.serial) subs below)

-- ---- all of a connection

-- ---- a change that keeps serials, connections and ids

pub changed_if : (p : Subscription → Bool) (n : ℕ) (change : Subscription → Subscription)
    → ((s : Subscription) → (change s).serial ≡ s.serial)
    → ((s : Subscription) → p (change s) ≡ p s)
    → (subs : List Subscription)
    → serials_if p (with_changed n change subs) ≡ serials_if p subs
changed_if p n change same_serial same_test [] = refl
changed_if p n change same_serial same_test (s ∷ subs) =
    elim (has_serial n s) as
    (λ b. serials_if p (cond b (change s ∷ subs) (s ∷ with_changed n change subs)) ≡ serials_if p (s ∷ subs)) [
      | true ↦
          ap (λ c. map serial_of (cond c (change s ∷ filter p subs) (filter p subs))) (same_test s)
          ∙ elim (p s) as (λ c.
          map serial_of (cond c (change s ∷ filter p subs) (filter p subs))
          ≡ map serial_of (cond c (s ∷ filter p subs) (filter p subs))) [
            | true ↦ ap (λ m. m ∷ serials_if p subs) (same_serial s)
            | false ↦ refl
          ]
      | false ↦
          elim (p s) as (λ c.
          map serial_of (cond c (s ∷ filter p (with_changed n change subs)) (filter p (with_changed n change subs)))
          ≡ map serial_of (cond c (s ∷ filter p subs) (filter p subs))) [
            | true ↦ ap (λ l. s.serial ∷ l) (changed_if p n change same_serial same_test subs)
            | false ↦ changed_if p n change same_serial same_test subs
          ]
    ]

-- ---- by connection, and by connection and id

same_number : (a b : ℕ) → nat_eq a b ≡ true → a ≡ b
same_number a b so = grind (arith, nat_tests)

module _ (k : ℕ) (old new : ℕ → List ℕ) (subs : List Subscription) (sub : Subscription) (key : k ≡ sub.conn)
    (had : (q : ℕ) → old q ≡ serials_of q subs) where
  own_conn : (q : ℕ) → is_of q sub ≡ nat_eq k q
  own_conn q = ap (λ c. nat_eq c q) (sym key)

  alike_conn : (q : ℕ) → nat_eq k q ≡ true → serials_if (is_of k) subs ≡ serials_if (is_of q) subs
  alike_conn q so = ap (λ c. serials_if (is_of c) subs) (same_number k q so)

  pub conn_push : ((q : ℕ) → new q ≡ cond (nat_eq k q) (old k ++ sub.serial ∷ []) (old q))
      → (q : ℕ)
      → new q ≡ serials_of q (subs ++ sub ∷ [])
  conn_push is q = grouped_push (nat_eq k) k (λ c. is_of c) old new subs sub own_conn alike_conn had is q

  pub conn_without : (n : ℕ)
      → is_rising subs ≡ true
      → find (has_serial n) subs ≡ Some sub
      → ((q : ℕ) → new q ≡ cond (nat_eq k q) (filter (is_other n) (old k)) (old q))
      → (q : ℕ)
      → new q ≡ serials_of q (without_serial n subs)
  conn_without n rising found is q =
      grouped_without (nat_eq k) k (λ c. is_of c) old new subs sub own_conn alike_conn had n rising found is q

module _ (k : ℕ × Items ℕ) (old new : ℕ × Items ℕ → List ℕ) (subs : List Subscription) (sub : Subscription)
    (conn : k.0 ≡ sub.conn) (sid : k.1.items ≡ sub.sid) (had : (q : ℕ × Items ℕ) → old q ≡ serials_called q subs) where
  own_key : (q : ℕ × Items ℕ) → is_called q.0 q.1.items sub ≡ called_eq k q
  own_key q =
      ap (λ c. nat_eq c q.0 && bytes_eq sub.sid q.1.items) (sym conn)
      ∙ ap (λ t. nat_eq k.0 q.0 && bytes_eq t q.1.items) (sym sid)

  alike_key : (q : ℕ × Items ℕ)
      → called_eq k q ≡ true
      → serials_if (is_called k.0 k.1.items) subs ≡ serials_if (is_called q.0 q.1.items) subs
  alike_key q so =
      ap (λ c. serials_if (is_called c k.1.items) subs)
      (same_number k.0 q.0 ((and_parts (nat_eq k.0 q.0) (bytes_eq k.1.items q.1.items) so).0))
      ∙ ap (λ t. serials_if (is_called q.0 t) subs)
      ((bytes_decides k.1.items q.1.items).0 ((and_parts (nat_eq k.0 q.0) (bytes_eq k.1.items q.1.items) so).1))

  pub key_push : ((q : ℕ × Items ℕ) → new q ≡ cond (called_eq k q) (old k ++ sub.serial ∷ []) (old q))
      → (q : ℕ × Items ℕ)
      → new q ≡ serials_called q (subs ++ sub ∷ [])
  key_push is q =
      grouped_push (called_eq k) k (λ c. is_called c.0 c.1.items) old new subs sub own_key alike_key had is q

  pub key_without : (n : ℕ)
      → is_rising subs ≡ true
      → find (has_serial n) subs ≡ Some sub
      → ((q : ℕ × Items ℕ) → new q ≡ cond (called_eq k q) (filter (is_other n) (old k)) (old q))
      → (q : ℕ × Items ℕ)
      → new q ≡ serials_called q (without_serial n subs)
  key_without n rising found is q =
      grouped_without (called_eq k) k (λ c. is_called c.0 c.1.items) old new subs sub own_key alike_key had n rising
      found is q

-- ---- one that is not there, and the first of a connection

pub without_nowhere : (n : ℕ) (subs : List Subscription)
    → find (has_serial n) subs ≡ None
    → without_serial n subs ≡ subs
without_nowhere n [] none = refl
without_nowhere n (s ∷ subs) none =
    elim (has_serial n s) as
    (λ b. cond b (Some s) (find (has_serial n) subs) ≡ None → cond b subs (s ∷ without_serial n subs) ≡ s ∷ subs) [
      | true ↦ λ e. cc
      | false ↦ λ e. ap (λ l. s ∷ l) (without_nowhere n subs e)
    ] none

-- ---- an answer that is known

pub on_ok : (r : Result (Unit {0}) AllocError) (P : Type 0) → is_err r ≡ false → OnOk r P → P
on_ok (Ok x) P e h = h
on_ok (Err x) P e h = cc

pub on_err : (r : Result (Unit {0}) AllocError) (P : Type 0) → is_err r ≡ true → OnErr r P → P
on_err (Ok x) P e h = cc
on_err (Err x) P e h = h
