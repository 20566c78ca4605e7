-- All of a connection, closed one after another.
use Rattle.std.proofs.Common.{◌≡◌, ℕ, ◌+◌, ◌<◌, Bool, true, false, cond, not, List, [], ◌∷◌, length, map, drop, get_or, refl, ap, sym, ◌∙◌, arith, inl, inr}
use Rattle.std.specs.Prelude.{nat_eq, nat_lt, filter}
use Rattle.std.proofs.lemmas.Bool.{cases_Bool, cond-true, cond-false, and_parts}
use Rattle.std.proofs.lemmas.Bool.Decides.{nat_tests}
use Rattle.std.proofs.lemmas.List.{drop_more}
use Rattle.sub_table.specs.declared.Subscription.{Subscription}
use Rattle.sub_table.specs.Subscriptions.{has_serial, without_serial, serial_of, serials_of, is_of, is_of_another}
use Rattle.sub_trie.specs.Groups.{without_each}
use Rattle.sub_trie.specs.Rising.{all_above, is_rising}

-- one more of those serials
pub without_more : (serials : List ℕ) (k d : ℕ) (subs : List Subscription)
    → k < length serials
    → without_each (drop k serials) subs
    ≡ without_each (drop (k + 1) serials) (without_serial (get_or serials k d) subs)
without_more serials k d subs within = ap (λ l. without_each l subs) (drop_more serials k d within)

-- one that stands before all of them stays
first_stays : (s : Subscription) (p : Subscription → Bool) (rest subs : List Subscription)
    → all_above s.serial rest ≡ true
    → without_each (map serial_of (filter p rest)) (s ∷ subs) ≡ s ∷ without_each (map serial_of (filter p rest)) subs
first_stays s p [] subs above = refl
first_stays s p (t ∷ rest) subs above =
    let later = (and_parts (nat_lt s.serial t.serial) (all_above s.serial rest) above).1 in
    let apart : has_serial t.serial s ≡ false =
    below s.serial t.serial ((and_parts (nat_lt s.serial t.serial) (all_above s.serial rest) above).0) in
    elim (p t) as (λ b.
    without_each (map serial_of (cond b (t ∷ filter p rest) (filter p rest))) (s ∷ subs)
    ≡ s ∷ without_each (map serial_of (cond b (t ∷ filter p rest) (filter p rest))) subs) [
      | true ↦
          ap (without_each (map serial_of (filter p rest)))
          (cond-false (has_serial t.serial s) subs (s ∷ without_serial t.serial subs) apart)
          ∙ first_stays s p rest (without_serial t.serial subs) later
      | false ↦ first_stays s p rest subs later
    ]
  where
    below : (a b : ℕ) → nat_lt a b ≡ true → nat_eq a b ≡ false
    below a b lt = grind (arith, nat_tests)

pub all_closed : (conn : ℕ) (subs : List Subscription)
    → is_rising subs ≡ true
    → without_each (serials_of conn subs) subs ≡ filter (is_of_another conn) subs
all_closed conn [] rising = refl
all_closed conn (s ∷ subs) rising =
    let above = (and_parts (all_above s.serial subs) (is_rising subs) rising).0 in
    let rest = all_closed conn subs ((and_parts (all_above s.serial subs) (is_rising subs) rising).1) in
    elim (is_of conn s) as (λ b.
    without_each (map serial_of (cond b (s ∷ filter (is_of conn) subs) (filter (is_of conn) subs))) (s ∷ subs)
    ≡ cond (not b) (s ∷ filter (is_of_another conn) subs) (filter (is_of_another conn) subs)) [
      | true ↦
          ap (without_each (serials_of conn subs))
          (cond-true (has_serial s.serial s) subs (s ∷ without_serial s.serial subs) (itself s.serial))
          ∙ rest
      | false ↦ first_stays s (is_of conn) subs subs above ∙ ap (λ l. s ∷ l) rest
    ]
  where
    itself : (n : ℕ) → nat_eq n n ≡ true
    itself n = grind (arith, nat_tests)

-- what is left, where the serials were those under its key
pub closed_of : (conn k : ℕ) (subs new : List Subscription) (given serials : List ℕ)
    → is_rising subs ≡ true
    → new ≡ without_each given subs
    → given ≡ serials
    → serials ≡ serials_of k subs
    → k ≡ conn
    → new ≡ filter (is_of_another conn) subs
closed_of conn k subs new given serials rising closed same had key =
    closed ∙ ap (λ l. without_each l subs) (same ∙ had ∙ ap (λ n. serials_of n subs) key) ∙ all_closed conn subs rising

-- nothing of it is left
none_has : (conn : ℕ) (subs : List Subscription) → serials_of conn (filter (is_of_another conn) subs) ≡ []
none_has conn [] = refl
none_has conn (s ∷ subs) =
    elim (cases_Bool (is_of conn s)) [
      | inl so ↦
          ap (serials_of conn)
          (cond-false (is_of_another conn s) (s ∷ filter (is_of_another conn) subs) (filter (is_of_another conn) subs)
          (ap not so))
          ∙ none_has conn subs
      | inr other ↦
          ap (serials_of conn)
          (cond-true (is_of_another conn s) (s ∷ filter (is_of_another conn) subs) (filter (is_of_another conn) subs)
          (ap not other))
          ∙ ap (map serial_of)
          (cond-false (is_of conn s) (s ∷ filter (is_of conn) (filter (is_of_another conn) subs))
          (filter (is_of conn) (filter (is_of_another conn) subs)) other)
          ∙ none_has conn subs
    ]

-- what another connection has stays
other_has : (conn q : ℕ) (subs : List Subscription)
    → nat_eq conn q ≡ false
    → serials_of q (filter (is_of_another conn) subs) ≡ serials_of q subs
other_has conn q [] apart = refl
other_has conn q (s ∷ subs) apart =
    elim (cases_Bool (is_of conn s)) [
      | inl so ↦
          ap (serials_of q)
          (cond-false (is_of_another conn s) (s ∷ filter (is_of_another conn) subs) (filter (is_of_another conn) subs)
          (ap not so))
          ∙ other_has conn q subs apart
          ∙ sym (ap (map serial_of)
          (cond-false (is_of q s) (s ∷ filter (is_of q) subs) (filter (is_of q) subs) (not_of s.conn conn q so apart)))
      | inr other ↦
          ap (serials_of q)
          (cond-true (is_of_another conn s) (s ∷ filter (is_of_another conn) subs) (filter (is_of_another conn) subs)
          (ap not other))
          ∙ elim (is_of q s) as (λ b.
          map serial_of (cond b (s ∷ filter (is_of q) (filter (is_of_another conn) subs))
          (filter (is_of q) (filter (is_of_another conn) subs)))
          ≡ map serial_of (cond b (s ∷ filter (is_of q) subs) (filter (is_of q) subs))) [
            | true ↦ ap (λ l. s.serial ∷ l) (other_has conn q subs apart)
            | false ↦ other_has conn q subs apart
          ]
    ]
  where
    not_of : (a b c : ℕ) → nat_eq a b ≡ true → nat_eq b c ≡ false → nat_eq a c ≡ false
    not_of a b c same apart = ap (λ n. nat_eq n c) (equal a b same) ∙ apart
      where
        equal : (a b : ℕ) → nat_eq a b ≡ true → a ≡ b
        equal a b same = grind (arith, nat_tests)

-- the serials of each connection, once those of one were taken away
pub conn_closed : (k conn : ℕ) (old new : ℕ → List ℕ) (subs : List Subscription)
    → k ≡ conn
    → ((q : ℕ) → old q ≡ serials_of q subs)
    → ((q : ℕ) → new q ≡ cond (nat_eq k q) [] (old q))
    → (q : ℕ)
    → new q ≡ serials_of q (filter (is_of_another conn) subs)
conn_closed k conn old new subs key had is q =
    elim (cases_Bool (nat_eq k q)) [
      | inl so ↦
          is q
          ∙ cond-true (nat_eq k q) [] (old q) so
          ∙ sym (none_has k subs)
          ∙ ap (λ n. serials_of n (filter (is_of_another k) subs)) (equal k q so)
          ∙ ap (λ n. serials_of q (filter (is_of_another n) subs)) key
      | inr other ↦
          is q
          ∙ cond-false (nat_eq k q) [] (old q) other
          ∙ had q
          ∙ sym (other_has k q subs other)
          ∙ ap (λ n. serials_of q (filter (is_of_another n) subs)) key
    ]
  where
    equal : (a b : ℕ) → nat_eq a b ≡ true → a ≡ b
    equal a b same = grind (arith, nat_tests)
