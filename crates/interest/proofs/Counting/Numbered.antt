-- The numbers of keys after deltas, found as the deltas are, and given to the counts at once.
use Rattle.std.proofs.Common.{◌≡◌, ℕ, suc, ◌<◌, ◌≤◌, Bool, true, false, ◌||◌, cond, List, [], ◌∷◌, ◌++◌, length, take, drop, get_or, Option, Some, None, refl, ap, sym, ◌∙◌, subst, take_all, arith}
use Rattle.std.specs.Prelude.{nat_eq, is_some, unwrap_or, option_to_list}
use Rattle.std.specs.Cmp.{alike_right, tied_itself}
use Rattle.std.specs.declared.cmp.Ordering.{Ordering}
use Rattle.std.specs.Ordering.{is_eq, match_ordering, ordering_reverse}
use Rattle.std.specs.declared.cmp.Ordering.TheVariants.{Less, Equal, Greater}
use Rattle.std.specs.List.Sorted.{IsStrictlySortedBy}
use Rattle.std.specs.Map.{keys_of, lookup, remove_entry}
use Rattle.std.specs.BTreeMap.{is_at, insert_entry}
use Rattle.std.proofs.lemmas.Bool.Decides.{nat_tests}
use Rattle.std.proofs.Math.ListN.{drop_of_length-le}
use Rattle.std.proofs.lemmas.List.{append_assoc, append-nil}
use Rattle.std.proofs.lemmas.Map.Keys.{sorted_tail}
use Rattle.subj.specs.declared.keys.Key.{Key}
use Rattle.subj.specs.declared.limits.TheConstants.{MAX_WEIGHT}
use Rattle.subj.specs.Keys.{key_cmp, cost_of}
use Rattle.interest.specs.declared.changes.Change.{Change}
use Rattle.subj.specs.declared.keys.Delta.{Delta}
use Rattle.interest.specs.declared.tally.ManyPlan.{ManyPlan}
use Rattle.interest.specs.Counts.{Counts, count_of, count_after, with_count, counts_after, change_between, change_of, delta_fault, total_cost, IsInterest}
use Rattle.interest.specs.Told.{counts_told, changes_told, are_refused}
use Rattle.interest.specs.Tally.{is_refused_of, total_after}
use Rattle.interest.specs.Recounts.{with_numbers, AreNumbersOf, AreCounted}
use Rattle.interest.proofs.Counting.Agreement.{stays_within}
use Rattle.interest.proofs.Counting.Limits.{AreSome, are_some, absent_behind}
use Rattle.interest.proofs.Counting.InOrder.{told_next, left_from, fault_here, none_if, Totals, totals_are}
use Rattle.interest.specs.KeyOrder.{key_order_total}
use Rattle.interest.proofs.Counting.InPlace.{number_left}
use Rattle.interest.proofs.Counting.Planned.{change_here, both_not, none_is, number_most}
use Rattle.interest.proofs.Counting.Ties.{same_key, absent_below}
use Rattle.interest.proofs.Counting.Told.{is_equal, lookup_tied, lookup_inserted, count_with, sorted_with}

-- ---- before the delta of this place

pub record Reached (counts : Counts) (deltas : List Delta) (i keys bytes : ℕ) (numbers : Counts)
    (changes : List Change) : Type 0 where
  pub valid : IsInterest (counts_told counts (take i deltas))
  pub keys_are : keys ≡ length (counts_told counts (take i deltas))
  pub bytes_are : bytes ≡ total_cost (counts_told counts (take i deltas))
  pub refused : are_refused (counts_told counts (take i deltas)) (drop i deltas) ≡ are_refused counts deltas
  pub changes_are :
      changes ++ changes_told (counts_told counts (take i deltas)) (drop i deltas) ≡ changes_told counts deltas
  pub numbers_are : (key : Key)
      → count_of (counts_told counts (take i deltas)) key
      ≡ unwrap_or (lookup (is_at (key_cmp key)) numbers) (count_of counts key)

pub reached_first : (counts : Counts) (deltas : List Delta) (keys bytes : ℕ) (numbers : Counts) (changes : List Change)
    → IsInterest counts
    → keys ≡ length counts
    → bytes ≡ total_cost counts
    → numbers ≡ []
    → changes ≡ []
    → Reached counts deltas 0 keys bytes numbers changes
reached_first counts deltas keys bytes numbers changes is keys_are bytes_are none nothing = record {
  valid = is;
  keys_are = keys_are;
  bytes_are = bytes_are;
  refused = refl;
  changes_are = ap (λ (l : List Change). l ++ changes_told counts deltas) nothing;
  numbers_are = λ key. sym (ap (λ (l : Counts). unwrap_or (lookup (is_at (key_cmp key)) l) (count_of counts key)) none);
}

unwrapped : (b : Bool) (o : Option ℕ) (n m : ℕ) → unwrap_or (cond b (Some n) o) m ≡ cond b n (unwrap_or o m)
unwrapped true o n m = refl
unwrapped false o n m = refl

module _ (counts : Counts) (deltas : List Delta) (i keys bytes : ℕ) (numbers : Counts) (changes : List Change)
    (here : Reached counts deltas i keys bytes numbers changes) (delta : Delta) (lt : i < length deltas)
    (at : delta ≡ get_or deltas i delta) (n : ℕ)
    (number : n ≡ unwrap_or (lookup (is_at (key_cmp delta.key)) numbers) (count_of counts delta.key)) where
  abbrev so_far : Counts
  so_far = counts_told counts (take i deltas)

  abbrev left : List Delta
  left = drop (suc i) deltas

  pub number_is : n ≡ count_of (counts_told counts (take i deltas)) delta.key
  number_is = number ∙ sym (here.numbers_are delta.key)

  pub number_small : n ≤ MAX_WEIGHT
  number_small = subst (λ n. n ≤ MAX_WEIGHT) (sym number_is) (number_most so_far delta.key here.valid)

  pub number_fits : is_refused_of keys bytes delta n ≡ false → count_after delta.up n ≤ MAX_WEIGHT
  number_fits not = number_left delta keys bytes n not number_small

  fault_is : is_some (delta_fault so_far delta) ≡ is_refused_of keys bytes delta n
  fault_is = fault_here so_far delta keys bytes n here.keys_are here.bytes_are number_is

  pub refused_now : is_refused_of keys bytes delta n ≡ true → are_refused counts deltas ≡ true
  refused_now is =
      sym here.refused
      ∙ ap (are_refused so_far) (left_from deltas i delta lt at)
      ∙ ap (λ b. b || are_refused (counts_after so_far delta) left) (fault_is ∙ is)

  module _ (not : is_refused_of keys bytes delta n ≡ false) where
    pub taken_now : delta_fault (counts_told counts (take i deltas)) delta ≡ None
    taken_now = none_if (delta_fault so_far delta) (fault_is ∙ not)

    same : counts_told counts (take (suc i) deltas) ≡ counts_after so_far delta
    same = told_next counts deltas i delta lt at

    totals : Totals so_far delta
    totals = totals_are so_far delta here.valid taken_now

    numbers_next : (key : Key)
        → count_of (counts_after so_far delta) key
        ≡ unwrap_or (lookup (is_at (key_cmp key)) (insert_entry key_cmp numbers delta.key (count_after delta.up n)))
        (count_of counts key)
    unfolding counts_after
    numbers_next key =
        count_with so_far key delta.key (count_after delta.up (count_of so_far delta.key)) here.valid.rising
        ∙ ap (λ m. cond (is_eq (key_cmp key delta.key)) (count_after delta.up m) (count_of so_far key)) (sym number_is)
        ∙ ap (cond (is_eq (key_cmp key delta.key)) (count_after delta.up n)) (here.numbers_are key)
        ∙ sym (unwrapped (is_eq (key_cmp key delta.key)) (lookup (is_at (key_cmp key)) numbers) (count_after delta.up n)
        (count_of counts key))
        ∙ ap (λ o. unwrap_or o (count_of counts key))
        (sym (lookup_inserted key_order_total key delta.key (count_after delta.up n) numbers))

    pub reached_next : (keys_next bytes_next cost : ℕ) (numbers_after : Counts) (changes_after : List Change)
        → keys_next ≡ total_after delta.up n keys 1
        → cost ≡ cost_of delta.key
        → bytes_next ≡ total_after delta.up n bytes cost
        → numbers_after ≡ insert_entry key_cmp numbers delta.key (count_after delta.up n)
        → changes_after ≡ changes ++ option_to_list (change_between delta.key n (count_after delta.up n))
        → Reached counts deltas (suc i) keys_next bytes_next numbers_after changes_after
    reached_next keys_next bytes_next cost numbers_after changes_after keys_are cost_is bytes_are numbers_are
        changes_are = record {
          valid = subst IsInterest (sym same) (stays_within so_far delta here.valid taken_now);
          keys_are =
              keys_are
              ∙ ap (λ n. total_after delta.up n keys 1) number_is
              ∙ ap (λ k. total_after delta.up (count_of so_far delta.key) k 1) here.keys_are
              ∙ sym totals.keys
              ∙ ap length (sym same);
          bytes_are =
              bytes_are
              ∙ ap (λ n. total_after delta.up n bytes cost) number_is
              ∙ ap (λ b. total_after delta.up (count_of so_far delta.key) b cost) here.bytes_are
              ∙ ap (total_after delta.up (count_of so_far delta.key) (total_cost so_far)) cost_is
              ∙ sym totals.cost
              ∙ ap total_cost (sym same);
          refused =
              ap (λ (c : Counts). are_refused c left) same
              ∙ sym (ap (are_refused so_far) (left_from deltas i delta lt at)
              ∙ ap (λ b. b || are_refused (counts_after so_far delta) left) (fault_is ∙ not))
              ∙ here.refused;
          changes_are =
              ap (λ (c : Counts). changes_after ++ changes_told c left) same
              ∙ ap (λ (l : List Change). l ++ changes_told (counts_after so_far delta) left)
              (changes_are ∙ ap (λ c. changes ++ option_to_list c) (change_here so_far delta n number_is))
              ∙ append_assoc changes (option_to_list (change_of so_far delta))
              (changes_told (counts_after so_far delta) left)
              ∙ ap (λ ds. changes ++ changes_told so_far ds) (sym (left_from deltas i delta lt at))
              ∙ here.changes_are;
          numbers_are = λ key.
              ap (λ (c : Counts). count_of c key) same
              ∙ numbers_next key
              ∙ sym (ap (λ (l : Counts). unwrap_or (lookup (is_at (key_cmp key)) l) (count_of counts key)) numbers_are);
        }

-- ---- behind the last delta

pub all_counted : (counts : Counts) (deltas : List Delta) (i : ℕ) (plan : ManyPlan)
    → Reached counts deltas i plan.keys plan.bytes plan.numbers.entries plan.changes.items
    → length deltas ≤ i
    → AreCounted counts deltas plan true
all_counted counts deltas i plan here end =
    let told : counts_told counts (take i deltas) ≡ counts_told counts deltas =
    ap (counts_told counts) (take_all i deltas end) in
    let none : drop i deltas ≡ [] = drop_of_length-le deltas end in (
      sym here.refused ∙ ap (are_refused (counts_told counts (take i deltas))) none,
      (λ key. ap (λ (c : Counts). count_of c key) (sym told) ∙ here.numbers_are key),
      here.bytes_are ∙ ap total_cost told,
      sym (append-nil plan.changes.items)
          ∙ ap (λ ds. plan.changes.items ++ changes_told (counts_told counts (take i deltas)) ds) (sym none)
          ∙ here.changes_are,
    )

-- ---- the counts with all these numbers

some_not : (n : ℕ) → nat_eq n 0 ≡ false → 1 ≤ n
some_not n is = grind (arith, nat_tests)

some_removed : (test : Key → Bool) (es : Counts) → AreSome es → AreSome (remove_entry test es)
some_removed test [] some = tt
some_removed test (e ∷ es) some = elim (test e.0) as (λ b. AreSome (cond b es (e ∷ remove_entry test es))) [
  | true ↦ some.1
  | false ↦ (some.0, some_removed test es some.1)
]

some_inserted : (key : Key) (n : ℕ) (es : Counts) → 1 ≤ n → AreSome es → AreSome (insert_entry key_cmp es key n)
some_inserted key n [] least some = (least, tt)
some_inserted key n (e ∷ es) least some =
    elim (key_cmp key e.0) as
    (λ r. AreSome (match_ordering r ((key, n) ∷ e ∷ es) ((e.0, n) ∷ es) (e ∷ insert_entry key_cmp es key n))) [
      | Less ↦ (least, some)
      | Equal ↦ (least, some.1)
      | Greater ↦ (some.0, some_inserted key n es least some.1)
    ]

some_with : (counts : Counts) (key : Key) (n : ℕ) → AreSome counts → AreSome (with_count counts key n)
some_with counts key n some =
    elim (nat_eq n 0) as (λ b.
    nat_eq n 0 ≡ b → AreSome (cond b (remove_entry (is_at (key_cmp key)) counts) (insert_entry key_cmp counts key n))) [
      | true ↦ λ is. some_removed (is_at (key_cmp key)) counts some
      | false ↦ λ is. some_inserted key n counts (some_not n is) some
    ] refl

some_numbered : (numbers counts : Counts) → AreSome counts → AreSome (with_numbers counts numbers)
some_numbered [] counts some = some
some_numbered (m ∷ ms) counts some = some_numbered ms (with_count counts m.0 m.1) (some_with counts m.0 m.1 some)

sorted_numbered : (numbers counts : Counts)
    → IsStrictlySortedBy key_cmp (keys_of counts)
    → IsStrictlySortedBy key_cmp (keys_of (with_numbers counts numbers))
sorted_numbered [] counts sorted = sorted
sorted_numbered (m ∷ ms) counts sorted =
    sorted_numbered ms (with_count counts m.0 m.1) (sorted_with counts m.0 m.1 sorted)

count_numbered : (numbers counts : Counts) (q : Key)
    → IsStrictlySortedBy key_cmp (keys_of numbers)
    → IsStrictlySortedBy key_cmp (keys_of counts)
    → count_of (with_numbers counts numbers) q ≡ unwrap_or (lookup (is_at (key_cmp q)) numbers) (count_of counts q)
count_numbered [] counts q rising sorted = refl
count_numbered (m ∷ ms) counts q rising sorted =
    count_numbered ms (with_count counts m.0 m.1) q (sorted_tail key_cmp m.0 (keys_of ms) rising)
    (sorted_with counts m.0 m.1 sorted)
    ∙ ap (unwrap_or (lookup (is_at (key_cmp q)) ms)) (count_with counts q m.0 m.1 sorted)
    ∙ go (is_eq (key_cmp q m.0)) refl
  where
    go : (b : Bool)
        → is_eq (key_cmp q m.0) ≡ b
        → unwrap_or (lookup (is_at (key_cmp q)) ms) (cond b m.1 (count_of counts q))
        ≡ unwrap_or (cond b (Some m.1) (lookup (is_at (key_cmp q)) ms)) (count_of counts q)
    go true is =
        ap (λ o. unwrap_or o m.1)
        (lookup_tied key_order_total q m.0 ms (is_equal (key_cmp q m.0) is) ∙ absent_behind m ms rising)
    go false is = refl

-- counts with the same numbers are the same

mine : (e : Key × ℕ) (es : Counts) (q : Key) → key_cmp q e.0 ≡ Equal → count_of (e ∷ es) q ≡ e.1
mine e es q is = ap (λ r. unwrap_or (cond (is_eq r) (Some e.1) (lookup (is_at (key_cmp q)) es)) 0) is

others : (e : Key × ℕ) (es : Counts) (q : Key) → is_eq (key_cmp q e.0) ≡ false → count_of (e ∷ es) q ≡ count_of es q
others e es q is = ap (λ b. unwrap_or (cond b (Some e.1) (lookup (is_at (key_cmp q)) es)) 0) is

itself : (k : Key) → key_cmp k k ≡ Equal
itself k = tied_itself key_order_total k

-- a key below the first has no number, but it has one
not_below : (e f : Key × ℕ) (es fs : Counts)
    → IsStrictlySortedBy key_cmp (keys_of (f ∷ fs))
    → 1 ≤ e.1
    → count_of (e ∷ es) e.0 ≡ count_of (f ∷ fs) e.0
    → key_cmp e.0 f.0 ≡ Less
    → ⊥
not_below e f es fs rising some same less =
    let none : count_of (f ∷ fs) e.0 ≡ 0 =
    ap (λ o. unwrap_or o 0) (absent_below key_order_total e.0 f fs rising less) in
    let one = mine e es e.0 (itself e.0) in
    absurd (omega arith)

same_counts : (these those : Counts)
    → IsStrictlySortedBy key_cmp (keys_of these)
    → IsStrictlySortedBy key_cmp (keys_of those)
    → AreSome these
    → AreSome those
    → ((q : Key) → count_of these q ≡ count_of those q)
    → these ≡ those
same_counts [] [] rises rising some many same = refl
same_counts [] (f ∷ fs) rises rising some many same =
    absurd (let one = mine f fs f.0 (itself f.0) in let is = same f.0 in let least = many.0 in omega arith)
same_counts (e ∷ es) [] rises rising some many same =
    absurd (let one = mine e es e.0 (itself e.0) in let is = same e.0 in let least = some.0 in omega arith)
same_counts (e ∷ es) (f ∷ fs) rises rising some many same =
    go
    (same_counts es fs (sorted_tail key_cmp e.0 (keys_of es) rises) (sorted_tail key_cmp f.0 (keys_of fs) rising) some.1
    many.1)
    (key_cmp e.0 f.0) refl
  where
    back : key_cmp e.0 f.0 ≡ Greater → key_cmp f.0 e.0 ≡ Less
    back is = key_order_total.antisymm f.0 e.0 ∙ ap ordering_reverse is

    go : (((q : Key) → count_of es q ≡ count_of fs q) → es ≡ fs)
        → (r : Ordering)
        → key_cmp e.0 f.0 ≡ r
        → e ∷ es ≡ f ∷ fs
    go rest Less is = absurd (not_below e f es fs rising some.0 (same e.0) is)
    go rest Greater is = absurd (not_below f e fs es rises many.0 (sym (same f.0)) (back is))
    go rest Equal is = λ i. first i ∷ rest behind i
      where
        number : e.1 ≡ f.1
        number = sym (mine e es e.0 (itself e.0)) ∙ same e.0 ∙ mine f fs e.0 is

        first : e ≡ f
        first i = (same_key e.0 f.0 is i, number i)

        none : (g : Key × ℕ) (gs : Counts) (q : Key)
            → IsStrictlySortedBy key_cmp (keys_of (g ∷ gs))
            → key_cmp q g.0 ≡ Equal
            → count_of gs q ≡ 0
        none g gs q sorted tied =
            ap (λ o. unwrap_or o 0) (lookup_tied key_order_total q g.0 gs tied ∙ absent_behind g gs sorted)

        behind : (q : Key) → count_of es q ≡ count_of fs q
        behind q = at (is_eq (key_cmp q e.0)) refl
          where
            tests : key_cmp q e.0 ≡ key_cmp q f.0
            tests = alike_right key_order_total e.0 f.0 q is

            at : (b : Bool) → is_eq (key_cmp q e.0) ≡ b → count_of es q ≡ count_of fs q
            at true tied =
                none e es q rises (is_equal (key_cmp q e.0) tied)
                ∙ sym (none f fs q rising (sym tests ∙ is_equal (key_cmp q e.0) tied))
            at false apart = sym (others e es q apart) ∙ same q ∙ others f fs q (ap is_eq (sym tests) ∙ apart)

pub stays_valid : (deltas : List Delta) (counts : Counts)
    → IsInterest counts
    → are_refused counts deltas ≡ false
    → IsInterest (counts_told counts deltas)
stays_valid [] counts is not = is
stays_valid (delta ∷ deltas) counts is not =
    let two = both_not (is_some (delta_fault counts delta)) (are_refused (counts_after counts delta) deltas) not in
    stays_valid deltas (counts_after counts delta)
    (stays_within counts delta is (none_is (delta_fault counts delta) two.0)) two.1

pub told_at_once : (counts : Counts) (deltas : List Delta) (numbers : Counts)
    → IsInterest counts
    → IsInterest (counts_told counts deltas)
    → AreNumbersOf counts deltas numbers
    → with_numbers counts numbers ≡ counts_told counts deltas
told_at_once counts deltas numbers is valid of =
    same_counts (with_numbers counts numbers) (counts_told counts deltas) (sorted_numbered numbers counts is.rising)
    valid.rising (some_numbered numbers counts (are_some counts is.counted))
    (are_some (counts_told counts deltas) valid.counted)
    (λ q. count_numbered numbers counts q of.rising is.rising ∙ sym (of.are q))
