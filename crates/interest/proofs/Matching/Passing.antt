-- Entries whose keys rise, of which those that stand before a beginning are passed.
use Rattle.std.proofs.Common.{◌≡◌, ℕ, zero, suc, ◌+◌, ◌-◌, ◌<◌, ◌≤◌, Bool, true, false, List, [], ◌∷◌, length, get_or, map, drop, refl, ap, sym, ◌∙◌, subst, inl, inr, ⊎_elim, arith, Ordering, Less, Equal, Greater}
use Rattle.std.specs.Ordering.{is_lt, ordering_then, ordering_reverse, nat_cmp}
use Rattle.std.specs.Cmp.Lexicographic.{slice_cmp, nat_list_cmp_total}
use Rattle.std.specs.List.Sorted.{IsStrictlySortedBy}
use Rattle.std.proofs.lemmas.Bool.{cases_lt, cases_Bool}
use Rattle.std.proofs.lemmas.List.{length-map, append-nil}
use Rattle.std.proofs.lemmas.Map.Keys.{Less-from_sorted}
use Rattle.std.specs.Map.{keys_of}
use Rattle.route_values.specs.Snapshots.{Weighted}
use Rattle.subj.specs.declared.keys.Key.{Key}
use Rattle.subj.specs.Keys.{key_cmp}
use Rattle.subj.specs.Matching.{subject_matches}
use Rattle.subj.specs.QueueNames.{is_before}
use Rattle.interest.specs.Sights.{MatchesFrom}
use Rattle.interest.proofs.Matching.ByBytes.{in_turn, not_before_beginning}

same_at : {X : Type 0} (es : List X) (i : ℕ) (d x : X) → i < length es → get_or es i d ≡ get_or es i x
same_at [] i d x below = absurd (omega arith)
same_at (e ∷ es) zero d x below = refl
same_at (e ∷ es) (suc i) d x below = same_at es i d x (omega arith)

-- a key that is below another has no pattern behind that of the other
less_first : (r s : Ordering) → ordering_then r s ≡ Less → is_lt (ordering_reverse r) ≡ false
less_first Less s is = refl
less_first Equal s is = refl
less_first Greater s is = cc

not_behind : (a b : Key) → key_cmp a b ≡ Less → is_before b.pattern a.pattern ≡ false
not_behind a b below =
    ap is_lt (nat_list_cmp_total.antisymm b.pattern a.pattern)
    ∙ less_first (slice_cmp nat_cmp a.pattern b.pattern) _ below

module _ {X : Type 0} (entry_of : X → Weighted) (entries : List X)
    (rising : IsStrictlySortedBy key_cmp (keys_of (map entry_of entries))) where
  abbrev pattern_at : ℕ → X → List ℕ
  pattern_at i d = (entry_of (get_or entries i d)).0.pattern

  pub rises : (i j : ℕ) (d : X) → i ≤ j → j < length entries → is_before (pattern_at j d) (pattern_at i d) ≡ false
  rises i j d le below =
      ⊎_elim (λ (less : i < j).
      let len = length-map entries entry_of in
      let keys_len = length-map (map entry_of entries) (λ (e : Weighted). e.0) in
      let keys =
      Less-from_sorted key_cmp (keys_of (map entry_of entries)) i j (entry_of d).0 rising less (omega arith) in
      not_behind (entry_of (get_or entries i d)).0 (entry_of (get_or entries j d)).0
      (sym (λ k. key_cmp (mapped entries i d k) (mapped entries j d k)) ∙ keys))
      (λ (more : j ≤ i).
      let same : i ≡ j = omega arith in
      ap (λ n. is_before (pattern_at j d) (pattern_at n d)) same ∙ itself (pattern_at j d))
      (cases_lt i j)
    where
      mapped : (es : List X) (i : ℕ) (d : X)
          → get_or (keys_of (map entry_of es)) i (entry_of d).0 ≡ (entry_of (get_or es i d)).0
      mapped [] i d = refl
      mapped (e ∷ es) zero d = refl
      mapped (e ∷ es) (suc i) d = mapped es i d

      itself : (text : List ℕ) → is_before text text ≡ false
      itself text = subst (λ l. is_before l text ≡ false) (append-nil text) (not_before_beginning text [])

  module _ (subject : List ℕ) (from place : ℕ)
      (passed : (i : ℕ) (d : X) → from ≤ i → i < place → subject_matches (pattern_at i d) subject ≡ false)
      (here : place < length entries) where
    -- one more entry of which it is known
    one_more : (next : ℕ)
        → next ≡ place + 1
        → ((d : X) → subject_matches (pattern_at place d) subject ≡ false)
        → (i : ℕ) (d : X)
        → from ≤ i
        → i < next
        → subject_matches (pattern_at i d) subject ≡ false
    one_more next is no_match i d after below =
        ⊎_elim (λ (less : i < place). passed i d after less)
        (λ (more : place ≤ i).
        let same : i ≡ place = omega arith in ap (λ n. subject_matches (pattern_at n d) subject) same ∙ no_match d)
        (cases_lt i place)

    -- those that stand before the beginning, as the last of them does
    pub passed_before : (beginning : List ℕ) (next : ℕ) → place < next → next ≤ length entries
        → ((d : X) → subject_matches (pattern_at place d) subject ≡ false)
        → ((d : X) (text : List ℕ) → MatchesFrom (pattern_at place d) subject text → is_before text beginning ≡ false)
        → ((d : X) → place + 1 < next → is_before (pattern_at (next - 1) d) beginning ≡ true)
        → (i : ℕ) (d : X) → from ≤ i → i < next → subject_matches (pattern_at i d) subject ≡ false
    passed_before beginning next more within no_match far last i d after below =
        ⊎_elim (λ (less : i < place + 1). one_more (place + 1) refl no_match i d after less)
        (λ (le : place + 1 ≤ i).
        elim (cases_Bool (subject_matches (pattern_at i d) subject)) [
          | inr other ↦ other
          | inl matches ↦
              let high = far d (pattern_at i d) (rises place i d (omega arith) (omega arith), matches) in
              let low = last d (omega arith) in
              let clash : true ≡ false = sym low
              ∙ in_turn beginning (pattern_at i d) (pattern_at (next - 1) d) high
              (rises i (next - 1) d (omega arith) (omega arith)) in
              cc
        ])
        (cases_lt i (place + 1))

    -- none behind it matches
    pub passed_all : ((d : X) (text : List ℕ) → MatchesFrom (pattern_at place d) subject text → ⊥)
        → (i : ℕ) (d : X)
        → from ≤ i
        → i < length entries
        → subject_matches (pattern_at i d) subject ≡ false
    passed_all far i d after below = ⊎_elim
        (λ (less : i < place). passed i d after less)
        (λ (le : place ≤ i). elim (cases_Bool (subject_matches (pattern_at i d) subject)) [
          | inr other ↦ other
          | inl matches ↦ absurd (far d (pattern_at i d) (rises place i d le below, matches))
        ])
        (cases_lt i place)

    -- the same by the entry there
    module _ (x : X) (x_is : x ≡ get_or entries place x) (pattern wanted : List ℕ)
        (pattern_is : pattern ≡ (entry_of x).0.pattern) (wanted_is : wanted ≡ subject) where
      pattern_there : (d : X) → pattern_at place d ≡ pattern
      pattern_there d = ap (λ e. (entry_of e).0.pattern) (same_at entries place d x here ∙ sym x_is) ∙ sym pattern_is

      pub moves_on : (beginning : List ℕ) (next : ℕ) → place < next → next ≤ length entries
          → subject_matches pattern wanted ≡ false
          → ((text : List ℕ) → MatchesFrom pattern wanted text → is_before text beginning ≡ false)
          → ((d : X) → place + 1 < next → is_before (pattern_at (next - 1) d) beginning ≡ true)
          → (i : ℕ) (d : X) → from ≤ i → i < next → subject_matches (pattern_at i d) subject ≡ false
      moves_on beginning next more within other far last =
          passed_before beginning next more within
          (λ d. (λ k. subject_matches (pattern_there d k) (sym wanted_is k)) ∙ other)
          (λ d text so.
          far text (
            subst (λ p. is_before text p ≡ false) (pattern_there d) so.0,
            ap (subject_matches text) wanted_is ∙ so.1,
          ))
          last

      pub moves_to_end : ((text : List ℕ) → MatchesFrom pattern wanted text → ⊥)
          → (i : ℕ) (d : X)
          → from ≤ i
          → i < length entries
          → subject_matches (pattern_at i d) subject ≡ false
      moves_to_end far =
          passed_all (λ d text so.
          far text (
            subst (λ p. is_before text p ≡ false) (pattern_there d) so.0,
            ap (subject_matches text) wanted_is ∙ so.1,
          ))

-- ---- what a walk over all entries computes, it computes over those that are left

module _ {X A : Type 0} (entry_of : X → Weighted) (walk : List Weighted → A) (matches : Weighted → Bool)
    (passes : (e : Weighted) (es : List Weighted) → matches e ≡ false → walk (e ∷ es) ≡ walk es) where
  one_less : (es : List X) (from : ℕ)
      → from < length es
      → ((d : X) → matches (entry_of (get_or es from d)) ≡ false)
      → walk (map entry_of (drop from es)) ≡ walk (map entry_of (drop (suc from) es))
  one_less [] from below none = absurd (omega arith)
  one_less (e ∷ es) zero below none = passes (entry_of e) (map entry_of es) (none e)
  one_less (e ∷ es) (suc from) below none = one_less es from (omega arith) none

  skip : (entries : List X) (n from next : ℕ)
      → from + n ≡ next
      → next ≤ length entries
      → ((i : ℕ) (d : X) → from ≤ i → i < next → matches (entry_of (get_or entries i d)) ≡ false)
      → walk (map entry_of (drop from entries)) ≡ walk (map entry_of (drop next entries))
  skip entries zero from next is within none =
      let same : from ≡ next = omega arith in ap (λ k. walk (map entry_of (drop k entries))) same
  skip entries (suc n) from next is within none =
      one_less entries from (omega arith) (λ d. none from d (omega arith) (omega arith))
      ∙ skip entries n (suc from) next (omega arith) within (λ i d after below. none i d (omega arith) below)

  pub skipped : (entries : List X) (from next : ℕ)
      → from ≤ next
      → next ≤ length entries
      → ((i : ℕ) (d : X) → from ≤ i → i < next → matches (entry_of (get_or entries i d)) ≡ false)
      → walk (map entry_of (drop from entries)) ≡ walk (map entry_of (drop next entries))
  skipped entries from next le within none = skip entries (next - from) from next (omega arith) within none
