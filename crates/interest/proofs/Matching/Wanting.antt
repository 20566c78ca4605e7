-- Who wants a subject, found among the entries that match it.
use Rattle.std.proofs.Common.{◌≡◌, ℕ, zero, suc, ◌+◌, ◌<◌, ◌≤◌, Bool, true, false, ◌&&◌, ◌||◌, cond, List, [], ◌∷◌, length, get_or, map, map-id, drop, Option, Some, None, refl, ap, sym, ◌∙◌, arith}
use Rattle.std.proofs.lemmas.List.Sums.{sum_by-cons}
use Rattle.subj.specs.QueueNames.{is_named}
use Rattle.route_values.specs.Snapshots.{Weighted}
use Rattle.interest.specs.Matches.{is_of_kind, has_kind_match, add_queue, names_in, matching_weight, weight_in}
use Rattle.interest.specs.Seeks.{matches_entry, IsNextMatch}
use Rattle.interest.proofs.Matching.Gathering.{not_fewer_in}
use Rattle.interest.proofs.Matching.Passing.{skipped}

and_false : (b : Bool) → (b && false) ≡ false
and_false true = refl
and_false false = refl

not_added : (queue : Option (List ℕ)) (names : List (List ℕ)) → add_queue false queue names ≡ names
not_added None names = refl
not_added (Some name) names = refl

-- ---- what does not match is not counted

kind_passes : (plain : Bool) (subject : List ℕ) (e : Weighted) (es : List Weighted)
    → matches_entry subject e ≡ false
    → has_kind_match plain subject (e ∷ es) ≡ has_kind_match plain subject es
kind_passes plain subject e es other =
    (λ i. (is_of_kind plain e.0 && other i) || has_kind_match plain subject es)
    ∙ ap (λ b. b || has_kind_match plain subject es) (and_false (is_of_kind plain e.0))

names_pass : (subject : List ℕ) (e : Weighted) (es : List Weighted)
    → matches_entry subject e ≡ false
    → names_in subject (e ∷ es) ≡ names_in subject es
names_pass subject e es other =
    λ i names. names_in subject es ((ap (λ b. add_queue b e.0.queue names) other ∙ not_added e.0.queue names) i)

weight_passes : (subject name : List ℕ) (e : Weighted) (es : List Weighted)
    → matches_entry subject e ≡ false
    → weight_in subject name (e ∷ es) ≡ weight_in subject name es
weight_passes subject name e es other =
    let none : matching_weight subject name e ≡ 0 = ap (λ b. cond (is_named name e.0.queue && b) e.1 0) other
    ∙ ap (λ b. cond b e.1 0) (and_false (is_named name e.0.queue)) in
    let first = sum_by-cons (matching_weight subject name) e es in
    omega arith

module _ {X : Type 0} (entry_of : X → Weighted) (subject : List ℕ) (entries : List X) where
  -- from a place to the next one that matches
  pub kind_on : (plain : Bool) (from next : ℕ)
      → IsNextMatch entry_of entries subject from next
      → has_kind_match plain subject (map entry_of (drop from entries))
      ≡ has_kind_match plain subject (map entry_of (drop next entries))
  kind_on plain from next on =
      skipped entry_of (has_kind_match plain subject) (matches_entry subject) (kind_passes plain subject) entries from
      next on.after on.within on.passed

  pub names_on : (from next : ℕ)
      → IsNextMatch entry_of entries subject from next
      → names_in subject (map entry_of (drop from entries)) ≡ names_in subject (map entry_of (drop next entries))
  names_on from next on =
      skipped entry_of (names_in subject) (matches_entry subject) (names_pass subject) entries from next on.after
      on.within on.passed

  pub weight_on : (name : List ℕ) (from next : ℕ)
      → IsNextMatch entry_of entries subject from next
      → weight_in subject name (map entry_of (drop from entries))
      ≡ weight_in subject name (map entry_of (drop next entries))
  weight_on name from next on =
      skipped entry_of (weight_in subject name) (matches_entry subject) (weight_passes subject name) entries from next
      on.after on.within on.passed

  -- the entry at a place is the first of those that are left
  at_next : (es : List X) (place : ℕ) (x : X)
      → place < length es
      → x ≡ get_or es place x
      → map entry_of (drop place es) ≡ entry_of x ∷ map entry_of (drop (suc place) es)
  at_next [] place x below is = absurd (omega arith)
  at_next (e ∷ es) zero x below is = ap (λ e. entry_of e ∷ map entry_of es) (sym is)
  at_next (e ∷ es) (suc place) x below is = at_next es place x (omega arith) is

  at_place : (es : List X) (place : ℕ) (x : X)
      → place < length es
      → x ≡ get_or es place x
      → map entry_of (drop place es) ≡ entry_of x ∷ map entry_of (drop (place + 1) es)
  at_place es place x below is =
      at_next es place x below is
      ∙ ap (λ n. entry_of x ∷ map entry_of (drop n es)) (let same : suc place ≡ place + 1 = omega arith in same)

  none_left : (es : List X) (place : ℕ) → length es ≤ place → map entry_of (drop place es) ≡ []
  none_left [] zero le = refl
  none_left [] (suc place) le = refl
  none_left (e ∷ es) zero le = absurd (omega arith)
  none_left (e ∷ es) (suc place) le = none_left es place (omega arith)

  module _ (place : ℕ) (x : X) (below : place < length entries) (x_is : x ≡ get_or entries place x)
      (found : matches_entry subject (entry_of x) ≡ true) where
    left : map entry_of (drop place entries) ≡ entry_of x ∷ map entry_of (drop (place + 1) entries)
    left = at_place entries place x below x_is

    pub kind_here : (plain : Bool)
        → is_of_kind plain (entry_of x).0 ≡ true
        → has_kind_match plain subject (map entry_of (drop place entries)) ≡ true
    kind_here plain is =
        ap (has_kind_match plain subject) left
        ∙ (λ i. (is i && found i) || has_kind_match plain subject (map entry_of (drop (place + 1) entries)))

    pub kind_behind : (plain : Bool)
        → is_of_kind plain (entry_of x).0 ≡ false
        → has_kind_match plain subject (map entry_of (drop place entries))
        ≡ has_kind_match plain subject (map entry_of (drop (place + 1) entries))
    kind_behind plain other =
        ap (has_kind_match plain subject) left
        ∙ (λ i.
        (other i && matches_entry subject (entry_of x))
        || has_kind_match plain subject (map entry_of (drop (place + 1) entries)))

    pub names_here : (names : List (List ℕ))
        → names_in subject (map entry_of (drop place entries)) names
        ≡ names_in subject (map entry_of (drop (place + 1) entries)) (add_queue true (entry_of x).0.queue names)
    names_here names =
        (λ i. names_in subject (left i) names)
        ∙ ap (λ b. names_in subject (map entry_of (drop (place + 1) entries)) (add_queue b (entry_of x).0.queue names))
        found

    -- where one name is too many so far, so are all
    pub too_many : (names all : List (List ℕ)) (most : ℕ)
        → names_in subject (map entry_of (drop place entries)) names ≡ all
        → most < length (add_queue true (entry_of x).0.queue names)
        → most < length all
    too_many names all most is more =
        let rest =
        not_fewer_in subject (map entry_of (drop (place + 1) entries)) (add_queue true (entry_of x).0.queue names) in
        let same = ap length (sym (names_here names) ∙ is) in
        omega arith

    pub weight_here : (name : List ℕ)
        → weight_in subject name (map entry_of (drop place entries))
        ≡ cond (is_named name (entry_of x).0.queue) (entry_of x).1 0
        + weight_in subject name (map entry_of (drop (place + 1) entries))
    weight_here name =
        ap (weight_in subject name) left
        ∙ sum_by-cons (matching_weight subject name) (entry_of x) (map entry_of (drop (place + 1) entries))
        ∙ ap (λ b.
        cond (is_named name (entry_of x).0.queue && b) (entry_of x).1 0
        + weight_in subject name (map entry_of (drop (place + 1) entries)))
        found
        ∙ ap (λ b. cond b (entry_of x).1 0 + weight_in subject name (map entry_of (drop (place + 1) entries)))
        (and_true (is_named name (entry_of x).0.queue))
      where
        and_true : (b : Bool) → (b && true) ≡ b
        and_true true = refl
        and_true false = refl

  -- ---- the same where each entry is looked at

  module _ (place : ℕ) (x : X) (below : place < length entries) (x_is : x ≡ get_or entries place x) where
    pub names_at : (names : List (List ℕ))
        → names_in subject (map entry_of (drop place entries)) names
        ≡ names_in subject (map entry_of (drop (place + 1) entries))
        (add_queue (matches_entry subject (entry_of x)) (entry_of x).0.queue names)
    names_at names = λ i. names_in subject (at_place entries place x below x_is i) names

    pub too_many_at : (names all : List (List ℕ)) (most : ℕ)
        → names_in subject (map entry_of (drop place entries)) names ≡ all
        → most < length (add_queue (matches_entry subject (entry_of x)) (entry_of x).0.queue names)
        → most < length all
    too_many_at names all most is more =
        let rest = not_fewer_in subject (map entry_of (drop (place + 1) entries))
        (add_queue (matches_entry subject (entry_of x)) (entry_of x).0.queue names) in
        let same = ap length (sym (names_at names) ∙ is) in
        omega arith

  pub kind_at_end : (plain : Bool) (place : ℕ)
      → length entries ≤ place
      → has_kind_match plain subject (map entry_of (drop place entries)) ≡ false
  kind_at_end plain place le = ap (has_kind_match plain subject) (none_left entries place le)

  pub names_at_end : (place : ℕ) (names : List (List ℕ))
      → length entries ≤ place
      → names_in subject (map entry_of (drop place entries)) names ≡ names
  names_at_end place names le = ap (λ (es : List Weighted). names_in subject es names) (none_left entries place le)

  pub weight_at_end : (name : List ℕ) (place : ℕ)
      → length entries ≤ place
      → weight_in subject name (map entry_of (drop place entries)) ≡ 0
  weight_at_end name place le = ap (weight_in subject name) (none_left entries place le)

  -- ---- as far as a walk has come

  pub found_here : (place : ℕ) (x : X)
      → x ≡ get_or entries place x
      → place < length entries
      → ((d : X) → place < length entries → matches_entry subject (entry_of (get_or entries place d)) ≡ true)
      → matches_entry subject (entry_of x) ≡ true
  found_here place x is below found = ap (λ x. matches_entry subject (entry_of x)) is ∙ found x below

-- the same of entries that are weighted keys
module _ (subject name : List ℕ) (entries : List Weighted) where
  itself : (n : ℕ)
      → weight_in subject name (map (λ (e : Weighted). e) (drop n entries)) ≡ weight_in subject name (drop n entries)
  itself n = ap (weight_in subject name) (map-id (drop n entries))

  pub weight_at_start : (next : ℕ)
      → IsNextMatch (λ (e : Weighted). e) entries subject 0 next
      → 0 + weight_in subject name (drop next entries) ≡ weight_in subject name entries
  weight_at_start next on =
      let same = sym (itself 0) ∙ weight_on (λ (e : Weighted). e) subject entries name 0 next on ∙ itself next in
      omega arith

  pub weight_further : (total place next weight all : ℕ) (x : Weighted)
      → place < length entries
      → x ≡ get_or entries place x
      → ((d : Weighted) → place < length entries → matches_entry subject (get_or entries place d) ≡ true)
      → weight ≡ cond (is_named name x.0.queue) x.1 0
      → total + weight_in subject name (drop place entries) ≡ all
      → IsNextMatch (λ (e : Weighted). e) entries subject (place + 1) next
      → total + weight + weight_in subject name (drop next entries) ≡ all
  weight_further total place next weight all x below is found weighs so_far on =
      let here = sym (itself place)
      ∙ weight_here (λ (e : Weighted). e) subject entries place x below is
      (found_here (λ (e : Weighted). e) subject entries place x is below found) name in
      let rest = sym (itself (place + 1)) ∙ weight_on (λ (e : Weighted). e) subject entries name (place + 1) next on
      ∙ itself next in
      let first = itself (place + 1) in
      omega arith

  pub weight_in_all : (total place all : ℕ)
      → length entries ≤ place
      → total + weight_in subject name (drop place entries) ≡ all
      → total ≡ all
  weight_in_all total place all le so_far =
      let none = sym (itself place) ∙ weight_at_end (λ (e : Weighted). e) subject entries name place le in
      omega arith
