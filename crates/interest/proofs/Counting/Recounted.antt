-- Keys take their numbers in one walk over the entries and the numbers.
use Rattle.std.proofs.Common.{◌≡◌, ℕ, ◌≤◌, Bool, true, false, cond, List, [], ◌∷◌, ◌++◌, length, refl, ap, sym, ◌∙◌, subst, arith}
use Rattle.std.specs.Prelude.{nat_eq}
use Rattle.std.specs.declared.cmp.Ordering.{Ordering}
use Rattle.std.specs.declared.cmp.Ordering.TheVariants.{Less, Equal, Greater}
use Rattle.std.specs.Ordering.{is_lt, is_eq, match_ordering, ordering_reverse}
use Rattle.std.specs.List.{AllByRecursion}
use Rattle.std.specs.List.Sorted.{IsStrictlySortedBy}
use Rattle.std.specs.Map.{keys_of, remove_entry}
use Rattle.std.specs.BTreeMap.{is_at, insert_entry}
use Rattle.std.proofs.lemmas.List.{append_assoc}
use Rattle.std.proofs.lemmas.Map.{NonePasses}
use Rattle.std.proofs.lemmas.Map.Entries.{none_below_head}
use Rattle.std.proofs.lemmas.Map.Keys.{sorted_head, sorted_tail}
use Rattle.subj.specs.declared.keys.Key.{Key}
use Rattle.subj.specs.Keys.{key_cmp}
use Rattle.interest.specs.Counts.{Counts, with_count}
use Rattle.interest.specs.Recounts.{with_numbers, is_first_below, below, from_key, without_first, one_if}
use Rattle.interest.specs.KeyOrder.{key_order_total}
use Rattle.interest.proofs.Counting.Ties.{same_key}

turned : (a b : Key) → key_cmp a b ≡ ordering_reverse (key_cmp b a)
turned a b = key_order_total.antisymm a b

-- ---- an entry below stays in front

with_count_behind : (e : Key × ℕ) (es : Counts) (key : Key) (n : ℕ)
    → key_cmp e.0 key ≡ Less
    → with_count (e ∷ es) key n ≡ e ∷ with_count es key n
with_count_behind e es key n less =
    let more : key_cmp key e.0 ≡ Greater = turned key e.0 ∙ ap ordering_reverse less in
    elim (nat_eq n 0) as (λ b.
    cond b (remove_entry (is_at (key_cmp key)) (e ∷ es)) (insert_entry key_cmp (e ∷ es) key n)
    ≡ e ∷ cond b (remove_entry (is_at (key_cmp key)) es) (insert_entry key_cmp es key n)) [
      | true ↦ ap (λ r. cond (is_eq r) es (e ∷ remove_entry (is_at (key_cmp key)) es)) more
      | false ↦ ap (λ r. match_ordering r ((key, n) ∷ e ∷ es) ((e.0, n) ∷ es) (e ∷ insert_entry key_cmp es key n)) more
    ]

pub numbers_behind : (e : Key × ℕ) (numbers es : Counts)
    → AllByRecursion (λ y. key_cmp e.0 y ≡ Less) (keys_of numbers)
    → with_numbers (e ∷ es) numbers ≡ e ∷ with_numbers es numbers
numbers_behind e [] es all = refl
numbers_behind e (m ∷ ms) es all =
    ap (λ (c : Counts). with_numbers c ms) (with_count_behind e es m.0 m.1 all.0)
    ∙ numbers_behind e ms (with_count es m.0 m.1) all.1

all_above : (e key : Key) (keys : List Key)
    → key_cmp e key ≡ Less
    → AllByRecursion (λ y. key_cmp key y ≡ Less) keys
    → AllByRecursion (λ y. key_cmp e y ≡ Less) keys
all_above e key [] less all = tt
all_above e key (k ∷ ks) less all = (key_order_total.trans e key k less all.0, all_above e key ks less all.1)

-- ---- one that is not there

none_removed : (test : Key → Bool) (es : Counts) → NonePasses test es → remove_entry test es ≡ es
none_removed test [] none = refl
none_removed test (e ∷ es) none =
    ap (λ b. cond b es (e ∷ remove_entry test es)) none.0 ∙ ap (λ (l : Counts). e ∷ l) (none_removed test es none.1)

-- ---- a key takes its number, and so do those above it

module _ (key : Key) (n : ℕ) (numbers : Counts) (rising : IsStrictlySortedBy key_cmp (key ∷ keys_of numbers)) where
  above : AllByRecursion (λ y. key_cmp key y ≡ Less) (keys_of numbers)
  above = sorted_head key_cmp key (keys_of numbers) rising

  -- where the walk is at the key's place
  placed : (es : Counts)
      → (b : Bool)
      → with_numbers (cond b es ((key, n) ∷ es)) numbers ≡ cond b [] ((key, n) ∷ []) ++ with_numbers es numbers
  placed es true = refl
  placed es false = numbers_behind (key, n) numbers es above

  at_end : with_numbers (with_count [] key n) numbers ≡ one_if key n ++ with_numbers [] numbers
  at_end = placed [] (nat_eq n 0)

  at_key : (e : Key × ℕ) (es : Counts)
      → key_cmp e.0 key ≡ Equal
      → with_numbers (with_count (e ∷ es) key n) numbers ≡ one_if key n ++ with_numbers es numbers
  at_key e es is = ap (λ (c : Counts). with_numbers c numbers) written ∙ placed es (nat_eq n 0)
    where
      tied : key_cmp key e.0 ≡ Equal
      tied = turned key e.0 ∙ ap ordering_reverse is

      written : with_count (e ∷ es) key n ≡ cond (nat_eq n 0) es ((key, n) ∷ es)
      written =
          elim (nat_eq n 0) as (λ b.
          cond b (remove_entry (is_at (key_cmp key)) (e ∷ es)) (insert_entry key_cmp (e ∷ es) key n)
          ≡ cond b es ((key, n) ∷ es)) [
            | true ↦ ap (λ r. cond (is_eq r) es (e ∷ remove_entry (is_at (key_cmp key)) es)) tied
            | false ↦
                ap (λ r. match_ordering r ((key, n) ∷ e ∷ es) ((e.0, n) ∷ es) (e ∷ insert_entry key_cmp es key n)) tied
                ∙ ap (λ (k : Key). (k, n) ∷ es) (same_key e.0 key is)
          ]

  before : (e : Key × ℕ) (es : Counts)
      → IsStrictlySortedBy key_cmp (keys_of (e ∷ es))
      → key_cmp e.0 key ≡ Greater
      → with_numbers (with_count (e ∷ es) key n) numbers ≡ one_if key n ++ with_numbers (e ∷ es) numbers
  before e es sorted is = ap (λ (c : Counts). with_numbers c numbers) written ∙ placed (e ∷ es) (nat_eq n 0)
    where
      less : key_cmp key e.0 ≡ Less
      less = turned key e.0 ∙ ap ordering_reverse is

      written : with_count (e ∷ es) key n ≡ cond (nat_eq n 0) (e ∷ es) ((key, n) ∷ e ∷ es)
      written =
          elim (nat_eq n 0) as (λ b.
          cond b (remove_entry (is_at (key_cmp key)) (e ∷ es)) (insert_entry key_cmp (e ∷ es) key n)
          ≡ cond b (e ∷ es) ((key, n) ∷ e ∷ es)) [
            | true ↦ none_removed (is_at (key_cmp key)) (e ∷ es) (none_below_head key_order_total key e es sorted less)
            | false ↦
                ap (λ r. match_ordering r ((key, n) ∷ e ∷ es) ((e.0, n) ∷ es) (e ∷ insert_entry key_cmp es key n)) less
          ]

  pub one_taken : (counts : Counts)
      → IsStrictlySortedBy key_cmp (keys_of counts)
      → with_numbers (with_count counts key n) numbers
      ≡ below key counts ++ (one_if key n ++ with_numbers (without_first key (from_key key counts)) numbers)
  one_taken [] sorted = at_end
  one_taken (e ∷ es) sorted = go (one_taken es (sorted_tail key_cmp e.0 (keys_of es) sorted)) (key_cmp e.0 key) refl
    where
      go : with_numbers (with_count es key n) numbers
          ≡ below key es ++ (one_if key n ++ with_numbers (without_first key (from_key key es)) numbers)
          → (r : Ordering)
          → key_cmp e.0 key ≡ r
          → with_numbers (with_count (e ∷ es) key n) numbers
          ≡ cond (is_lt r) (e ∷ below key es) []
          ++ (one_if key n ++ with_numbers (without_first key (cond (is_lt r) (from_key key es) (e ∷ es))) numbers)
      go rest Less is = ap (λ (c : Counts). with_numbers c numbers) (with_count_behind e es key n is)
          ∙ numbers_behind e numbers (with_count es key n) (all_above e.0 key (keys_of numbers) is above)
          ∙ ap (λ (l : Counts). e ∷ l) rest
      go rest Equal is =
          at_key e es is ∙ sym (ap (λ r. one_if key n ++ with_numbers (cond (is_eq r) es (e ∷ es)) numbers) is)
      go rest Greater is =
          before e es sorted is ∙ sym (ap (λ r. one_if key n ++ with_numbers (cond (is_eq r) es (e ∷ es)) numbers) is)

-- ---- the first entry, where it is below the key

pub one_below : (key : Key) (e : Key × ℕ) (es old : Counts)
    → old ≡ e ∷ es
    → is_first_below key old ≡ true
    → (below key old ≡ e ∷ below key es) × (from_key key old ≡ from_key key es)
one_below key e es old are is =
    let first : is_lt (key_cmp e.0 key) ≡ true = ap (is_first_below key) (sym are) ∙ is in (
      ap (below key) are ∙ ap (λ b. cond b (e ∷ below key es) []) first,
      ap (from_key key) are ∙ ap (λ b. cond b (from_key key es) (e ∷ es)) first,
    )

pub none_below : (key : Key) (es : Counts)
    → is_first_below key es ≡ false
    → (below key es ≡ []) × (from_key key es ≡ es)
none_below key [] is = (refl, refl)
none_below key (e ∷ es) is = (ap (λ b. cond b (e ∷ below key es) []) is, ap (λ b. cond b (from_key key es) (e ∷ es)) is)

-- ---- what is left rises

pub from_key_rises : (key : Key) (es : Counts)
    → IsStrictlySortedBy key_cmp (keys_of es)
    → IsStrictlySortedBy key_cmp (keys_of (from_key key es))
from_key_rises key [] sorted = sorted
from_key_rises key (e ∷ es) sorted =
    elim (is_lt (key_cmp e.0 key)) as (λ b. IsStrictlySortedBy key_cmp (keys_of (cond b (from_key key es) (e ∷ es)))) [
      | true ↦ from_key_rises key es (sorted_tail key_cmp e.0 (keys_of es) sorted)
      | false ↦ sorted
    ]

pub without_rises : (key : Key) (es : Counts)
    → IsStrictlySortedBy key_cmp (keys_of es)
    → IsStrictlySortedBy key_cmp (keys_of (without_first key es))
without_rises key [] sorted = sorted
without_rises key (e ∷ es) sorted =
    elim (is_eq (key_cmp e.0 key)) as (λ b. IsStrictlySortedBy key_cmp (keys_of (cond b es (e ∷ es)))) [
      | true ↦ sorted_tail key_cmp e.0 (keys_of es) sorted
      | false ↦ sorted
    ]

-- ---- how many there are

pub without_fewer : (key : Key) (es : Counts) → length (without_first key es) ≤ length es
without_fewer key [] = omega arith
without_fewer key (e ∷ es) = elim (is_eq (key_cmp e.0 key)) as (λ b. length (cond b es (e ∷ es)) ≤ length (e ∷ es)) [
  | true ↦ omega arith
  | false ↦ omega arith
]

-- ---- one number more

module _ (numbers rest done left : Counts) (x : Key × ℕ) (are : numbers ≡ x ∷ rest)
    (rising : IsStrictlySortedBy key_cmp (keys_of numbers)) (done_after left_after : Counts)
    (left_is : left_after ≡ without_first x.0 (from_key x.0 left)) where
  pub put_next : done_after ≡ done ++ (below x.0 left ++ one_if x.0 x.1)
      → IsStrictlySortedBy key_cmp (keys_of left)
      → done_after ++ with_numbers left_after rest ≡ done ++ with_numbers left numbers
  put_next done_is sorted =
      let last : Counts = with_numbers (without_first x.0 (from_key x.0 left)) rest in
      (λ j. done_is j ++ with_numbers (left_is j) rest)
      ∙ append_assoc done (below x.0 left ++ one_if x.0 x.1) last
      ∙ ap (λ (l : Counts). done ++ l) (append_assoc (below x.0 left) (one_if x.0 x.1) last)
      ∙ ap (λ (l : Counts). done ++ l)
      (sym
      (one_taken x.0 x.1 rest (subst (λ (l : Counts). IsStrictlySortedBy key_cmp (keys_of l)) are rising) left sorted))
      ∙ ap (λ (l : Counts). done ++ with_numbers left l) (sym are)

  pub put_rises : IsStrictlySortedBy key_cmp (keys_of left) → IsStrictlySortedBy key_cmp (keys_of left_after)
  put_rises sorted =
      subst (λ (l : Counts). IsStrictlySortedBy key_cmp (keys_of l)) (sym left_is)
      (without_rises x.0 (from_key x.0 left) (from_key_rises x.0 left sorted))

  pub rest_rises : IsStrictlySortedBy key_cmp (keys_of rest)
  rest_rises =
      sorted_tail key_cmp x.0 (keys_of rest) (subst (λ (l : Counts). IsStrictlySortedBy key_cmp (keys_of l)) are rising)
