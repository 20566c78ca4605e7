-- What a step of the walk gathers.
use Rattle.std.proofs.Common.{◌≡◌, ℕ, Bool, true, false, ◌&&◌, ◌||◌, List, [], ◌∷◌, ◌++◌, length, take, map, refl, eq-eqb, ap, sym, ◌∙◌, arith, inl, inr}
use Rattle.std.specs.Prelude.{codes, nat_lt, Option}
use Rattle.std.specs.Option.{is_some}
use Rattle.std.proofs.Common.{Some, None}
use Rattle.pattern_trie.specs.declared.node.Node.{Node}
use Rattle.std.specs.Bool.{nat_eq}
use Rattle.std.specs.Str.{bytes_eq}
use Rattle.std.specs.Cmp.Lexicographic.{bytes_decides}
use Rattle.std.proofs.lemmas.Bool.{cases_Bool, cond-false}
use Rattle.std.proofs.lemmas.Bool.Decides.{nat_tests}
use Rattle.std.proofs.lemmas.List.{append_assoc, append-nil}
use Rattle.list_laws.specs.Lists.{is_empty}
use Rattle.pattern_trie.specs.Nodes.{Nodes, has_mark, below_at, count_of, one_if}
use Rattle.pattern_trie.specs.Beginnings.{is_beginning, is_before_dot, beginning_with_rest}
use Rattle.pattern_trie.specs.Held.{Held, Holds, count_below, values_for}
use Rattle.pattern_trie.specs.Matchers.{matchers, text_with_token, text_with_tokens, values_under}
use Rattle.pattern_trie.proofs.Lists.{begins_itself}

-- ---- lists of token lists

values_under_append : {V : Type 0} (held : List (Held V)) (path : List ℕ) (ms ns : List (List (List ℕ)))
    → values_under held path (ms ++ ns) ≡ values_under held path ms ++ values_under held path ns
values_under_append held path [] ns = refl
values_under_append held path (m ∷ ms) ns =
    ap (λ vs. values_for (text_with_tokens path m) held ++ vs) (values_under_append held path ms ns)
    ∙ sym
    (append_assoc (values_for (text_with_tokens path m) held) (values_under held path ms) (values_under held path ns))

values_under_behind : {V : Type 0} (held : List (Held V)) (path token : List ℕ) (ms : List (List (List ℕ)))
    → values_under held path (map (λ m. token ∷ m) ms) ≡ values_under held (text_with_token path token) ms
values_under_behind held path token [] = refl
values_under_behind held path token (m ∷ ms) =
    ap (λ vs. values_for (text_with_tokens (text_with_token path token) m) held ++ vs)
    (values_under_behind held path token ms)

-- the values of one token more: `>`, then the token, then `*`
pub gathered_step : {V : Type 0} (held : List (Held V)) (path token : List ℕ) (tokens : List (List ℕ))
    → values_under held path (matchers (token ∷ tokens))
    ≡ values_for (text_with_token path (codes ">")) held
    ++ (values_under held (text_with_token path token) (matchers tokens)
    ++ values_under held (text_with_token path (codes "*")) (matchers tokens))
gathered_step held path token tokens =
    ap (λ vs. values_for (text_with_token path (codes ">")) held ++ vs)
    (values_under_append held path (map (λ m. token ∷ m) (matchers tokens)) (map (λ m. codes "*" ∷ m) (matchers tokens))
    ∙ ap (λ vs. vs ++ values_under held path (map (λ m. codes "*" ∷ m) (matchers tokens)))
    (values_under_behind held path token (matchers tokens))
    ∙ ap (λ vs. values_under held (text_with_token path token) (matchers tokens) ++ vs)
    (values_under_behind held path (codes "*") (matchers tokens)))

-- ---- a path that nothing begins with

before_more : (q r : List ℕ) → is_before_dot q (q ++ 46 ∷ r) ≡ true
before_more [] r = refl
before_more (a ∷ q) r = ap (λ b. b && is_before_dot q (q ++ 46 ∷ r)) (nat_list_same a) ∙ before_more q r where
  nat_list_same : (a : ℕ) → nat_eq a a ≡ true
  nat_list_same a = eq-eqb a a refl

begins_more : (q r : List ℕ) → is_beginning q (q ++ 46 ∷ r) ≡ true
begins_more q r = ap (λ b. bytes_eq q (q ++ 46 ∷ r) || b) (before_more q r) ∙ or_true (bytes_eq q (q ++ 46 ∷ r)) where
  or_true : (b : Bool) → (b || true) ≡ true
  or_true true = refl
  or_true false = refl

tail : List (List ℕ) → List ℕ
tail [] = []
tail (t ∷ ts) = 46 ∷ (t ++ tail ts)

extended_is : (b : ℕ) (path : List ℕ) (ts : List (List ℕ)) → text_with_tokens (b ∷ path) ts ≡ b ∷ (path ++ tail ts)
unfolding tail
extended_is b path [] = ap (λ l. b ∷ l) (sym (append-nil path))
extended_is b path (t ∷ ts) = extended_is b (path ++ 46 ∷ t) ts ∙ ap (λ l. b ∷ l) (append_assoc path (46 ∷ t) (tail ts))

extended_begins : (b : ℕ) (path : List ℕ) (ts : List (List ℕ))
    → is_beginning (b ∷ path) (text_with_tokens (b ∷ path) ts) ≡ true
unfolding tail
extended_begins b path [] = begins_itself (b ∷ path)
extended_begins b path (t ∷ ts) =
    ap (is_beginning (b ∷ path)) (extended_is b path (t ∷ ts)) ∙ begins_more (b ∷ path) (t ++ tail ts)

-- nothing is held under a text, where nothing is under one that begins it
none_under : {V : Type 0} (p q : List ℕ) (held : List (Held V))
    → is_beginning p q ≡ true
    → count_below p held ≡ 0
    → values_for q held ≡ []
none_under p q [] begins none = refl
none_under p q (h ∷ held) begins none =
    elim (cases_Bool (bytes_eq q h.0)) [
      | inl y ↦
          let one : one_if (is_beginning p h.0) ≡ 1 =
          ap (λ t. one_if (is_beginning p t)) (sym ((bytes_decides q h.0).0 y)) ∙ ap one_if begins in
          absurd (omega arith)
      | inr n ↦
          cond-false (bytes_eq q h.0) (h.1 ∷ values_for q held) (values_for q held) n
          ∙ none_under p q held begins (omega arith)
    ]

no_values_under : {V : Type 0} (b : ℕ) (path : List ℕ) (held : List (Held V)) (ms : List (List (List ℕ)))
    → count_below (b ∷ path) held ≡ 0
    → values_under held (b ∷ path) ms ≡ []
no_values_under b path held [] none = refl
no_values_under b path held (m ∷ ms) none =
    ap (λ vs. vs ++ values_under held (b ∷ path) ms)
    (none_under (b ∷ path) (text_with_tokens (b ∷ path) m) held (extended_begins b path m) none)
    ∙ no_values_under b path held ms none

-- where there is no node
pub values_under_none : {V : Type 0} (held : List (Held V)) (nodes : Nodes V) (path : List ℕ)
    (ms : List (List (List ℕ)))
    → Holds held nodes
    → is_empty path ≡ false
    → below_at nodes path ≡ 0
    → values_under held path ms ≡ []
values_under_none held nodes [] ms is empty none = cc
values_under_none held nodes (b ∷ path) ms is empty none =
    no_values_under b path held ms (sym (is.counts (b ∷ path)) ∙ none)

-- ---- the path of one token more, cut off again

pub dotted_back : (path token : List ℕ) → take (length path) (text_with_token path token) ≡ path
dotted_back [] token = refl
dotted_back (b ∷ path) token = ap (λ l. b ∷ l) (front path (46 ∷ token)) where
  front : (xs ys : List ℕ) → take (length xs) (xs ++ ys) ≡ xs
  front [] ys = refl
  front (x ∷ xs) ys = ap (λ l. x ∷ l) (front xs ys)

pub cut_back : (n : ℕ) (path more token : List ℕ)
    → n ≡ length path
    → more ≡ text_with_token path token
    → take n more ≡ path
cut_back n path more token is at = ap (λ k. take k more) is ∙ ap (take (length path)) at ∙ dotted_back path token

-- ---- a token that no node is marked for

not_counted : {V : Type 0} (held : List (Held V)) (nodes : Nodes V) (path : List ℕ) (k : List ℕ)
    → Holds held nodes
    → is_empty path ≡ false
    → has_mark k nodes path ≡ false
    → count_below (text_with_token path k) held ≡ 0
not_counted held nodes [] k is some none = cc
not_counted held nodes (b ∷ path) k is some none =
    elim (cases_Bool (nat_lt 0 (count_below (beginning_with_rest k (b ∷ path)) held))) [
      | inl y ↦ absurd (no (sym (is.marks k (b ∷ path) (grind (arith, nat_tests))) ∙ none))
      | inr n ↦ grind (arith, nat_tests)
    ]
  where
    no : true ≡ false → ⊥
    no e = cc

-- nothing is held behind a token that is not marked
pub token_none : {V : Type 0} (held : List (Held V)) (nodes : Nodes V) (path token : List ℕ) (ms : List (List (List ℕ)))
    → Holds held nodes
    → (is_empty path ≡ false) × (has_mark token nodes path ≡ false)
    → values_under held (text_with_token path token) ms ≡ []
token_none held nodes [] token ms is none = nothing none.0 where
  nothing : {A : Type 0} → true ≡ false → A
  nothing e = cc
token_none held nodes (b ∷ path) token ms is none =
    no_values_under b (path ++ 46 ∷ token) held ms (not_counted held nodes (b ∷ path) token is none.0 none.1)

-- the whole of a step
module _ {V : Type 0} (held : List (Held V)) (path token : List ℕ) (tokens : List (List ℕ)) (f0 f1 f2 f3 : List V) where
  joined : (f a b d : List V) → ((f ++ a) ++ b) ++ d ≡ f ++ (a ++ (b ++ d))
  joined f a b d = append_assoc (f ++ a) b d ∙ append_assoc f a (b ++ d)

  pub walked : f1 ≡ f0 ++ values_under held (text_with_token path (codes ">")) (matchers [])
      → f2 ≡ f1 ++ values_under held (text_with_token path token) (matchers tokens)
      → f3 ≡ f2 ++ values_under held (text_with_token path (codes "*")) (matchers tokens)
      → f3 ≡ f0 ++ values_under held path (matchers (token ∷ tokens))
  walked one two three =
      let a = values_for (text_with_token path (codes ">")) held in
      let b = values_under held (text_with_token path token) (matchers tokens) in
      let d = values_under held (text_with_token path (codes "*")) (matchers tokens) in
      three
      ∙ ap (λ f. f ++ d) (two ∙ ap (λ f. f ++ b) (one ∙ ap (λ vs. f0 ++ vs) (append-nil a)))
      ∙ joined f0 a b d
      ∙ sym (ap (λ vs. f0 ++ vs) (gathered_step held path token tokens))

pub none_counted : {V : Type 0} (o : Option (Node V)) → is_some o ≡ false → count_of o ≡ 0
none_counted None no_one = refl
none_counted (Some n) no_one = cc

pub nonempty : (xs : List ℕ) → nat_eq (length xs) 0 ≡ false → is_empty xs ≡ false
nonempty [] some = cc
nonempty (x ∷ xs) some = refl
