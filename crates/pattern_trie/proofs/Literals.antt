-- What is held where no pattern has a wildcard: a subject matches what is held under it as it stands.
use Rattle.std.proofs.Common.{◌≡◌, ℕ, Bool, true, false, cond, ◌&&◌, ◌||◌, List, [], ◌∷◌, ◌++◌, refl, ap, sym, ◌∙◌, inl, inr, Option, Some, None}
use Rattle.std.specs.Prelude.{is_some}
use Rattle.std.specs.Bool.{one_answer}
use Rattle.std.specs.Str.{bytes_eq}
use Rattle.std.specs.Cmp.Lexicographic.{bytes_decides}
use Rattle.std.proofs.lemmas.Bool.{cases_Bool, cond-true, cond-false}
use Rattle.list_laws.specs.Lists.{is_empty}
use Rattle.subj.specs.declared.faults.NameFault.{NameFault}
use Rattle.subj.specs.Names.{tokens, is_one_wildcard, is_rest_wildcard, is_wild, has_wild_token, subject_fault}
use Rattle.subj.specs.Matching.{tokens_match, subject_matches}
use Rattle.pattern_trie.specs.Nodes.{Nodes, IsLiteral, Values, values_at, without_value}
use Rattle.pattern_trie.specs.Held.{Held, Holds, values_for}
use Rattle.pattern_trie.specs.Matchers.{matching_values}
use Rattle.pattern_trie.proofs.Splitting.{tokens_eq, by_tokens, plain_subject, or_first, or_second}

-- ---- a pattern without a wildcard

taken : (one rest last same others : Bool)
    → one ≡ false
    → rest ≡ false
    → ((rest && last) || ((one || same) && others)) ≡ (same && others)
taken one rest last same others not_one not_rest =
    ap (λ b. (b && last) || ((one || same) && others)) not_rest ∙ ap (λ b. (b || same) && others) not_one

tokens_alike : (pattern subject : List (List ℕ))
    → has_wild_token pattern ≡ false
    → tokens_match pattern subject ≡ tokens_eq pattern subject
tokens_alike [] [] plain = refl
tokens_alike [] (token ∷ subject) plain = refl
tokens_alike (wanted ∷ pattern) [] plain = refl
tokens_alike (wanted ∷ pattern) (token ∷ subject) plain =
    let first = or_first (is_wild wanted) (has_wild_token pattern) plain in
    taken (is_one_wildcard wanted) (is_rest_wildcard wanted) (is_empty pattern) (bytes_eq wanted token)
    (tokens_match pattern subject) (or_first (is_one_wildcard wanted) (is_rest_wildcard wanted) first)
    (or_second (is_one_wildcard wanted) (is_rest_wildcard wanted) first)
    ∙ ap (λ b. bytes_eq wanted token && b)
    (tokens_alike pattern subject (or_second (is_wild wanted) (has_wild_token pattern) plain))

either_way : (x y : List ℕ) → bytes_eq x y ≡ bytes_eq y x
either_way x y =
    one_answer {P = x ≡ y} (bytes_eq x y) (bytes_eq y x) (bytes_decides x y) (
      λ so. sym ((bytes_decides y x).0 so),
      λ e. (bytes_decides y x).1 (sym e),
    )

matches_itself : (pattern subject : List ℕ)
    → subject_fault pattern ≡ None
    → subject_matches pattern subject ≡ bytes_eq subject pattern
matches_itself pattern subject valid =
    tokens_alike (tokens pattern) (tokens subject) (plain_subject pattern valid).1
    ∙ sym (by_tokens pattern subject)
    ∙ either_way pattern subject

-- ---- what is held

same_text : (text : List ℕ) → bytes_eq text text ≡ true
same_text text = (bytes_decides text text).1 refl

no_fault : (fault : Option NameFault) → (is_some fault ≡ true → ⊥) → fault ≡ None
no_fault None none = refl
no_fault (Some fault) none = absurd (none refl)

module _ {V : Type 0} where
  abbrev AreLiteral : List (Held V) → Type 0
  AreLiteral held = (q : List ℕ) → is_some (subject_fault q) ≡ true → values_for q held ≡ []

  first_literal : (h : Held V) (held : List (Held V)) → AreLiteral (h ∷ held) → subject_fault h.0 ≡ None
  first_literal h held literal =
      no_fault (subject_fault h.0)
      (λ faulty.
      let none =
      sym (cond-true (bytes_eq h.0 h.0) (h.1 ∷ values_for h.0 held) (values_for h.0 held) (same_text h.0))
      ∙ literal h.0 faulty in
      cc)

  rest_of : (b : Bool) (v : V) (vs : List V) → cond b (v ∷ vs) vs ≡ [] → vs ≡ []
  rest_of true v vs none = cc
  rest_of false v vs none = none

  others_literal : (h : Held V) (held : List (Held V)) → AreLiteral (h ∷ held) → AreLiteral held
  others_literal h held literal q faulty = rest_of (bytes_eq q h.0) h.1 (values_for q held) (literal q faulty)

  found_there : (subject : List ℕ) (held : List (Held V))
      → AreLiteral held
      → matching_values subject held ≡ values_for subject held
  found_there subject [] literal = refl
  found_there subject (h ∷ held) literal =
      ap (λ b. cond b (h.1 ∷ matching_values subject held) (matching_values subject held))
      (matches_itself h.0 subject (first_literal h held literal))
      ∙ ap (λ vs. cond (bytes_eq subject h.0) (h.1 ∷ vs) vs) (found_there subject held (others_literal h held literal))

  -- what is held under the subject is all that matches it
  pub literally : (subject : List ℕ) (held : List (Held V)) (nodes : Nodes V)
      → Holds held nodes
      → IsLiteral nodes
      → values_at nodes subject ≡ matching_values subject held
  literally subject held nodes is literal =
      is.values subject
      ∙ sym (found_there subject held (λ q faulty. sym (is.values q) ∙ literal q faulty))

  -- ---- what is put under a subject, and what is taken

  pub put_literally : (text q : List ℕ) (values : List V) (old new : Nodes V)
      → subject_fault text ≡ None
      → Values text values old new
      → is_some (subject_fault q) ≡ true
      → values_at old q ≡ []
      → values_at new q ≡ []
  put_literally text q values old new valid put faulty none =
      elim (cases_Bool (bytes_eq text q)) [
        | inl same ↦
            let fault : true ≡ false =
            sym faulty ∙ ap (λ t. is_some (subject_fault t)) (sym ((bytes_decides text q).0 same)) ∙ ap is_some valid in
            absurd (cc)
        | inr other ↦ put.values_are q ∙ cond-false (bytes_eq text q) values (values_at old q) other ∙ none
      ]

  pub taken_literally : (eq : V → V → Bool) (value : V) (text q : List ℕ) (old new : Nodes V)
      → Values text (without_value eq value (values_at old text)) old new
      → values_at old q ≡ []
      → values_at new q ≡ []
  taken_literally eq value text q old new left none =
      elim (cases_Bool (bytes_eq text q)) [
        | inl same ↦
            left.values_are q
            ∙ cond-true (bytes_eq text q) (without_value eq value (values_at old text)) (values_at old q) same
            ∙ ap (λ vs. without_value eq value vs) (ap (values_at old) ((bytes_decides text q).0 same) ∙ none)
        | inr other ↦
            left.values_are q
            ∙ cond-false (bytes_eq text q) (without_value eq value (values_at old text)) (values_at old q) other
            ∙ none
      ]
