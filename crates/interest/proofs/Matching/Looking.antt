-- A pattern is looked at token by token.
use Rattle.std.proofs.Common.{◌≡◌, ℕ, false, List, ◌++◌, Option, Some, None, ◌+◌, ◌-◌, ◌≤◌, take, drop, length, arith, refl, ap, sym, ◌∙◌, subst, inl, inr, ◌⊎◌, ⊎_elim}
use Rattle.std.proofs.lemmas.List.{append_assoc, take-append-drop, length-drop}
use Rattle.std.proofs.Math.Seq.{take-add}
use Rattle.std.proofs.Common.{take_all}
use Rattle.subj.specs.Matching.{subject_matches}
use Rattle.subj.specs.QueueNames.{is_before}
use Rattle.interest.specs.declared.sights.Beginning.{Beginning}
use Rattle.interest.specs.Sights.{IsFrom, Begins, MatchesFrom, IsSightOf, text_if, later, sight_of, next_of}
use Rattle.interest.proofs.Matching.ByBytes.{same_behind, outside}

-- the tokens that were taken so far, so many bytes of the pattern, match; what is left of both decides; and a text that
-- matches and does not stand before the pattern has the same bytes in front, or is not before the beginning that is
-- known
pub record IsSoFar (pattern subject : List ℕ) (done : ℕ) (left : List ℕ) (known : Option (List ℕ)) : Type 0 where
  pub within : done ≤ length pattern
  pub decides : (text : List ℕ) → subject_matches (take done pattern ++ text) subject ≡ subject_matches text left
  pub known_from : (text : List ℕ)
      → MatchesFrom pattern subject text
      → Begins (take done pattern) text ⊎ IsFrom known text

pub at_start : (pattern subject : List ℕ) → IsSoFar pattern subject 0 subject None
at_start pattern subject = record {
  within = omega arith;
  decides = λ text. refl;
  known_from = λ text from. inl (text, refl);
}

module _ (pattern subject left : List ℕ) (done : ℕ) (known : Option (List ℕ))
    (so_far : IsSoFar pattern subject done left known) where
  abbrev front : List ℕ
  front = take done pattern

  whole : front ++ drop done pattern ≡ pattern
  whole = take-append-drop done pattern

  pub whole_matches : subject_matches pattern subject ≡ subject_matches (drop done pattern) left
  whole_matches = ap (λ l. subject_matches l subject) (sym whole) ∙ so_far.decides (drop done pattern)

  -- a text behind the same bytes stands to the rest as it stands to the pattern
  inner : (text behind : List ℕ)
      → MatchesFrom pattern subject text
      → text ≡ front ++ behind
      → MatchesFrom (drop done pattern) left behind
  inner text behind from is = (
    sym (same_behind front behind (drop done pattern)) ∙ (λ i. is_before (sym is i) (whole i)) ∙ from.0,
    sym (so_far.decides behind) ∙ ap (λ l. subject_matches l subject) (sym is) ∙ from.1,
  )

  -- either it has them in front, or it is not before the beginning that is known now
  pub known_now : (next : Option (List ℕ)) (text : List ℕ)
      → MatchesFrom pattern subject text
      → ((behind : List ℕ) × (text ≡ front ++ behind) × MatchesFrom (drop done pattern) left behind)
      ⊎ IsFrom (later front next known) text
  known_now None text from =
      ⊎_elim (λ (so : Begins front text). inl (so.0, so.1, inner text so.0 from so.1))
      (λ (far : IsFrom known text). inr far) (so_far.known_from text from)
  known_now (Some last) text from = ⊎_elim
      (λ (so : Begins front text). inl (so.0, so.1, inner text so.0 from so.1))
      (λ (far : is_before text (front ++ last) ≡ false). inr far)
      (outside front (drop done pattern) last text (ap (is_before text) whole ∙ from.0))

  later_from : (next : Option (List ℕ)) (behind : List ℕ)
      → IsFrom next behind
      → IsFrom (later front next known) (front ++ behind)
  later_from None behind far = absurd far
  later_from (Some last) behind far = same_behind front behind last ∙ far

  -- where the rest does not match, and what matches is from the next beginning on
  pub ends : (next : Option (List ℕ))
      → ((text : List ℕ) → MatchesFrom (drop done pattern) left text → IsFrom next text)
      → (text : List ℕ)
      → MatchesFrom pattern subject text
      → IsFrom (later front next known) text
  ends next far text from =
      ⊎_elim (λ (so : (behind : List ℕ) × (text ≡ front ++ behind) × MatchesFrom (drop done pattern) left behind).
      subst (IsFrom (later front next known)) (sym so.1) (later_from next so.0 (far so.0 so.2)))
      (λ (known_far : IsFrom (later front next known) text). known_far) (known_now next text from)

  -- where it goes on
  pub goes_on : (next : Option (List ℕ)) (width : ℕ) (behind : List ℕ)
      → width ≤ length (drop done pattern)
      → ((text : List ℕ) → subject_matches (take width (drop done pattern) ++ text) left ≡ subject_matches text behind)
      → ((text : List ℕ) → MatchesFrom (drop done pattern) left text
      → Begins (take width (drop done pattern)) text ⊎ IsFrom next text)
      → IsSoFar pattern subject (done + width) behind (later front next known)
  goes_on next width behind fits on far = record {
    within = let len = length-drop done pattern in let before = so_far.within in omega arith;
    decides = λ text.
        ap (λ l. subject_matches (l ++ text) subject) longer
        ∙ ap (λ l. subject_matches l subject) (append_assoc front (take width (drop done pattern)) text)
        ∙ so_far.decides (take width (drop done pattern) ++ text)
        ∙ on text;
    known_from = λ text from.
        ⊎_elim (λ (so : (behind : List ℕ) × (text ≡ front ++ behind) × MatchesFrom (drop done pattern) left behind).
        ⊎_elim (λ (more : Begins (take width (drop done pattern)) so.0).
        inl (
          more.0,
          so.1 ∙ ap (λ l. front ++ l) more.1 ∙ sym (append_assoc front (take width (drop done pattern)) more.0)
              ∙ ap (λ l. l ++ more.0) (sym longer),
        ))
        (λ (is_far : IsFrom next so.0).
        inr (subst (IsFrom (later front next known)) (sym so.1) (later_from next so.0 is_far)))
        (far so.0 so.2))
        (λ (known_far : IsFrom (later front next known) text). inr known_far) (known_now next text from);
  }
    where
      longer : take (done + width) pattern ≡ front ++ take width (drop done pattern)
      longer = take-add done width pattern

  -- the same of the rest as the code has it
  rest_is : take (length pattern - done) (drop done pattern) ≡ drop done pattern
  rest_is = take_all (length pattern - done) (drop done pattern) (let len = length-drop done pattern in omega arith)

  pub further : (next new : Option (List ℕ)) (width : ℕ) (behind rest : List ℕ)
      → rest ≡ take (length pattern - done) (drop done pattern)
      → new ≡ later front next known
      → next ≡ next_of rest left
      → width ≤ length rest
      → ((text : List ℕ) → subject_matches (take width rest ++ text) left ≡ subject_matches text behind)
      → ((text : List ℕ) → MatchesFrom rest left text → Begins (take width rest) text ⊎ IsFrom (next_of rest left) text)
      → IsSoFar pattern subject (done + width) behind new
  further next new width behind rest is new_is next_is fits on far =
      subst (IsSoFar pattern subject (done + width) behind) (sym new_is)
      (goes_on next width behind (subst (λ l. width ≤ length l) (is ∙ rest_is) fits)
      (subst (λ l. (text : List ℕ) → subject_matches (take width l ++ text) left ≡ subject_matches text behind)
      (is ∙ rest_is) on)
      (subst (λ l. (text : List ℕ) → MatchesFrom l left text → Begins (take width l) text ⊎ IsFrom next text)
      (is ∙ rest_is)
      (subst (λ o. (text : List ℕ) → MatchesFrom rest left text → Begins (take width rest) text ⊎ IsFrom o text)
      (sym next_is) far)))

  pub ended : (next new : Option (List ℕ)) (rest : List ℕ)
      → rest ≡ take (length pattern - done) (drop done pattern)
      → new ≡ later front next known
      → next ≡ next_of rest left
      → ((text : List ℕ) → MatchesFrom rest left text → IsFrom (next_of rest left) text)
      → (text : List ℕ)
      → MatchesFrom pattern subject text
      → IsFrom new text
  ended next new rest is new_is next_is far text from =
      subst (λ o. IsFrom o text) (sym new_is)
      (ends next
      (subst (λ l. (text : List ℕ) → MatchesFrom l left text → IsFrom next text) (is ∙ rest_is)
      (subst (λ o. (text : List ℕ) → MatchesFrom rest left text → IsFrom o text) (sym next_is) far))
      text from)

  pub no_match : (rest : List ℕ)
      → rest ≡ take (length pattern - done) (drop done pattern)
      → subject_matches rest left ≡ false
      → subject_matches pattern subject ≡ false
  no_match rest is other = whole_matches ∙ ap (λ l. subject_matches l left) (sym (is ∙ rest_is)) ∙ other

pub sight_is : (pattern subject : List ℕ) (known : Option Beginning)
    → subject_matches pattern subject ≡ false
    → ((text : List ℕ) → MatchesFrom pattern subject text → IsFrom (text_if known) text)
    → IsSightOf pattern subject (sight_of known)
sight_is pattern subject None no_match far = far
sight_is pattern subject (Some beginning) no_match far = (no_match, far)
