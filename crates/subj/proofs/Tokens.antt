-- Cutting the first token off a text.
use Rattle.std.proofs.Common.{◌≡◌, ℕ, ◌+◌, ◌≤◌, Bool, true, false, not, cond, List, [], ◌∷◌, length, take, drop, Some, None, refl, ap, sym, ◌∙◌, ◌-◌, arith, length-drop}
use Rattle.std.specs.Prelude.{position}
use Rattle.std.specs.List.{slice_split, onto_first, position_or_len}
use Rattle.std.proofs.lemmas.List.{take_all}
use Rattle.std.proofs.lemmas.List.Splits.{slice_split_first}
use Rattle.list_laws.proofs.Positions.{not_below, below}
use Rattle.list_laws.specs.Lists.{is_empty}
use Rattle.subj.specs.Names.{tokens, is_dot}

-- a text without an element that passes is one piece
one_piece : {X : Type 0} (p : X → Bool) (xs : List X) → length xs ≤ position_or_len p xs → slice_split p xs ≡ xs ∷ []
one_piece p [] past = refl
one_piece p (x ∷ xs) past =
    elim (p x) as (λ b.
    length (x ∷ xs) ≤ cond (not b) (1 + position_or_len p xs) 0
    → cond b ([] ∷ slice_split p xs) (onto_first x (slice_split p xs)) ≡ (x ∷ xs) ∷ []) [
      | true ↦ λ le. absurd (omega arith)
      | false ↦ λ le. ap (onto_first x) (one_piece p xs (omega arith))
    ] past

pub tokens_without_dot : (text : List ℕ) → position is_dot text ≡ None → tokens text ≡ text ∷ []
tokens_without_dot text none = one_piece is_dot text (not_below (position_or_len is_dot text) (length text) none)

pub tokens_at_dot : (text : List ℕ) (dot : ℕ)
    → position is_dot text ≡ Some dot
    → tokens text ≡ take dot text ∷ tokens (drop (dot + 1) text)
tokens_at_dot text dot found =
    let at = below (position_or_len is_dot text) (length text) dot found in
    slice_split_first is_dot text 0 at.0 ∙ ap (λ n. take n text ∷ tokens (drop (n + 1) text)) at.1

-- the same, as the code reaches the rest
pub tokens_around_dot : (text : List ℕ) (dot : ℕ)
    → position is_dot text ≡ Some dot
    → tokens text ≡ take dot text ∷ tokens (take (length text - (dot + 1)) (drop (dot + 1) text))
tokens_around_dot text dot found =
    tokens_at_dot text dot found
    ∙ ap (λ rest. take dot text ∷ tokens rest)
    (sym (take_all (length text - (dot + 1)) (drop (dot + 1) text) (omega (arith, length-drop (dot + 1) text))))

-- there is always a token
pub tokens_are_some : (text : List ℕ) → is_empty (tokens text) ≡ false
tokens_are_some [] = refl
tokens_are_some (x ∷ xs) =
    elim (is_dot x) as (λ b. is_empty (cond b ([] ∷ tokens xs) (onto_first x (tokens xs))) ≡ false) [
      | true ↦ refl
      | false ↦ onto_first_is_some x (tokens xs)
    ]
  where
    onto_first_is_some : (x : ℕ) (parts : List (List ℕ)) → is_empty (onto_first x parts) ≡ false
    onto_first_is_some x [] = refl
    onto_first_is_some x (part ∷ parts) = refl
