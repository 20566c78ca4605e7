-- The first tokens of texts, and which of them match.
use Rattle.std.proofs.Common.{◌≡◌, ℕ, Bool, true, false, ◌&&◌, ◌||◌, cond, List, [], ◌∷◌, ◌++◌, refl, ap, sym, ◌∙◌, subst, inl, inr, ◌⊎◌, ⊎_elim, codes}
use Rattle.std.specs.Cmp.Lexicographic.{bytes_decides}
use Rattle.std.specs.List.{list_any, onto_first, join_with_byte}
use Rattle.std.specs.Str.{bytes_eq}
use Rattle.std.proofs.lemmas.Bool.{cases_Bool, and_parts}
use Rattle.std.proofs.lemmas.List.Splits.{join_with_byte-slice_split}
use Rattle.list_laws.specs.Lists.{is_empty}
use Rattle.subj.specs.Names.{tokens, is_dot, is_one_wildcard, is_rest_wildcard}
use Rattle.subj.specs.Matching.{tokens_match, takes_token}

-- ---- a text is its tokens with dots between them

some_onto : (x : ℕ) (parts : List (List ℕ)) → is_empty (onto_first x parts) ≡ false
some_onto x [] = refl
some_onto x (part ∷ parts) = refl

pub some_tokens : (text : List ℕ) → is_empty (tokens text) ≡ false
some_tokens [] = refl
some_tokens (x ∷ xs) =
    elim (is_dot x) as (λ b. is_empty (cond b ([] ∷ tokens xs) (onto_first x (tokens xs))) ≡ false) [
      | true ↦ refl
      | false ↦ some_onto x (tokens xs)
    ]

-- the first of some tokens has no dot
abbrev HasPlainFirst : List (List ℕ) → Type 0
HasPlainFirst [] = Unit {0}
HasPlainFirst (token ∷ others) = list_any is_dot token ≡ false

plain_onto : (x : ℕ) (parts : List (List ℕ))
    → is_dot x ≡ false
    → HasPlainFirst parts
    → HasPlainFirst (onto_first x parts)
plain_onto x [] other plain = ap (λ b. b || false) other
plain_onto x (part ∷ parts) other plain = ap (λ b. b || list_any is_dot part) other ∙ plain

plain_tokens : (text : List ℕ) → HasPlainFirst (tokens text)
plain_tokens [] = refl
plain_tokens (x ∷ xs) =
    elim (is_dot x) as (λ b. is_dot x ≡ b → HasPlainFirst (cond b ([] ∷ tokens xs) (onto_first x (tokens xs)))) [
      | true ↦ λ _. refl
      | false ↦ λ other. plain_onto x (tokens xs) other (plain_tokens xs)
    ] refl

pub plain_first : (text token : List ℕ) (others : List (List ℕ))
    → tokens text ≡ token ∷ others
    → list_any is_dot token ≡ false
plain_first text token others is = subst HasPlainFirst is (plain_tokens text)

joined : (text : List ℕ) → join_with_byte 46 (tokens text) ≡ text
joined text = join_with_byte-slice_split 46 text

pub one_token : (text token : List ℕ) → tokens text ≡ token ∷ [] → text ≡ token
one_token text token is = sym (joined text) ∙ ap (join_with_byte 46) is

pub more_tokens : (text token other : List ℕ) (others : List (List ℕ))
    → tokens text ≡ token ∷ other ∷ others
    → text ≡ token ++ 46 ∷ join_with_byte 46 (other ∷ others)
more_tokens text token other others is = sym (joined text) ∙ ap (join_with_byte 46) is

-- a text with a dot: the token before it, and those behind
pub cut : (text token rest : List ℕ) → tokens text ≡ token ∷ tokens rest → text ≡ token ++ 46 ∷ rest
cut text token rest is = by (tokens rest) refl
  where
    by : (ts : List (List ℕ)) → tokens rest ≡ ts → text ≡ token ++ 46 ∷ rest
    by [] none = let clash : true ≡ false = sym (ap is_empty none) ∙ some_tokens rest in cc
    by (other ∷ others) some =
        more_tokens text token other others (is ∙ ap (λ (ts : List (List ℕ)). token ∷ ts) some)
        ∙ ap (λ l. token ++ 46 ∷ l) (sym (ap (join_with_byte 46) some) ∙ joined rest)

pub before_dot : (token rest : List ℕ)
    → list_any is_dot token ≡ false
    → tokens (token ++ 46 ∷ rest) ≡ token ∷ tokens rest
before_dot [] rest plain = refl
before_dot (x ∷ token) rest plain =
    elim (is_dot x) as (λ b.
    (b || list_any is_dot token) ≡ false
    → cond b ([] ∷ tokens (token ++ 46 ∷ rest)) (onto_first x (tokens (token ++ 46 ∷ rest)))
    ≡ (x ∷ token) ∷ tokens rest) [
      | true ↦ λ clash. cc
      | false ↦ λ plain. ap (onto_first x) (before_dot token rest plain)
    ] plain

-- ---- what matches, by the first tokens

pub pattern_left : (pattern : List (List ℕ)) → is_empty pattern ≡ false → tokens_match pattern [] ≡ false
pattern_left [] some = cc
pattern_left (wanted ∷ pattern) some = refl

pub subject_left : (subject : List (List ℕ)) → is_empty subject ≡ false → tokens_match [] subject ≡ false
subject_left [] some = cc
subject_left (token ∷ subject) some = refl

rest_text : (w : List ℕ) → is_rest_wildcard w ≡ true → w ≡ codes ">"
rest_text w is = (bytes_decides w (codes ">")).0 is

-- a token that takes another is `*` or the same
pub taken : (w t : List ℕ) → takes_token w t ≡ true → (w ≡ codes "*") ⊎ (w ≡ t)
taken w t is = elim (cases_Bool (is_one_wildcard w)) [
  | inl star ↦ inl ((bytes_decides w (codes "*")).0 star)
  | inr other ↦ inr ((bytes_decides w t).0 (sym (ap (λ b. b || bytes_eq w t) other) ∙ is))
]

-- the text goes on behind a first token that takes this one
pub record GoesOn (text token : List ℕ) (w rest : List ℕ) : Type 0 where
  pub text_is : text ≡ w ++ 46 ∷ rest
  pub plain : list_any is_dot w ≡ false
  pub takes : takes_token w token ≡ true

none_left : (others : List (List ℕ)) → tokens_match [] others ≡ true → is_empty others ≡ true
none_left [] matches = refl
none_left (o ∷ os) clash = cc

first_none : (a b : Bool) → ((a && false) || b) ≡ b
first_none true b = refl
first_none false b = refl

some_left : (u : List ℕ) (us others : List (List ℕ)) → tokens_match (u ∷ us) others ≡ true → is_empty others ≡ false
some_left u us [] clash = cc
some_left u us (o ∷ os) matches = refl

-- what a text is that matches: `>`; a last token; or more of them, as the subject has
pub forms : (text token : List ℕ) (others : List (List ℕ))
    → tokens_match (tokens text) (token ∷ others) ≡ true
    → (text ≡ codes ">")
    ⊎ (((is_empty others ≡ true) × ((text ≡ codes "*") ⊎ (text ≡ token)))
    ⊎ ((is_empty others ≡ false) × ((w : List ℕ) × (rest : List ℕ) × GoesOn text token w rest)))
forms text token others matches = by (tokens text) refl
  where
    by : (ts : List (List ℕ))
        → tokens text ≡ ts
        → (text ≡ codes ">")
        ⊎ (((is_empty others ≡ true) × ((text ≡ codes "*") ⊎ (text ≡ token)))
        ⊎ ((is_empty others ≡ false) × ((w : List ℕ) × (rest : List ℕ) × GoesOn text token w rest)))
    by [] is = let clash : false ≡ true = sym (ap (λ ts. tokens_match ts (token ∷ others)) is) ∙ matches in cc
    by (w ∷ []) is = elim (cases_Bool (is_rest_wildcard w)) [
      | inl rest ↦ inl (one_token text w is ∙ rest_text w rest)
      | inr other ↦
          let so : (takes_token w token && tokens_match [] others) ≡ true =
          sym (ap (λ b. (b && true) || (takes_token w token && tokens_match [] others)) other)
          ∙ sym (ap (λ ts. tokens_match ts (token ∷ others)) is)
          ∙ matches in
          let parts = and_parts (takes_token w token) (tokens_match [] others) so in
          inr (inl (
            none_left others parts.1,
            ⊎_elim (λ (star : w ≡ codes "*"). inl (one_token text w is ∙ star))
                (λ (same : w ≡ token). inr (one_token text w is ∙ same)) (taken w token parts.0),
          ))
    ]
    by (w ∷ u ∷ us) is =
        let so : (takes_token w token && tokens_match (u ∷ us) others) ≡ true =
        sym (first_none (is_rest_wildcard w) (takes_token w token && tokens_match (u ∷ us) others))
        ∙ sym (ap (λ ts. tokens_match ts (token ∷ others)) is)
        ∙ matches in
        let parts = and_parts (takes_token w token) (tokens_match (u ∷ us) others) so in
        inr (inr (
          some_left u us others parts.1,
          (
            w,
            join_with_byte 46 (u ∷ us),
            record { text_is = more_tokens text w u us is; plain = plain_first text w (u ∷ us) is; takes = parts.0 },
          ),
        ))
