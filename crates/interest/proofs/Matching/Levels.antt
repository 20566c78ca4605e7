-- What the first tokens tell of a pattern that matches or stands before one that does.
use Rattle.std.proofs.Common.{◌≡◌, ℕ, Bool, true, false, ◌&&◌, ◌||◌, cond, List, [], ◌∷◌, ◌++◌, Option, Some, None, is_none, Bor, ◌+◌, ◌<◌, ◌≤◌, get_or, take, drop, arith, length-append, refl, ap, sym, ◌∙◌, subst, inl, inr, ◌⊎◌, ⊎_elim, length, codes}
use Rattle.std.proofs.lemmas.Bool.{cases_Bool}
use Rattle.std.proofs.lemmas.List.{append_assoc, append-nil}
use Rattle.std.proofs.Math.Seq.{take-append_seam}
use Rattle.std.specs.List.{list_any}
use Rattle.list_laws.specs.Lists.{is_empty}
use Rattle.subj.specs.Names.{tokens, is_dot, is_rest_wildcard, tokens_behind}
use Rattle.subj.specs.Matching.{tokens_match, takes_token, subject_matches}
use Rattle.subj.specs.QueueNames.{is_before}
use Rattle.interest.specs.Sights.{is_nearer, nearer, nearest, next_token, next_of, IsFrom, Begins, MatchesFrom, IsLevelOf}
use Rattle.interest.specs.declared.sights.Level.TheVariants.{Match as Ends, Further, Apart}
use Rattle.interest.proofs.Matching.ByBytes.{not_before_beginning, in_turn, not_back, neither, between}
use Rattle.interest.proofs.Matching.FirstTokens.{forms, taken, GoesOn, before_dot, cut, plain_first, some_tokens, pattern_left, subject_left}

-- ---- the nearer of two

module _ (rest text candidate : List ℕ) where
  -- a candidate behind the rest, before which the text does not stand
  takes_it : (other : Option (List ℕ))
      → is_before rest candidate ≡ true
      → is_before text candidate ≡ false
      → IsFrom (nearer rest candidate other) text
  takes_it other behind high =
      subst (λ b. IsFrom (cond (b && is_nearer candidate other) (Some candidate) other) text) (sym behind) (by other)
    where
      by : (other : Option (List ℕ)) → IsFrom (cond (is_nearer candidate other) (Some candidate) other) text
      by None = high
      by (Some near) =
          elim (is_before candidate near) as
          (λ b. is_before candidate near ≡ b → IsFrom (cond b (Some candidate) (Some near)) text) [
            | true ↦ λ _. high
            | false ↦ λ other. in_turn near candidate text other high
          ] refl

  keeps_it : (other : Option (List ℕ)) → IsFrom other text → IsFrom (nearer rest candidate other) text
  keeps_it None high = absurd high
  keeps_it (Some near) high =
      elim (is_before rest candidate) as
      (λ b. IsFrom (cond (b && is_before candidate near) (Some candidate) (Some near)) text) [
        | false ↦ high
        | true ↦
            elim (is_before candidate near) as
            (λ b. is_before candidate near ≡ b → IsFrom (cond b (Some candidate) (Some near)) text) [
              | true ↦ λ before. in_turn candidate near text (not_back candidate near before) high
              | false ↦ λ _. high
            ] refl
      ]

module _ (rest star token text : List ℕ) where
  from_token : is_before rest token ≡ true → is_before text token ≡ false → IsFrom (nearest rest star token) text
  from_token behind high = takes_it rest text token (nearer rest star (nearer rest (codes ">") None)) behind high

  from_star : is_before rest star ≡ true → is_before text star ≡ false → IsFrom (nearest rest star token) text
  from_star behind high =
      keeps_it rest text token (nearer rest star (nearer rest (codes ">") None))
      (takes_it rest text star (nearer rest (codes ">") None) behind high)

  from_rest : is_before rest (codes ">") ≡ true
      → is_before text (codes ">") ≡ false
      → IsFrom (nearest rest star token) text
  from_rest behind high =
      keeps_it rest text token (nearer rest star (nearer rest (codes ">") None))
      (keeps_it rest text star (nearer rest (codes ">") None) (takes_it rest text (codes ">") None behind high))

  -- where the text is one of the three, the rest is the same text or the nearest is not behind it
  exactly : is_before text rest ≡ false
      → (text ≡ codes ">") ⊎ ((text ≡ star) ⊎ (text ≡ token))
      → (text ≡ rest) ⊎ IsFrom (nearest rest star token) text
  exactly high is = elim (cases_Bool (is_before rest text)) [
    | inl behind ↦
        inr (⊎_elim (λ (a : text ≡ codes ">").
        from_rest (subst (λ l. is_before rest l ≡ true) a behind) (subst (λ l. is_before text l ≡ false) a self))
        (⊎_elim (λ (a : text ≡ star).
        from_star (subst (λ l. is_before rest l ≡ true) a behind) (subst (λ l. is_before text l ≡ false) a self))
        (λ (a : text ≡ token).
        from_token (subst (λ l. is_before rest l ≡ true) a behind) (subst (λ l. is_before text l ≡ false) a self)))
        is)
    | inr same ↦ inl (neither text rest high same)
  ]
    where
      self : is_before text text ≡ false
      self = subst (λ l. is_before l text ≡ false) (append-nil text) (not_before_beginning text [])

-- ---- the rest of a pattern and a text that matches and does not stand before it

-- both go on behind the same first token, which takes that of the subject
pub record Together (rest text token : List ℕ) : Type 0 where
  pub front : List ℕ
  pub rest_behind : List ℕ
  pub text_behind : List ℕ
  pub rest_goes : GoesOn rest token front rest_behind
  pub text_goes : GoesOn text token front text_behind

pub at_level : (rest text token : List ℕ) (others : List (List ℕ))
    → is_before text rest ≡ false
    → tokens_match (tokens text) (token ∷ others) ≡ true
    → ((text ≡ rest) ⊎ ((is_empty others ≡ false) × Together rest text token))
    ⊎ IsFrom (next_token rest (token ∷ others)) text
at_level rest text token [] high matches =
    same (⊎_elim (λ (a : text ≡ codes ">"). exactly rest (codes "*") token text high (inl a))
    (⊎_elim
    (λ (h : (true ≡ true) × ((text ≡ codes "*") ⊎ (text ≡ token))). exactly rest (codes "*") token text high (inr h.1))
    (λ (h : (true ≡ false) × ((w : List ℕ) × (behind : List ℕ) × GoesOn text token w behind)). absurd (clash h.0)))
    (forms text token [] matches))
  where
    clash : true ≡ false → ⊥
    clash e = cc

    same : (text ≡ rest) ⊎ IsFrom (next_token rest (token ∷ [])) text
        → ((text ≡ rest) ⊎ ((true ≡ false) × Together rest text token)) ⊎ IsFrom (next_token rest (token ∷ [])) text
    same (inl a) = inl (inl a)
    same (inr b) = inr b
at_level rest text token (other ∷ others) high matches =
    ⊎_elim (λ (a : text ≡ codes ">"). same (exactly rest (codes "*.") (token ++ 46 ∷ []) text high (inl a)))
    (⊎_elim (λ (h : (false ≡ true) × ((text ≡ codes "*") ⊎ (text ≡ token))). absurd (clash h.0))
    (λ (h : (false ≡ false) × ((w : List ℕ) × (behind : List ℕ) × GoesOn text token w behind)).
    further h.1.0 h.1.1 h.1.2))
    (forms text token (other ∷ others) matches)
  where
    clash : false ≡ true → ⊥
    clash e = cc

    same : (text ≡ rest) ⊎ IsFrom (next_token rest (token ∷ other ∷ others)) text
        → ((text ≡ rest) ⊎ ((false ≡ false) × Together rest text token))
        ⊎ IsFrom (next_token rest (token ∷ other ∷ others)) text
    same (inl a) = inl (inl a)
    same (inr b) = inr b

    dotted : (w behind : List ℕ) → w ++ 46 ∷ behind ≡ (w ++ 46 ∷ []) ++ behind
    dotted w behind = sym (append_assoc w (46 ∷ []) behind)

    further : (w behind : List ℕ)
        → GoesOn text token w behind
        → ((text ≡ rest) ⊎ ((false ≡ false) × Together rest text token))
        ⊎ IsFrom (next_token rest (token ∷ other ∷ others)) text
    further w behind goes = elim (cases_Bool (is_before rest (w ++ 46 ∷ []))) [
      | inl before ↦
          let high_enough : is_before text (w ++ 46 ∷ []) ≡ false = subst (λ l. is_before l (w ++ 46 ∷ []) ≡ false)
          (sym (goes.text_is ∙ dotted w behind)) (not_before_beginning (w ++ 46 ∷ []) behind) in
          inr (⊎_elim (λ (star : w ≡ codes "*").
          from_star rest (codes "*.") (token ++ 46 ∷ []) text
          (subst (λ l. is_before rest (l ++ 46 ∷ []) ≡ true) star before)
          (subst (λ l. is_before text (l ++ 46 ∷ []) ≡ false) star high_enough))
          (λ (is : w ≡ token).
          from_token rest (codes "*.") (token ++ 46 ∷ []) text
          (subst (λ l. is_before rest (l ++ 46 ∷ []) ≡ true) is before)
          (subst (λ l. is_before text (l ++ 46 ∷ []) ≡ false) is high_enough))
          (taken w token goes.takes))
      | inr not_before ↦
          let found = between (w ++ 46 ∷ []) rest behind not_before
          (subst (λ l. is_before l rest ≡ false) (goes.text_is ∙ dotted w behind) high) in
          inl (inr (
            refl,
            record {
              front = w;
              rest_behind = found.0;
              text_behind = behind;
              rest_goes = record { text_is = found.1 ∙ sym (dotted w found.0); plain = goes.plain; takes = goes.takes };
              text_goes = goes;
            },
          ))
    ]

-- ---- where the pattern does not go on with the subject

module _ (rest subject token : List ℕ) (others : List (List ℕ)) (subject_is : tokens subject ≡ token ∷ others) where
  by_level : (text : List ℕ)
      → MatchesFrom rest subject text
      → ((text ≡ rest) ⊎ ((is_empty others ≡ false) × Together rest text token)) ⊎ IsFrom (next_of rest subject) text
  by_level text from =
      subst (λ (ts : List (List ℕ)).
      ((text ≡ rest) ⊎ ((is_empty others ≡ false) × Together rest text token)) ⊎ IsFrom (next_token rest ts) text)
      (sym subject_is)
      (at_level rest text token others from.0 (ap (tokens_match (tokens text)) (sym subject_is) ∙ from.1))

  pub apart : subject_matches rest subject ≡ false
      → ((front behind : List ℕ) → is_empty others ≡ false → GoesOn rest token front behind → ⊥)
      → IsLevelOf rest subject Apart
  apart no_match ends = (
    no_match,
    λ text from.
        ⊎_elim
        (⊎_elim
        (λ (same : text ≡ rest). absurd (clash (sym from.1 ∙ ap (λ l. subject_matches l subject) same ∙ no_match)))
        (λ (on : (is_empty others ≡ false) × Together rest text token).
        absurd (ends on.1.front on.1.rest_behind on.0 on.1.rest_goes)))
        (λ (far : IsFrom (next_of rest subject) text). far) (by_level text from),
  )
    where
      clash : true ≡ false → ⊥
      clash e = cc

first_is : (a b : List ℕ) (xs ys : List (List ℕ)) → a ∷ xs ≡ b ∷ ys → a ≡ b
first_is a b xs ys same = ap (λ l. get_or l 0 a) same

rest_is : (a b : List ℕ) (xs ys : List (List ℕ)) → a ∷ xs ≡ b ∷ ys → xs ≡ ys
rest_is a b xs ys same = ap (drop 1) same

module _ (rest subject wanted token : List ℕ) (behind others : List (List ℕ))
    (rest_toks : tokens rest ≡ wanted ∷ behind) (subject_is : tokens subject ≡ token ∷ others) where
  matches_is : subject_matches rest subject ≡ tokens_match (wanted ∷ behind) (token ∷ others)
  matches_is i = tokens_match (rest_toks i) (subject_is i)

  same_first : (front text : List ℕ) → GoesOn rest token front text → wanted ∷ behind ≡ front ∷ tokens text
  same_first front text goes = sym rest_toks ∙ ap tokens goes.text_is ∙ before_dot front text goes.plain

  -- another first token
  pub apart_by_token : (is_rest_wildcard wanted && is_empty behind) ≡ false
      → takes_token wanted token ≡ false
      → IsLevelOf rest subject Apart
  apart_by_token not_rest other =
      apart rest subject token others subject_is
      (matches_is ∙ (λ i. not_rest i || (other i && tokens_match behind others))) (λ front text some goes.
      clash (sym goes.takes
      ∙ ap (λ w. takes_token w token) (sym (first_is wanted front behind (tokens text) (same_first front text goes)))
      ∙ other))
    where
      clash : true ≡ false → ⊥
      clash e = cc

  -- the pattern is at its end, and the subject is not
  pub apart_by_pattern : (is_rest_wildcard wanted && is_empty behind) ≡ false
      → behind ≡ []
      → is_empty others ≡ false
      → IsLevelOf rest subject Apart
  apart_by_pattern not_rest none some =
      apart rest subject token others subject_is
      (matches_is ∙ (λ i.
      not_rest i
      || (takes_token wanted token
      && (ap (λ (l : List (List ℕ)). tokens_match l others) none ∙ subject_left others some) i))
      ∙ both_false (takes_token wanted token))
      (λ front text _ goes.
      clash (ap is_empty (sym none ∙ rest_is wanted front behind (tokens text) (same_first front text goes))
      ∙ some_tokens text))
    where
      clash : true ≡ false → ⊥
      clash e = cc

      both_false : (b : Bool) → (b && false) ≡ false
      both_false true = refl
      both_false false = refl

  -- the subject is at its end, and the pattern is not
  pub apart_by_subject : is_empty behind ≡ false → others ≡ [] → IsLevelOf rest subject Apart
  apart_by_subject some none =
      apart rest subject token others subject_is
      (matches_is ∙ (λ i.
      (is_rest_wildcard wanted && some i)
      || (takes_token wanted token && (ap (tokens_match behind) none ∙ pattern_left behind some) i))
      ∙ both_false (is_rest_wildcard wanted) (takes_token wanted token))
      (λ front text more goes. clash (ap is_empty (sym none) ∙ more))
    where
      clash : true ≡ false → ⊥
      clash e = cc

      both_false : (a b : Bool) → ((a && false) || (b && false)) ≡ false
      both_false true true = refl
      both_false true false = refl
      both_false false true = refl
      both_false false false = refl

  -- the last token of both
  pub ends_by_token : takes_token wanted token ≡ true → behind ≡ [] → others ≡ [] → IsLevelOf rest subject Ends
  ends_by_token takes none no_others =
      matches_is
      ∙ (λ i. tokens_match (wanted ∷ none i) (token ∷ no_others i))
      ∙ (λ i. (is_rest_wildcard wanted && true) || (takes i && true))
      ∙ or_true (is_rest_wildcard wanted && true)
    where
      or_true : (b : Bool) → (b || true) ≡ true
      or_true true = refl
      or_true false = refl

  -- `>` at the end
  pub ends_by_rest : is_rest_wildcard wanted ≡ true → behind ≡ [] → IsLevelOf rest subject Ends
  ends_by_rest is_rest none =
      matches_is ∙ (λ i. (is_rest i && is_empty (none i)) || (takes_token wanted token && tokens_match behind others))

-- ---- where it goes on

module _ (rest subject wanted token rest_behind : List ℕ) (left : Bor (List ℕ))
    (rest_toks : tokens rest ≡ wanted ∷ tokens rest_behind) (subject_is : tokens subject ≡ token ∷ tokens left.now)
    (takes : takes_token wanted token ≡ true) where
  rest_text : rest ≡ (wanted ++ 46 ∷ []) ++ rest_behind
  rest_text = cut rest wanted rest_behind rest_toks ∙ sym (append_assoc wanted (46 ∷ []) rest_behind)

  front_length : length (wanted ++ 46 ∷ []) ≡ length wanted + 1
  front_length = length-append wanted (46 ∷ [])

  front_is : take (length wanted + 1) rest ≡ wanted ++ 46 ∷ []
  front_is = (λ i. take (sym front_length i) (rest_text i)) ∙ take-append_seam (wanted ++ 46 ∷ []) rest_behind

  width_fits : length wanted + 1 ≤ length rest
  width_fits =
      let whole = ap length rest_text in
      let parts = length-append (wanted ++ 46 ∷ []) rest_behind in
      let front = front_length in
      omega arith

  plain : list_any is_dot wanted ≡ false
  plain = plain_first rest wanted (tokens rest_behind) rest_toks

  goes_on : (text : List ℕ)
      → subject_matches (take (length wanted + 1) rest ++ text) subject ≡ subject_matches text left.now
  goes_on text =
      ap (λ l. subject_matches (l ++ text) subject) front_is
      ∙ ap (λ l. subject_matches l subject) (append_assoc wanted (46 ∷ []) text)
      ∙ (λ i. tokens_match (before_dot wanted text plain i) (subject_is i))
      ∙ (λ i.
      (is_rest_wildcard wanted && some_tokens text i) || (takes i && tokens_match (tokens text) (tokens left.now)))
      ∙ and_false (is_rest_wildcard wanted) (tokens_match (tokens text) (tokens left.now))
    where
      and_false : (a b : Bool) → ((a && false) || b) ≡ b
      and_false true b = refl
      and_false false b = refl

  shown : (text : List ℕ)
      → MatchesFrom rest subject text
      → Begins (take (length wanted + 1) rest) text ⊎ IsFrom (next_of rest subject) text
  shown text from =
      ⊎_elim
      (⊎_elim (λ (same : text ≡ rest). inl (rest_behind, same ∙ rest_text ∙ ap (λ l. l ++ rest_behind) (sym front_is)))
      (λ (on : (is_empty (tokens left.now) ≡ false) × Together rest text token).
      let first : front_of on.1 ≡ wanted = first_is (front_of on.1) wanted (tokens on.1.rest_behind)
      (tokens rest_behind)
      (sym (ap tokens on.1.rest_goes.text_is ∙ before_dot on.1.front on.1.rest_behind on.1.rest_goes.plain)
      ∙ rest_toks) in
      inl (
        on.1.text_behind,
        on.1.text_goes.text_is ∙ ap (λ l. l ++ 46 ∷ on.1.text_behind) first
            ∙ sym (append_assoc wanted (46 ∷ []) on.1.text_behind) ∙ ap (λ l. l ++ on.1.text_behind) (sym front_is),
      )))
      (λ (far : IsFrom (next_of rest subject) text). inr far)
      (by_level rest subject token (tokens left.now) subject_is text from)
    where
      front_of : {text : List ℕ} → Together rest text token → List ℕ
      front_of together = together.front

  pub further_level : length left.now < length subject → IsLevelOf rest subject (Further (length wanted + 1) left)
  further_level shorter = (width_fits, shorter, goes_on, shown)

-- ---- the same of what the code has behind the first tokens

rest_or : (r : Bool) (behind : Option (List ℕ))
    → (r && is_none behind) ≡ false
    → (r && is_empty (tokens_behind behind)) ≡ false
rest_or r None other = other
rest_or true (Some text) other = some_tokens text
rest_or false (Some text) other = refl

module _ (rest subject wanted token : List ℕ) (behind others : Option (List ℕ))
    (rest_toks : tokens rest ≡ wanted ∷ tokens_behind behind)
    (subject_is : tokens subject ≡ token ∷ tokens_behind others) where
  pub is_ended : is_rest_wildcard wanted ≡ true → behind ≡ None → IsLevelOf rest subject Ends
  is_ended is_rest none =
      ends_by_rest rest subject wanted token (tokens_behind behind) (tokens_behind others) rest_toks subject_is is_rest
      (ap tokens_behind none)

  pub is_other : (is_rest_wildcard wanted && is_none behind) ≡ false
      → takes_token wanted token ≡ false
      → IsLevelOf rest subject Apart
  is_other not_rest other =
      apart_by_token rest subject wanted token (tokens_behind behind) (tokens_behind others) rest_toks subject_is
      (rest_or (is_rest_wildcard wanted) behind not_rest) other

  pub is_shorter : (text : List ℕ)
      → (is_rest_wildcard wanted && is_none behind) ≡ false
      → behind ≡ None
      → others ≡ Some text
      → IsLevelOf rest subject Apart
  is_shorter text not_rest none some =
      apart_by_pattern rest subject wanted token (tokens_behind behind) (tokens_behind others) rest_toks subject_is
      (rest_or (is_rest_wildcard wanted) behind not_rest) (ap tokens_behind none)
      (ap (λ o. is_empty (tokens_behind o)) some ∙ some_tokens text)

  pub is_longer : (text : List ℕ) → behind ≡ Some text → others ≡ None → IsLevelOf rest subject Apart
  is_longer text some none =
      apart_by_subject rest subject wanted token (tokens_behind behind) (tokens_behind others) rest_toks subject_is
      (ap (λ o. is_empty (tokens_behind o)) some ∙ some_tokens text) (ap tokens_behind none)

  pub is_last : takes_token wanted token ≡ true → behind ≡ None → others ≡ None → IsLevelOf rest subject Ends
  is_last takes none no_others =
      ends_by_token rest subject wanted token (tokens_behind behind) (tokens_behind others) rest_toks subject_is takes
      (ap tokens_behind none) (ap tokens_behind no_others)

  pub is_further : (text : List ℕ) (left : Bor (List ℕ))
      → takes_token wanted token ≡ true
      → behind ≡ Some text
      → others ≡ Some left.now
      → length left.now < length subject
      → IsLevelOf rest subject (Further (length wanted + 1) left)
  is_further text left takes some some_left shorter =
      further_level rest subject wanted token text left (rest_toks ∙ ap (λ o. wanted ∷ tokens_behind o) some)
      (subject_is ∙ ap (λ o. token ∷ tokens_behind o) some_left) takes shorter

-- the token with its dot is in front of the subject
pub dotted : (subject token behind : List ℕ)
    → tokens subject ≡ token ∷ tokens behind
    → (length token + 1 ≤ length subject) × (take (length token + 1) subject ≡ token ++ 46 ∷ [])
dotted subject token behind is =
    let text : subject ≡ (token ++ 46 ∷ []) ++ behind =
    cut subject token behind is ∙ sym (append_assoc token (46 ∷ []) behind) in
    let len = length-append token (46 ∷ []) in
    let whole = ap length text in
    let parts = length-append (token ++ 46 ∷ []) behind in
    (omega arith, (λ i. take (sym len i) (text i)) ∙ take-append_seam (token ++ 46 ∷ []) behind)

pub next_is : (rest subject token behind : List ℕ)
    → tokens subject ≡ token ∷ tokens behind
    → nearest rest (codes "*.") (token ++ 46 ∷ []) ≡ next_of rest subject
next_is rest subject token behind is = by (tokens behind) refl
  where
    by : (ts : List (List ℕ)) → tokens behind ≡ ts → nearest rest (codes "*.") (token ++ 46 ∷ []) ≡ next_of rest subject
    by [] none = let clash : true ≡ false = sym (ap is_empty none) ∙ some_tokens behind in cc
    by (other ∷ others) some = sym (ap (next_token rest) (is ∙ ap (λ (ts : List (List ℕ)). token ∷ ts) some))
