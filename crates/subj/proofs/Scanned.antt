-- One pass from a text's end sees what its tokens are.
use Rattle.std.proofs.Common.{◌≡◌, ℕ, Bool, true, false, not, cond, List, [], ◌∷◌, ◌++◌, length, refl, ap, sym, ◌∙◌}
use Rattle.std.specs.Prelude.{◌&&◌, ◌||◌, nat_eq}
use Rattle.std.specs.List.{onto_first}
use Rattle.subj.specs.declared.scans.Scan.{Scan}
use Rattle.subj.specs.declared.scans.TokenKind.TheVariants.{One, Rest, Literal}
use Rattle.list_laws.specs.Lists.{is_empty}
use Rattle.subj.specs.Names.{tokens, is_dot, is_wild, is_one_wildcard, is_rest_wildcard, is_forbidden, has_forbidden, has_empty_token, has_wild_token, has_wild_before_last}
use Rattle.subj.specs.Scans.{kind_of, scan_tokens, scan_of, kind_before, kind_is_empty, kind_is_rest, kind_is_wild, some_empty, some_wild, some_early, scan_before, scan_onto}
use Rattle.std.proofs.Common.{arith}
use Rattle.std.proofs.lemmas.Bool.Decides.{nat_tests}
use Rattle.subj.proofs.Tokens.{tokens_are_some}

-- ---- what the kind of a token tells

picked_empty : (one rest : Bool) → kind_is_empty (cond one One (cond rest Rest Literal)) ≡ false
picked_empty true rest = refl
picked_empty false true = refl
picked_empty false false = refl

picked_wild : (one rest : Bool) → kind_is_wild (cond one One (cond rest Rest Literal)) ≡ one || rest
picked_wild true rest = refl
picked_wild false true = refl
picked_wild false false = refl

-- no token is both
picked_rest : (one rest : Bool) → one && rest ≡ false → kind_is_rest (cond one One (cond rest Rest Literal)) ≡ rest
picked_rest true true both = sym both
picked_rest true false both = refl
picked_rest false true both = refl
picked_rest false false both = refl

not_both : (x : ℕ) (rest : List ℕ) → is_one_wildcard (x ∷ rest) && is_rest_wildcard (x ∷ rest) ≡ false
not_both x rest = grind (arith, nat_tests)

kind_empty : (token : List ℕ) → kind_is_empty (kind_of token) ≡ is_empty token
kind_empty [] = refl
kind_empty (x ∷ xs) = picked_empty (is_one_wildcard (x ∷ xs)) (is_rest_wildcard (x ∷ xs))

kind_wild : (token : List ℕ) → kind_is_wild (kind_of token) ≡ is_wild token
kind_wild [] = refl
kind_wild (x ∷ xs) = picked_wild (is_one_wildcard (x ∷ xs)) (is_rest_wildcard (x ∷ xs))

kind_rest : (token : List ℕ) → kind_is_rest (kind_of token) ≡ is_rest_wildcard token
kind_rest [] = refl
kind_rest (x ∷ xs) = picked_rest (is_one_wildcard (x ∷ xs)) (is_rest_wildcard (x ∷ xs)) (not_both x xs)

-- ---- a byte in front of a token

one_byte : (one rest : Bool)
    → cond one One (cond rest Rest Literal) ≡ cond (one && true) One (cond (rest && true) Rest Literal)
one_byte true rest = refl
one_byte false true = refl
one_byte false false = refl

never : (b : Bool) → b && false ≡ false
never true = refl
never false = refl

no_kind : (one rest : Bool) → one ≡ false → rest ≡ false → Literal ≡ cond one One (cond rest Rest Literal)
no_kind one rest a b = rw (a, b) refl

kind_grows : (x : ℕ) (token : List ℕ) → kind_before x (kind_of token) ≡ kind_of (x ∷ token)
kind_grows x [] = one_byte (nat_eq x 42) (nat_eq x 62)
kind_grows x (y ∷ token) =
    grown x (is_one_wildcard (y ∷ token)) (is_rest_wildcard (y ∷ token))
    ∙ no_kind (is_one_wildcard (x ∷ y ∷ token)) (is_rest_wildcard (x ∷ y ∷ token)) (never (nat_eq x 42))
    (never (nat_eq x 62))
  where
    grown : (x : ℕ) (one rest : Bool) → kind_before x (cond one One (cond rest Rest Literal)) ≡ Literal
    grown x true rest = refl
    grown x false true = refl
    grown x false false = refl

-- ---- a byte in front of a text

pub empty_seen : (forbidden : Bool) (ts : List (List ℕ))
    → is_empty ts ≡ false
    → some_empty (scan_tokens forbidden ts) ≡ has_empty_token ts
empty_seen forbidden [] some = cc
empty_seen forbidden (t ∷ ts) some = ap (λ b. b || has_empty_token ts) (kind_empty t)

pub wild_seen : (forbidden : Bool) (ts : List (List ℕ))
    → is_empty ts ≡ false
    → some_wild (scan_tokens forbidden ts) ≡ has_wild_token ts
wild_seen forbidden [] some = cc
wild_seen forbidden (t ∷ ts) some = ap (λ b. b || has_wild_token ts) (kind_wild t)

pub early_seen : (forbidden : Bool) (ts : List (List ℕ))
    → is_empty ts ≡ false
    → some_early (scan_tokens forbidden ts) ≡ has_wild_before_last ts
early_seen forbidden [] some = cc
early_seen forbidden (t ∷ ts) some = ap (λ b. (b && not (is_empty ts)) || has_wild_before_last ts) (kind_rest t)

dot_seen : (forbidden : Bool) (ts : List (List ℕ))
    → is_empty ts ≡ false
    → (a b c : Bool)
    → a ≡ has_empty_token ts
    → b ≡ has_wild_token ts
    → c ≡ has_wild_before_last ts
    → record { forbidden = forbidden; first = kind_of []; more = true; empty = a; wild = b; early = c }
    ≡ scan_tokens forbidden ([] ∷ ts)
dot_seen forbidden [] some a b c p q r = cc
dot_seen forbidden (t ∷ ts) some a b c p q r = rw (p, q, r) refl

byte_seen : (x : ℕ) (forbidden : Bool) (ts : List (List ℕ))
    → is_empty ts ≡ false
    → record (scan_tokens forbidden ts) {
      forbidden = is_forbidden x || forbidden;
      first = kind_before x (scan_tokens forbidden ts).first;
    } ≡ scan_tokens (is_forbidden x || forbidden) (onto_first x ts)
byte_seen x forbidden [] some = cc
byte_seen x forbidden (t ∷ ts) some =
    ap (λ kind. record {
      forbidden = is_forbidden x || forbidden;
      first = kind;
      more = not (is_empty ts);
      empty = has_empty_token ts;
      wild = has_wild_token ts;
      early = has_wild_before_last ts;
    })
    (kind_grows x t)

step : (x : ℕ) (forbidden : Bool) (ts : List (List ℕ))
    → is_empty ts ≡ false
    → scan_before x (scan_tokens forbidden ts)
    ≡ scan_tokens (is_forbidden x || forbidden) (cond (is_dot x) ([] ∷ ts) (onto_first x ts))
step x forbidden ts some =
    elim (is_dot x) as (λ b.
    cond b (record {
      forbidden = is_forbidden x || (scan_tokens forbidden ts).forbidden;
      first = kind_of [];
      more = true;
      empty = some_empty (scan_tokens forbidden ts);
      wild = some_wild (scan_tokens forbidden ts);
      early = some_early (scan_tokens forbidden ts);
    })
    (record (scan_tokens forbidden ts) {
      forbidden = is_forbidden x || (scan_tokens forbidden ts).forbidden;
      first = kind_before x (scan_tokens forbidden ts).first;
    })
    ≡ scan_tokens (is_forbidden x || forbidden) (cond b ([] ∷ ts) (onto_first x ts))) [
      | true ↦
          ap (λ f. record {
            forbidden = is_forbidden x || f;
            first = kind_of [];
            more = true;
            empty = some_empty (scan_tokens forbidden ts);
            wild = some_wild (scan_tokens forbidden ts);
            early = some_early (scan_tokens forbidden ts);
          })
          (same forbidden ts)
          ∙ dot_seen (is_forbidden x || forbidden) ts some _ _ _ (empty_seen forbidden ts some)
          (wild_seen forbidden ts some) (early_seen forbidden ts some)
      | false ↦
          ap (λ f. record (scan_tokens forbidden ts) {
            forbidden = is_forbidden x || f;
            first = kind_before x (scan_tokens forbidden ts).first;
          })
          (same forbidden ts)
          ∙ byte_seen x forbidden ts some
    ]
  where
    same : (forbidden : Bool) (ts : List (List ℕ)) → (scan_tokens forbidden ts).forbidden ≡ forbidden
    same forbidden [] = refl
    same forbidden (t ∷ ts) = refl

pub scanned_last : (scan : Scan) (front : List ℕ) (byte : ℕ)
    → scan_onto scan (front ++ byte ∷ []) ≡ scan_onto (scan_before byte scan) front
scanned_last scan [] byte = refl
scanned_last scan (x ∷ front) byte = ap (scan_before x) (scanned_last scan front byte)

pub scanned_whole : (text : List ℕ) → scan_onto (scan_of []) text ≡ scan_of text
scanned_whole [] = refl
scanned_whole (x ∷ text) =
    ap (scan_before x) (scanned_whole text) ∙ step x (has_forbidden text) (tokens text) (tokens_are_some text)

-- ---- what is seen of a whole text

pub empty_told : (text : List ℕ) → some_empty (scan_of text) ≡ has_empty_token (tokens text)
empty_told text = empty_seen (has_forbidden text) (tokens text) (tokens_are_some text)

pub wild_told : (text : List ℕ) → some_wild (scan_of text) ≡ has_wild_token (tokens text)
wild_told text = wild_seen (has_forbidden text) (tokens text) (tokens_are_some text)

pub early_told : (text : List ℕ) → some_early (scan_of text) ≡ has_wild_before_last (tokens text)
early_told text = early_seen (has_forbidden text) (tokens text) (tokens_are_some text)

pub forbidden_told : (text : List ℕ) → (scan_of text).forbidden ≡ has_forbidden text
forbidden_told text = told (has_forbidden text) (tokens text) where
  told : (forbidden : Bool) (ts : List (List ℕ)) → (scan_tokens forbidden ts).forbidden ≡ forbidden
  told forbidden [] = refl
  told forbidden (t ∷ ts) = refl

-- nothing is left unseen
pub scanned_all : (scan : Scan) (left text : List ℕ)
    → length left ≡ 0
    → scan_onto scan left ≡ scan_onto (scan_of []) text
    → scan ≡ scan_of text
scanned_all scan [] text none same = same ∙ scanned_whole text
scanned_all scan (x ∷ left) text none same = absurd (omega (arith, none))
