-- A text that is cut at the first place of a byte.
use Rattle.std.proofs.Common.{◌≡◌, ℕ, zero, suc, ◌+◌, ◌-◌, ◌<◌, ◌≤◌, Bool, true, false, ◌||◌, List, [], ◌∷◌, ◌++◌, length, take, drop, get_or, refl, ap, sym, ◌∙◌, subst, arith, take-append-drop, drop-cons, Some, None, eqb-true}
use Rattle.std.specs.List.{list_any}
use Rattle.std.proofs.lemmas.Bool.Decides.{nat_tests}
use Rattle.std.proofs.Math.Seq.{take-length}
use Rattle.memchr.specs.Find.{IsFirstByte, is_byte}
use Rattle.list_laws.proofs.Tests.{or_false}
use Rattle.publication_runs.specs.Cuts.{HasNo, IsCutAt}

-- ---- a search

untrue : (b : Bool) → (b ≡ true → ⊥) → b ≡ false
untrue true never = absurd (never refl)
untrue false never = refl

-- a test that none of the first bytes passes
none_before : (p : ℕ → Bool) (bytes : List ℕ) (n : ℕ)
    → n ≤ length bytes
    → ((k : ℕ) → k < n → p (get_or bytes k 0) ≡ true → ⊥)
    → list_any p (take n bytes) ≡ false
none_before p bytes zero within never = refl
none_before p [] (suc n) within never = refl
none_before p (x ∷ xs) (suc n) within never =
    ap (λ b. b || list_any p (take n xs)) (untrue (p x) (never 0 (omega arith)))
    ∙ none_before p xs n (omega arith) (λ k below. never (suc k) (omega arith))

pub found_nowhere : (byte : ℕ) (text : List ℕ) → IsFirstByte (is_byte byte) text None → HasNo byte text
found_nowhere byte text nowhere =
    subst (HasNo byte) (take-length text)
    (none_before (is_byte byte) text (length text) (omega arith) (λ k below. nowhere k (omega arith) below))

-- as the code reaches what stands behind the byte
behind_first : (byte : ℕ) (rest : List ℕ) → take (length (byte ∷ rest) - 1) (drop 1 (byte ∷ rest)) ≡ rest
behind_first byte rest =
    let fewer : length (byte ∷ rest) - 1 ≡ length rest = omega arith in
    ap (λ n. take n rest) fewer ∙ take-length rest

pub found_at : (byte : ℕ) (text front rest : List ℕ) (at : ℕ)
    → IsFirstByte (is_byte byte) text (Some at)
    → front ≡ take at text
    → rest ≡ drop at text
    → IsCutAt byte text front (take (length rest - 1) (drop 1 rest))
found_at byte text front rest at first is is_rest =
    let within : at < length text = first.0.high in
    let here : get_or text at 0 ≡ byte = eqb-true _ _ first.1 in
    let opened : drop at text ≡ byte ∷ drop (suc at) text =
    drop-cons text at 0 within ∙ ap (λ x. x ∷ drop (suc at) text) here in
    let behind : take (length rest - 1) (drop 1 rest) ≡ drop (suc at) text =
    ap (λ l. take (length l - 1) (drop 1 l)) (is_rest ∙ opened) ∙ behind_first byte (drop (suc at) text) in
    record {
      whole = sym (take-append-drop at text) ∙ ap (λ l. take at text ++ l) (opened ∙ ap (λ l. byte ∷ l) (sym behind))
          ∙ ap (λ l. l ++ byte ∷ take (length rest - 1) (drop 1 rest)) (sym is);
      first = subst (HasNo byte) (sym is)
          (none_before (is_byte byte) text at (omega arith) (λ k below. first.0.before k (omega arith) below));
    }

-- ---- a text is cut at a byte in one way

same_byte : (byte other : ℕ) → byte ≡ other → is_byte byte other ≡ false → ⊥
same_byte byte other is lacks = grind (arith, nat_tests)

pub stands_there : (byte : ℕ) (front behind : List ℕ) → HasNo byte (front ++ byte ∷ behind) → ⊥
stands_there byte [] behind lacks =
    same_byte byte byte refl (or_false (is_byte byte byte) (list_any (is_byte byte) behind) lacks).0
stands_there byte (x ∷ xs) behind lacks =
    stands_there byte xs behind (or_false (is_byte byte x) (list_any (is_byte byte) (xs ++ byte ∷ behind)) lacks).1

pub cut_once : (byte : ℕ) (front behind other rest : List ℕ)
    → HasNo byte front
    → HasNo byte other
    → front ++ byte ∷ behind ≡ other ++ byte ∷ rest
    → (front ≡ other) × (behind ≡ rest)
cut_once byte [] behind [] rest lacks never is = (refl, cc)
cut_once byte [] behind (y ∷ ys) rest lacks never is =
    let head : byte ≡ y = cc in
    absurd (same_byte byte y head (or_false (is_byte byte y) (list_any (is_byte byte) ys) never).0)
cut_once byte (x ∷ xs) behind [] rest lacks never is =
    let head : byte ≡ x = cc in
    absurd (same_byte byte x head (or_false (is_byte byte x) (list_any (is_byte byte) xs) lacks).0)
cut_once byte (x ∷ xs) behind (y ∷ ys) rest lacks never is =
    let head : x ≡ y = cc in
    let tails : xs ++ byte ∷ behind ≡ ys ++ byte ∷ rest = cc in
    let both =
    cut_once byte xs behind ys rest (or_false (is_byte byte x) (list_any (is_byte byte) xs) lacks).1
    (or_false (is_byte byte y) (list_any (is_byte byte) ys) never).1 tails in
    let same : xs ≡ ys = both.0 in
    (cc, both.1)
