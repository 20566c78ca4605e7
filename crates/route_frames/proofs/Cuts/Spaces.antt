-- Cutting a text at its spaces and line ends.
use Rattle.std.proofs.Common.{◌≡◌, ℕ, ◌-◌, Bool, true, false, ◌&&◌, ◌||◌, cond, List, [], ◌∷◌, ◌++◌, length, take, drop, refl, ap, ◌∙◌, arith, length-append, Some, None, Ok}
use Rattle.std.specs.Prelude.{nat_eq}
use Rattle.std.specs.List.{slice_split, onto_first, list_any}
use Rattle.std.specs.Char.{is_ascii_digit}
use Rattle.std.specs.Str.{all_ascii_digits, bytes_eq}
use Rattle.std.proofs.lemmas.Bool.Decides.{nat_tests}
use Rattle.subj.specs.Names.{is_forbidden, has_forbidden}
use Rattle.route_values.specs.Snapshots.{Weighted}
use Rattle.route_frames.specs.SnapshotTexts.{pieces, weighted_of, before_cr, key_line_of}
use Rattle.route_frames.proofs.Cuts.Behind.{drop_front}

-- ---- cutting a text at a byte

pub none_of_two : (a b : Bool) → (a || b) ≡ false → (a ≡ false) × (b ≡ false)
none_of_two true b e = absurd (cc)
none_of_two false b e = (refl, e)

pub cut_none : (p : ℕ → Bool) (text : List ℕ) → list_any p text ≡ false → slice_split p text ≡ text ∷ []
cut_none p [] e = refl
cut_none p (x ∷ xs) e =
    let parts = none_of_two (p x) (list_any p xs) e in
    ap (λ b. cond b ([] ∷ slice_split p xs) (onto_first x (slice_split p xs))) parts.0
    ∙ ap (onto_first x) (cut_none p xs parts.1)

pub cut_at : (p : ℕ → Bool) (front : List ℕ) (y : ℕ) (behind : List ℕ)
    → list_any p front ≡ false
    → p y ≡ true
    → slice_split p (front ++ y ∷ behind) ≡ front ∷ slice_split p behind
cut_at p [] y behind e is = ap (λ b. cond b ([] ∷ slice_split p behind) (onto_first y (slice_split p behind))) is
cut_at p (x ∷ xs) y behind e is =
    let parts = none_of_two (p x) (list_any p xs) e in
    ap (λ b. cond b ([] ∷ slice_split p (xs ++ y ∷ behind)) (onto_first x (slice_split p (xs ++ y ∷ behind)))) parts.0
    ∙ ap (onto_first x) (cut_at p xs y behind parts.1 is)

pub none_in_both : (p : ℕ → Bool) (front behind : List ℕ)
    → list_any p front ≡ false
    → list_any p behind ≡ false
    → list_any p (front ++ behind) ≡ false
none_in_both p [] behind e e_too = e_too
none_in_both p (x ∷ xs) behind e e_too =
    let parts = none_of_two (p x) (list_any p xs) e in
    ap (λ b. b || list_any p (xs ++ behind)) parts.0 ∙ none_in_both p xs behind parts.1 e_too

-- ---- bytes that names and numbers lack

abbrev Lacks : (ℕ → Bool) → Type 0
Lacks p = (byte : ℕ) → is_forbidden byte ≡ false → p byte ≡ false

pub lacks : (p : ℕ → Bool) → Lacks p → (text : List ℕ) → has_forbidden text ≡ false → list_any p text ≡ false
lacks p never [] e = refl
lacks p never (x ∷ xs) e =
    let parts = none_of_two (is_forbidden x) (has_forbidden xs) e in
    ap (λ b. b || list_any p xs) (never x parts.0) ∙ lacks p never xs parts.1

both : (a b : Bool) → (a && b) ≡ true → (a ≡ true) × (b ≡ true)
both true b e = (refl, e)
both false b e = absurd (cc)

pub digits_lack : (p : ℕ → Bool)
    → ((byte : ℕ) → is_ascii_digit byte ≡ true → p byte ≡ false)
    → (text : List ℕ)
    → all_ascii_digits text ≡ true
    → list_any p text ≡ false
digits_lack p never [] e = refl
digits_lack p never (x ∷ xs) e =
    let parts = both (is_ascii_digit x) (all_ascii_digits xs) e in
    ap (λ b. b || list_any p xs) (never x parts.0) ∙ digits_lack p never xs parts.1

pub no_lf : Lacks (λ byte. nat_eq byte 10)
no_lf byte e = grind (arith, nat_tests)

pub no_space : Lacks (λ byte. nat_eq byte 32)
no_space byte e = grind (arith, nat_tests)

pub digit_no_lf : (byte : ℕ) → is_ascii_digit byte ≡ true → nat_eq byte 10 ≡ false
digit_no_lf byte e = grind (arith, nat_tests)

pub digit_no_space : (byte : ℕ) → is_ascii_digit byte ≡ true → nat_eq byte 32 ≡ false
digit_no_space byte e = grind (arith, nat_tests)

-- ---- a line with its CR

pub take_front : (front behind : List ℕ) → take (length front) (front ++ behind) ≡ front
take_front [] behind = refl
take_front (x ∷ front) behind = ap (λ rest. x ∷ rest) (take_front front behind)

cr_again : (line : List ℕ) → before_cr (line ++ 13 ∷ []) ≡ Some line
cr_again line =
    let len : length (line ++ 13 ∷ []) - 1 ≡ length line = omega (arith, length-append line (13 ∷ [])) in
    ap (λ n. cond (bytes_eq (drop n (line ++ 13 ∷ [])) (13 ∷ [])) (Some (take n (line ++ 13 ∷ []))) None) len
    ∙ ap (λ text. cond (bytes_eq text (13 ∷ [])) (Some (take (length line) (line ++ 13 ∷ []))) None)
    (drop_front line (13 ∷ []))
    ∙ ap (λ text. Some text) (take_front line (13 ∷ []))

pub key_line_again : (line : List ℕ) (weighted : Weighted)
    → weighted_of (pieces 32 line) ≡ Ok weighted
    → key_line_of (line ++ 13 ∷ []) ≡ Ok weighted
unfolding key_line_of
key_line_again line weighted is = rw (cr_again line) is
