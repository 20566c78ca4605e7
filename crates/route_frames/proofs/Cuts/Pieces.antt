-- Taking the first piece off a text.
use Rattle.std.proofs.Common.{◌≡◌, ℕ, suc, ◌+◌, ◌≤◌, ◌<◌, Bool, true, false, not, cond, List, [], ◌∷◌, ◌++◌, length, take, drop, refl, ap, sym, ◌∙◌, arith, add-one, append_assoc, Some, None, Ok, Err}
use Rattle.std.specs.Prelude.{position, nat_lt, nat_eq}
use Rattle.std.specs.List.{slice_split, onto_first, position_or_len}
use Rattle.std.proofs.lemmas.Bool.Decides.{nat_tests}
use Rattle.route_values.specs.Snapshots.{Weighted}
use Rattle.route_frames.specs.declared.faults.RouteFault.{RouteFault}
use Rattle.route_frames.specs.declared.faults.RouteFault.TheVariants.{BadArgs}
use Rattle.std.proofs.Math.Numerals.{one-add}
use Rattle.route_frames.specs.Meaning.{Meaning, ◌>>=◌, with_front}
use Rattle.route_frames.specs.SnapshotTexts.{pieces, weighted_of, key_line_of, keys_in}

-- ---- where the first passes

not_below : (a b : ℕ) → cond (nat_lt a b) (Some a) None ≡ None → b ≤ a
not_below a b e = grind (arith, nat_tests)

below : (a b i : ℕ) → cond (nat_lt a b) (Some a) None ≡ Some i → (i < b) × (a ≡ i)
below a b i e = grind (arith, nat_tests)

no_cut_by : (p : ℕ → Bool) (x : ℕ) (xs : List ℕ) (b : Bool)
    → p x ≡ b
    → (length xs ≤ position_or_len p xs → slice_split p xs ≡ xs ∷ [])
    → suc (length xs) ≤ cond (not b) (1 + position_or_len p xs) 0
    → slice_split p (x ∷ xs) ≡ (x ∷ xs) ∷ []
no_cut_by p x xs true is later past = absurd (omega arith)
no_cut_by p x xs false is later past =
    ap (λ b. cond b ([] ∷ slice_split p xs) (onto_first x (slice_split p xs))) is
    ∙ ap (onto_first x) (later (omega arith))

no_cut : (p : ℕ → Bool) (text : List ℕ) → length text ≤ position_or_len p text → slice_split p text ≡ text ∷ []
no_cut p [] past = refl
no_cut p (x ∷ xs) past = no_cut_by p x xs (p x) refl (no_cut p xs) past

pub one_piece : (byte : ℕ) (text : List ℕ) → position (λ b. nat_eq b byte) text ≡ None → pieces byte text ≡ text ∷ []
one_piece byte text none = no_cut (λ b. nat_eq b byte) text (not_below _ _ none)

-- ---- the first piece

first_cut_by : (p : ℕ → Bool) (x : ℕ) (xs : List ℕ) (b : Bool)
    → p x ≡ b
    → (position_or_len p xs < length xs
    → slice_split p xs ≡ take (position_or_len p xs) xs ∷ slice_split p (drop (suc (position_or_len p xs)) xs))
    → cond (not b) (1 + position_or_len p xs) 0 < suc (length xs)
    → slice_split p (x ∷ xs)
    ≡ take (cond (not b) (1 + position_or_len p xs) 0) (x ∷ xs)
    ∷ slice_split p (drop (suc (cond (not b) (1 + position_or_len p xs) 0)) (x ∷ xs))
first_cut_by p x xs true is later within = ap (λ b. cond b ([] ∷ slice_split p xs) (onto_first x (slice_split p xs))) is
first_cut_by p x xs false is later within =
    ap (λ b. cond b ([] ∷ slice_split p xs) (onto_first x (slice_split p xs))) is
    ∙ ap (onto_first x) (later (omega arith))
    ∙ sym (ap (λ n. take n (x ∷ xs) ∷ slice_split p (drop n xs)) (one-add (position_or_len p xs)))

first_cut : (p : ℕ → Bool) (text : List ℕ)
    → position_or_len p text < length text
    → slice_split p text ≡ take (position_or_len p text) text ∷ slice_split p (drop (suc (position_or_len p text)) text)
first_cut p [] within = absurd (omega arith)
first_cut p (x ∷ xs) within = first_cut_by p x xs (p x) refl (first_cut p xs) within

pub first_piece : (byte : ℕ) (text piece behind : List ℕ) (place : ℕ)
    → position (λ b. nat_eq b byte) text ≡ Some place
    → piece ≡ take place text
    → behind ≡ drop (place + 1) text
    → pieces byte text ≡ piece ∷ pieces byte behind
first_piece byte text piece behind place found piece_is behind_is =
    let at = below _ _ place found in
    first_cut (λ b. nat_eq b byte) text (omega arith)
    ∙ ap (λ n. take n text ∷ pieces byte (drop (suc n) text)) at.1
    ∙ ap (λ t. t ∷ pieces byte (drop (suc place) text)) (sym piece_is)
    ∙ ap (λ t. piece ∷ pieces byte t) (sym (behind_is ∙ ap (λ n. drop n text) (add-one place)))

pub place_within : (byte : ℕ) (text : List ℕ) (place : ℕ)
    → position (λ b. nat_eq b byte) text ≡ Some place
    → place < length text
place_within byte text place found = let at = below _ _ place found in omega arith

-- ---- there always is a piece

record HasFirst (texts : List (List ℕ)) : Type 0 where
  first : List ℕ
  more : List (List ℕ)
  is : texts ≡ first ∷ more

onto_has : (x : ℕ) (texts : List (List ℕ)) → HasFirst texts → HasFirst (onto_first x texts)
onto_has x texts has = record { first = x ∷ has.first; more = has.more; is = ap (onto_first x) has.is }

has_first_by : (p : ℕ → Bool) (xs : List ℕ) (x : ℕ) (b : Bool)
    → HasFirst (slice_split p xs)
    → HasFirst (cond b ([] ∷ slice_split p xs) (onto_first x (slice_split p xs)))
has_first_by p xs x true has = record { first = []; more = slice_split p xs; is = refl }
has_first_by p xs x false has = onto_has x (slice_split p xs) has

has_first : (p : ℕ → Bool) (text : List ℕ) → HasFirst (slice_split p text)
has_first p [] = record { first = []; more = []; is = refl }
has_first p (x ∷ xs) = has_first_by p xs x (p x) (has_first p xs)

four_fields : (pattern queue weight behind : List ℕ)
    → weighted_of (pattern ∷ queue ∷ weight ∷ pieces 32 behind) ≡ Err BadArgs
four_fields pattern queue weight behind =
    ap (λ more. weighted_of (pattern ∷ queue ∷ weight ∷ more)) (has_first (λ b. nat_eq b 32) behind).is

pub too_many_fields : (line pattern behind queue weights weight others : List ℕ)
    → pieces 32 line ≡ pattern ∷ pieces 32 behind
    → pieces 32 behind ≡ queue ∷ pieces 32 weights
    → pieces 32 weights ≡ weight ∷ pieces 32 others
    → weighted_of (pieces 32 line) ≡ Err BadArgs
too_many_fields line pattern behind queue weights weight others first second third =
    ap weighted_of first
    ∙ ap (λ more. weighted_of (pattern ∷ more)) second
    ∙ ap (λ more. weighted_of (pattern ∷ queue ∷ more)) third
    ∙ four_fields pattern queue weight others

-- ---- keys, line by line

pub line_and_more : (line behind : List ℕ)
    → keys_in (line ∷ pieces 10 behind)
    ≡ (key_line_of line >>= λ key. keys_in (pieces 10 behind) >>= λ others. Ok (key ∷ others))
line_and_more line behind =
    let has = has_first (λ b. nat_eq b 10) behind in
    ap (λ more. keys_in (line ∷ more)) has.is
    ∙ ap (λ more. key_line_of line >>= λ key. keys_in more >>= λ others. Ok (key ∷ others)) (sym has.is)

one_in_front : {A : Type 0} (front : List A) (x : A) (others : Meaning (List A))
    → with_front (front ++ x ∷ []) others ≡ with_front front (others >>= λ xs. Ok (x ∷ xs))
one_in_front front x (Ok xs) = ap (λ all. Ok all) (append_assoc front (x ∷ []) xs)
one_in_front front x (Err fault) = refl

pub one_more_key : (front : List Weighted) (rest line behind : List ℕ) (key : Weighted)
    → pieces 10 rest ≡ line ∷ pieces 10 behind
    → key_line_of line ≡ Ok key
    → with_front (front ++ key ∷ []) (keys_in (pieces 10 behind)) ≡ with_front front (keys_in (pieces 10 rest))
one_more_key front rest line behind key split is =
    one_in_front front key (keys_in (pieces 10 behind))
    ∙ sym
    (ap (λ read. with_front front (read >>= λ key. keys_in (pieces 10 behind) >>= λ others. Ok (key ∷ others))) is)
    ∙ sym (ap (with_front front) (line_and_more line behind))
    ∙ sym (ap (λ texts. with_front front (keys_in texts)) split)

bad_line : (front : List Weighted) (rest line behind : List ℕ) (fault : RouteFault)
    → pieces 10 rest ≡ line ∷ pieces 10 behind
    → key_line_of line ≡ Err fault
    → with_front front (keys_in (pieces 10 rest)) ≡ Err fault
bad_line front rest line behind fault split is =
    ap (λ texts. with_front front (keys_in texts)) split ∙ ap (with_front front) (line_and_more line behind)
    ∙ ap (λ read. with_front front (read >>= λ key. keys_in (pieces 10 behind) >>= λ others. Ok (key ∷ others))) is

pub bad_key : (fault : RouteFault) (front : List Weighted) (rest line behind text : List ℕ)
    → pieces 10 rest ≡ line ∷ pieces 10 behind
    → key_line_of line ≡ Err fault
    → with_front front (keys_in (pieces 10 rest)) ≡ keys_in (pieces 10 text)
    → keys_in (pieces 10 text) ≡ Err fault
bad_key fault front rest line behind text split is so_far = sym so_far ∙ bad_line front rest line behind fault split is
