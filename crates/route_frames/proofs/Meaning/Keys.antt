-- The text of a snapshot that is spelt means the keys that it spells.
use Rattle.std.proofs.Common.{◌≡◌, ℕ, Bool, true, false, ◌&&◌, cond, List, [], ◌∷◌, ◌++◌, refl, ap, sym, ◌∙◌, subst, append_assoc, Option, Some, None, Ok}
use Rattle.std.specs.Prelude.{nat_eq, nat_le, length, not}
use Rattle.std.specs.Option.{ok_or}
use Rattle.std.specs.List.{list_any}
use Rattle.std.specs.Str.{all_ascii_digits}
use Rattle.std.specs.Str.Parse.{digits_value}
use Rattle.list_laws.specs.Lists.{is_empty}
use Rattle.route_values.specs.Snapshots.{Weighted, line_end}
use Rattle.route_values.specs.Valid.{IsWeighted, AreWeighted, AreSnapshotKeys}
use Rattle.route_frames.specs.declared.faults.RouteFault.TheVariants.{BadArgs}
use Rattle.route_frames.specs.declared.line_reading.TheConstants.{WEIGHT_DIGITS}
use Rattle.route_frames.specs.Meaning.{◌>>=◌}
use Rattle.route_frames.specs.CommonFields.{digits_of}
use Rattle.route_frames.specs.SnapshotTexts.{pieces, plain_key, queue_key, weighted_of, keys_in, snapshot_in}
use Rattle.route_frames.specs.Spelling.{IsNumber, SpellsKey, SpellsKeys}
use Rattle.route_frames.proofs.Spelt.Chains.{where_some}
use Rattle.route_frames.proofs.Cuts.Pieces.{line_and_more}
use Rattle.route_frames.proofs.Canonical.Fields.{pattern_plain, queue_plain}
use Rattle.route_frames.proofs.Meaning.Parts.{key_again, weighted_again}
use Rattle.route_frames.proofs.Meaning.Lines.{plain_weight}
use Rattle.route_frames.proofs.Cuts.Spaces.{cut_none, cut_at, none_in_both, lacks, digits_lack, no_lf, no_space, digit_no_lf, digit_no_space, key_line_again}

-- ---- a line

three_true : (a b c : Bool) → (a && (b && c)) ≡ true → c ≡ true
three_true true true c e = e
three_true true false c e = absurd (cc)
three_true false b c e = absurd (cc)

are_digits : (most : ℕ) (digits : List ℕ) (n : ℕ) → IsNumber most digits n → all_ascii_digits digits ≡ true
are_digits most digits n is =
    three_true (not (is_empty digits)) (nat_le (length digits) most) (all_ascii_digits digits)
    (where_some (not (is_empty digits) && (nat_le (length digits) most && all_ascii_digits digits))
    (digits_value 10 digits) n is).0

record LineMeans (line : List ℕ) (weighted : Weighted) : Type 0 where
  pub means : weighted_of (pieces 32 line) ≡ Ok weighted
  pub whole : list_any (λ byte. nat_eq byte 10) line ≡ false

plain_means : (pattern : List ℕ) (weight : ℕ)
    → IsWeighted (record { pattern = pattern; queue = None }, weight)
    → plain_key pattern ≡ Ok (record { pattern = pattern; queue = None }, weight)
unfolding plain_key
plain_means pattern weight is =
    rw (key_again (record { pattern = pattern; queue = None }) is.key)
    (ap (λ n. Ok (record { pattern = pattern; queue = None }, n)) (sym (plain_weight weight is.weight)))

member_means : (pattern queue digits : List ℕ) (weight : ℕ)
    → IsWeighted (record { pattern = pattern; queue = Some queue }, weight)
    → IsNumber WEIGHT_DIGITS digits weight
    → queue_key pattern queue digits ≡ Ok (record { pattern = pattern; queue = Some queue }, weight)
unfolding queue_key
member_means pattern queue digits weight is spelt =
    let number : digits_of WEIGHT_DIGITS digits ≡ Ok weight = ap (λ found. ok_or found BadArgs) spelt in
    rw (
      number,
      key_again (record { pattern = pattern; queue = Some queue }) is.key,
      weighted_again (record { pattern = pattern; queue = Some queue }, weight) is.weight,
    )
    refl

line_means : (pattern : List ℕ) (queue : Option (List ℕ)) (weight : ℕ) (line : List ℕ)
    → IsWeighted (record { pattern = pattern; queue = queue }, weight)
    → SpellsKey pattern queue weight line
    → LineMeans line (record { pattern = pattern; queue = queue }, weight)
line_means pattern None weight line is spelt =
    subst (λ line. LineMeans line (record { pattern = pattern; queue = None }, weight)) (sym spelt) (record {
      means =
          ap weighted_of (cut_none (λ byte. nat_eq byte 32) pattern
          (lacks _ no_space pattern (pattern_plain pattern (is.key).pattern)))
          ∙ plain_means pattern weight is;
      whole = lacks _ no_lf pattern (pattern_plain pattern (is.key).pattern);
    })
line_means pattern (Some queue) weight line is spelt =
    let digits = spelt.0 in
    let are = are_digits WEIGHT_DIGITS digits weight spelt.2 in
    let key = is.key in
    subst (λ line. LineMeans line (record { pattern = pattern; queue = Some queue }, weight)) (sym spelt.1) (record {
      means =
          ap weighted_of (cut_at (λ byte. nat_eq byte 32) pattern 32 (queue ++ (32 ∷ digits))
          (lacks _ no_space pattern (pattern_plain pattern key.pattern)) refl
          ∙ ap (λ more. pattern ∷ more)
          (cut_at (λ byte. nat_eq byte 32) queue 32 digits (lacks _ no_space queue (queue_plain queue key.queue)) refl)
          ∙ ap (λ more. pattern ∷ queue ∷ more)
          (cut_none (λ byte. nat_eq byte 32) digits (digits_lack _ digit_no_space digits are)))
          ∙ member_means pattern queue digits weight is spelt.2;
      whole =
          none_in_both _ pattern (32 ∷ (queue ++ (32 ∷ digits)))
          (lacks _ no_lf pattern (pattern_plain pattern key.pattern))
          (none_in_both _ queue (32 ∷ digits) (lacks _ no_lf queue (queue_plain queue key.queue))
          (digits_lack _ digit_no_lf digits are));
    })

-- ---- the lines

first_line : (line rest : List ℕ)
    → list_any (λ byte. nat_eq byte 10) line ≡ false
    → pieces 10 (line ++ (line_end ++ rest)) ≡ (line ++ 13 ∷ []) ∷ pieces 10 rest
first_line line rest whole =
    ap (pieces 10) (sym (append_assoc line (13 ∷ []) (10 ∷ rest)))
    ∙ cut_at (λ byte. nat_eq byte 10) (line ++ 13 ∷ []) 10 rest (none_in_both _ line (13 ∷ []) whole refl) refl

keys_mean : (keys : List Weighted) (text : List ℕ)
    → AreWeighted keys
    → SpellsKeys keys text
    → keys_in (pieces 10 text) ≡ Ok keys
keys_mean [] text are spelt = ap (λ text. keys_in (pieces 10 text)) spelt
keys_mean (weighted ∷ keys) text are spelt =
    let line = spelt.0 in
    let rest = spelt.1 in
    let read = line_means weighted.0.pattern weighted.0.queue weighted.1 line are.0 spelt.3 in
    ap (λ text. keys_in (pieces 10 text)) spelt.2
    ∙ ap keys_in (first_line line rest read.whole)
    ∙ line_and_more (line ++ 13 ∷ []) rest
    ∙ ap (λ read. read >>= λ key. keys_in (pieces 10 rest) >>= λ others. Ok (key ∷ others))
    (key_line_again line weighted read.means)
    ∙ ap (λ read. read >>= λ others. Ok (weighted ∷ others)) (keys_mean keys rest are.1 spelt.4)

pub text_means : (keys : List Weighted) (text : List ℕ)
    → AreSnapshotKeys keys
    → SpellsKeys keys text
    → snapshot_in text ≡ Ok keys
unfolding snapshot_in
text_means keys text are spelt =
    rw (keys_mean keys text are.each spelt) (ap (λ b. ok_or (cond b (Some keys) None) BadArgs) are.ordered)
