-- The text of a snapshot that was read is spelt as the relation says.
use Rattle.std.proofs.Common.{◌≡◌, ℕ, ◌-◌, true, List, [], ◌∷◌, ◌++◌, length, take, drop, refl, ap, sym, ◌∙◌, subst, append_assoc, Some, None, Ok}
use Rattle.std.specs.Prelude.{codes}
use Rattle.std.specs.Option.{ok_or}
use Rattle.std.specs.List.{join_with_byte}
use Rattle.std.specs.Str.{bytes_eq}
use Rattle.std.proofs.lemmas.List.Splits.{join_with_byte-slice_split}
use Rattle.std.proofs.lemmas.List.{take-append-drop}
use Rattle.std.proofs.lemmas.Slice.Eq.{bytes_eq-Decides}
use Rattle.list_laws.specs.Lists.{is_empty}
use Rattle.route_values.specs.Snapshots.{Weighted, are_snapshot_keys, snapshot_of, line_end}
use Rattle.route_values.specs.Valid.{IsWeighted, AreWeighted, AreSnapshotKeys}
use Rattle.route_frames.specs.declared.faults.RouteFault.TheVariants.{BadArgs}
use Rattle.route_frames.specs.declared.line_reading.TheConstants.{WEIGHT_DIGITS}
use Rattle.route_frames.specs.CommonFields.{digits_of}
use Rattle.route_frames.specs.NumberedLines.{key_of}
use Rattle.route_frames.specs.SnapshotTexts.{pieces, plain_key, queue_key, weighted_of, before_cr, key_line_of, keys_in, snapshot_in}
use Rattle.route_frames.specs.Spelling.{SpellsKey, SpellsKeys}
use Rattle.route_frames.proofs.Spelt.Chains.{step_ok, ok_same, found_ok, where_ok, where_some}
use Rattle.route_frames.proofs.Spelt.Fields.{digits_ok, key_ok, weighted_ok}

-- ---- a line

record KeyRead (line : List ℕ) (weighted : Weighted) : Type 0 where
  pub spells : SpellsKey weighted.0.pattern weighted.0.queue weighted.1 line
  pub valid : IsWeighted weighted

plain_read : (pattern : List ℕ) (weighted : Weighted) → plain_key pattern ≡ Ok weighted → KeyRead pattern weighted
unfolding plain_key
plain_read pattern weighted e =
    let key = step_ok (key_of pattern None) _ weighted e in
    let is = key_ok pattern None key.0 key.1 in
    let weighs = weighted_ok key.0 1 weighted key.2 in
    subst (KeyRead pattern) weighs.1 (record {
      spells = subst (λ queue. SpellsKey (key.0).pattern queue 1 pattern) is.queue_same is.pattern_same;
      valid = record { key = is.valid; weight = weighs.0 };
    })

abbrev spaced_key : List ℕ → List ℕ → List ℕ → List ℕ
spaced_key pattern queue digits = pattern ++ (codes " " ++ (queue ++ (codes " " ++ digits)))

queue_read : (pattern queue digits : List ℕ) (weighted : Weighted)
    → queue_key pattern queue digits ≡ Ok weighted
    → KeyRead (spaced_key pattern queue digits) weighted
unfolding queue_key
queue_read pattern queue digits weighted e =
    let weight = step_ok (digits_of WEIGHT_DIGITS digits) _ weighted e in
    let key = step_ok (key_of pattern (Some queue)) _ weighted weight.2 in
    let is = key_ok pattern (Some queue) key.0 key.1 in
    let weighs = weighted_ok key.0 weight.0 weighted key.2 in
    let spelt : SpellsKey (key.0).pattern (Some queue) weight.0 (spaced_key pattern queue digits) = (
      digits,
      ap (λ p. spaced_key p queue digits) is.pattern_same,
      digits_ok WEIGHT_DIGITS digits weight.0 weight.1,
    ) in
    subst (KeyRead (spaced_key pattern queue digits)) weighs.1 (record {
      spells = subst (λ q. SpellsKey (key.0).pattern q weight.0 (spaced_key pattern queue digits)) is.queue_same spelt;
      valid = record { key = is.valid; weight = weighs.0 };
    })

parts_read : (parts : List (List ℕ)) (weighted : Weighted)
    → weighted_of parts ≡ Ok weighted
    → KeyRead (join_with_byte 32 parts) weighted
parts_read [] weighted e = absurd (cc)
parts_read (pattern ∷ []) weighted e = plain_read pattern weighted e
parts_read (pattern ∷ queue ∷ []) weighted e = absurd (cc)
parts_read (pattern ∷ queue ∷ digits ∷ []) weighted e = queue_read pattern queue digits weighted e
parts_read (pattern ∷ queue ∷ digits ∷ other ∷ others) weighted e = absurd (cc)

line_read : (line : List ℕ) (weighted : Weighted) → weighted_of (pieces 32 line) ≡ Ok weighted → KeyRead line weighted
line_read line weighted e =
    subst (λ line. KeyRead line weighted) (join_with_byte-slice_split 32 line) (parts_read (pieces 32 line) weighted e)

cr_read : (text line : List ℕ) → before_cr text ≡ Some line → text ≡ line ++ 13 ∷ []
cr_read text line e =
    let good = where_some (bytes_eq (drop (length text - 1) text) (13 ∷ [])) (take (length text - 1) text) line e in
    sym (take-append-drop (length text - 1) text)
    ∙ ap (λ end. take (length text - 1) text ++ end)
    ((bytes_eq-Decides (drop (length text - 1) text) (13 ∷ [])).0 good.0)
    ∙ ap (λ front. front ++ 13 ∷ []) good.1

record KeyLineRead (text : List ℕ) (weighted : Weighted) : Type 0 where
  pub line : List ℕ
  pub whole : text ≡ line ++ 13 ∷ []
  pub read : KeyRead line weighted

key_line_read : (text : List ℕ) (weighted : Weighted) → key_line_of text ≡ Ok weighted → KeyLineRead text weighted
unfolding key_line_of
key_line_read text weighted e =
    let line = step_ok (ok_or (before_cr text) BadArgs) _ weighted e in
    record {
      line = line.0;
      whole = cr_read text line.0 (found_ok (before_cr text) BadArgs line.0 line.1);
      read = line_read line.0 weighted line.2;
    }

-- ---- the lines

abbrev Read : List ℕ → List Weighted → Type 0
Read text keys = SpellsKeys keys text × AreWeighted keys

no_key : (keys : List Weighted) (last : List ℕ) → is_empty last ≡ true → [] ≡ keys → Read last keys
no_key keys [] is none = subst (Read []) none (refl, tt)
no_key keys (byte ∷ bytes) is none = absurd (cc)

line_and_rest : (line text rest : List ℕ) → text ≡ line ++ 13 ∷ [] → text ++ 10 ∷ rest ≡ line ++ (line_end ++ rest)
line_and_rest line text rest is = ap (λ text. text ++ 10 ∷ rest) is ∙ append_assoc line (13 ∷ []) (10 ∷ rest)

lines_read : (texts : List (List ℕ)) (keys : List Weighted)
    → keys_in texts ≡ Ok keys
    → Read (join_with_byte 10 texts) keys
lines_read [] keys e = subst (Read []) (ok_same [] keys e) (refl, tt)
lines_read (last ∷ []) keys e = let good = where_ok (is_empty last) BadArgs [] keys e in no_key keys last good.0 good.1
lines_read (text ∷ next ∷ texts) keys e =
    let key = step_ok (key_line_of text) _ keys e in
    let others = step_ok (keys_in (next ∷ texts)) _ keys key.2 in
    let is = key_line_read text key.0 key.1 in
    let rest = lines_read (next ∷ texts) others.0 others.1 in
    let behind = join_with_byte 10 (next ∷ texts) in
    subst (Read (text ++ 10 ∷ behind)) (ok_same (key.0 ∷ others.0) keys others.2)
    ((is.line, behind, line_and_rest is.line text behind is.whole, (is.read).spells, rest.0), ((is.read).valid, rest.1))

pub record SnapshotRead (text : List ℕ) (keys : List Weighted) : Type 0 where
  pub spells : SpellsKeys keys text
  pub valid : AreSnapshotKeys keys

pub snapshot_read : (text : List ℕ) (keys : List Weighted) → snapshot_in text ≡ Ok keys → SnapshotRead text keys
unfolding snapshot_in
snapshot_read text keys e =
    let found = step_ok (keys_in (pieces 10 text)) _ keys e in
    let good =
    where_some (are_snapshot_keys found.0) found.0 keys (found_ok (snapshot_of found.0) BadArgs keys found.2) in
    let read = subst (λ text. Read text found.0) (join_with_byte-slice_split 10 text)
    (lines_read (pieces 10 text) found.0 found.1) in
    subst (SnapshotRead text) good.1 (record { spells = read.0; valid = record { each = read.1; ordered = good.0 } })
