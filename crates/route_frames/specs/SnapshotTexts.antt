-- What the text of a snapshot means (profile): lines, each ended by CR LF; in a line a pattern, or
-- a pattern, a queue name and a weight, with one space between them.
use Rattle.std.specs.Prelude.{ℕ, ◌-◌, List, [], ◌∷◌, length, take, drop, nat_eq, Option, Some, None, Ok, Err, if◌then◌else◌}
use Rattle.std.specs.Option.{ok_or}
use Rattle.std.specs.List.{slice_split}
use Rattle.std.specs.Str.{bytes_eq}
use Rattle.list_laws.specs.Lists.{is_empty}
use Rattle.route_values.specs.Snapshots.{Weighted, weighted_key, snapshot_of}
use Rattle.route_frames.specs.declared.faults.RouteFault.TheVariants.{BadArgs}
use Rattle.route_frames.specs.declared.line_reading.TheConstants.{WEIGHT_DIGITS}
use Rattle.route_frames.specs.Meaning.{Meaning, ◌>>=◌}
use Rattle.route_frames.specs.CommonFields.{digits_of}
use Rattle.route_frames.specs.NumberedLines.{key_of}

-- what stands between these bytes
abbrev pub pieces : ℕ → List ℕ → List (List ℕ)
pieces byte text = slice_split (λ b. nat_eq b byte) text

-- ---- a line, by what stands between its spaces

unfoldable pub plain_key : List ℕ → Meaning Weighted
plain_key pattern = do
  key ← key_of pattern None
  ok_or (weighted_key key 1) BadArgs

unfoldable pub queue_key : List ℕ → List ℕ → List ℕ → Meaning Weighted
queue_key pattern queue weight = do
  weight ← digits_of WEIGHT_DIGITS weight
  key ← key_of pattern (Some queue)
  ok_or (weighted_key key weight) BadArgs

abbrev pub weighted_of : List (List ℕ) → Meaning Weighted
weighted_of [] = Err BadArgs
weighted_of (pattern ∷ []) = plain_key pattern
weighted_of (pattern ∷ queue ∷ []) = Err BadArgs
weighted_of (pattern ∷ queue ∷ weight ∷ []) = queue_key pattern queue weight
weighted_of (pattern ∷ queue ∷ weight ∷ other ∷ others) = Err BadArgs

-- a line with the CR that ends it, and without
abbrev pub before_cr : List ℕ → Option (List ℕ)
before_cr text =
    if bytes_eq (drop (length text - 1) text) (13 ∷ []) then Some (take (length text - 1) text)
    else None

unfoldable pub key_line_of : List ℕ → Meaning Weighted
key_line_of text = do
  line ← ok_or (before_cr text) BadArgs
  weighted_of (pieces 32 line)

-- ---- the text, by what stands between its LFs: nothing stands behind the last

abbrev pub keys_in : List (List ℕ) → Meaning (List Weighted)
keys_in [] = Ok []
keys_in (last ∷ []) = if is_empty last then Ok [] else Err BadArgs
keys_in (text ∷ next ∷ texts) = do
  key ← key_line_of text
  others ← keys_in (next ∷ texts)
  Ok (key ∷ others)

-- each key once, in order
unfoldable pub snapshot_in : List ℕ → Meaning (List Weighted)
snapshot_in text = do
  keys ← keys_in (pieces 10 text)
  ok_or (snapshot_of keys) BadArgs
