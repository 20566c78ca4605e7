-- A line of an interest change or a snapshot that was read is spelt as the relation says.
use Rattle.std.proofs.Common.{◌≡◌, ℕ, ◌≤◌, List, [], ◌∷◌, refl, ap, ◌∙◌, subst, Option, Some, None, Ok}
use Rattle.std.specs.Prelude.{codes}
use Rattle.std.specs.Option.{ok_or, option_to_list}
use Rattle.subj.specs.declared.limits.TheConstants.{MAX_WEIGHT, MAX_SNAPSHOT}
use Rattle.subj.specs.declared.keys.Key.{Key}
use Rattle.route_values.specs.Snapshots.{Weighted, weighted_key}
use Rattle.route_values.specs.Valid.{IsKey, IsWeighted}
use Rattle.route_frames.specs.declared.faults.RouteFault.TheVariants.{BadArgs}
use Rattle.route_frames.specs.declared.line_reading.TheConstants.{WEIGHT_DIGITS, SIZE_DIGITS}
use Rattle.route_frames.specs.declared.reading.LineBody.TheVariants as said
use Rattle.route_frames.specs.declared.reading.NumberedLine.{NumberedLine}
use Rattle.route_frames.specs.CommonFields.{CommonFields, digits_of, within, numbers_of, numbers_in_range, name_of}
use Rattle.route_frames.specs.Arguments.{PlusFields, MinusFields, plus_fields, minus_fields, snapshot_field}
use Rattle.route_frames.specs.NumberedLines.{account_of, key_of, weight_digits, plus_line, minus_line, snapshot_line}
use Rattle.route_frames.specs.Spelling.{SpellsWeight, SpellsPlus, SpellsSize}
use Rattle.route_frames.proofs.Spelt.Chains.{step_ok, ok_same, found_ok, some_same}
use Rattle.route_frames.proofs.Spelt.Fields.{digits_ok, within_ok, KeyIs, key_ok, account_ok, weighted_ok, CommonIs, common_is}
use Rattle.subj.specs.Names.{node_name_fault}

-- ---- RS+

abbrev AreBehind : Option (List ℕ) → Option (List ℕ) → List (List ℕ) → Type 0
AreBehind None None behind = behind ≡ []
AreBehind None (Some weight) behind = ⊥
AreBehind (Some queue) None behind = ⊥
AreBehind (Some queue) (Some weight) behind = behind ≡ queue ∷ weight ∷ []

record PlusShape (fields : List (List ℕ)) (found : PlusFields) : Type 0 where
  pub behind : List (List ℕ)
  pub whole : fields ≡ found.account ∷ found.pattern ∷ behind
  pub are : AreBehind found.queue found.weight behind

plus_shape : (fields : List (List ℕ)) (found : PlusFields) → plus_fields fields ≡ Some found → PlusShape fields found
plus_shape [] found e = absurd (cc)
plus_shape (account ∷ []) found e = absurd (cc)
plus_shape (account ∷ pattern ∷ []) found e =
    subst (PlusShape (account ∷ pattern ∷ []))
    (some_same (record { account = account; pattern = pattern; queue = None; weight = None }) found e)
    (record { behind = []; whole = refl; are = refl })
plus_shape (account ∷ pattern ∷ queue ∷ []) found e = absurd (cc)
plus_shape (account ∷ pattern ∷ queue ∷ weight ∷ []) found e =
    subst (PlusShape (account ∷ pattern ∷ queue ∷ weight ∷ []))
    (some_same (record { account = account; pattern = pattern; queue = Some queue; weight = Some weight }) found e)
    (record { behind = queue ∷ weight ∷ []; whole = refl; are = refl })
plus_shape (account ∷ pattern ∷ queue ∷ weight ∷ other ∷ others) found e = absurd (cc)

weight_spelt : (queue weight : Option (List ℕ)) (behind : List (List ℕ)) (n : ℕ)
    → AreBehind queue weight behind
    → weight_digits weight ≡ Ok n
    → SpellsWeight queue n behind
weight_spelt None None behind n are e = are
weight_spelt None (Some weight) behind n are e = absurd are
weight_spelt (Some queue) None behind n are e = absurd are
weight_spelt (Some queue) (Some weight) behind n are e = (weight, are, digits_ok WEIGHT_DIGITS weight n e)

plus_spelt : (fields behind : List (List ℕ)) (account pattern : List ℕ) (queue weight : Option (List ℕ)) (key : Key)
    (n m : ℕ)
    → fields ≡ account ∷ pattern ∷ behind
    → AreBehind queue weight behind
    → account ≡ codes "$G"
    → KeyIs pattern queue key
    → weight_digits weight ≡ Ok n
    → n ≡ m
    → SpellsPlus (key, m) fields
plus_spelt fields behind account pattern queue weight key n m whole are global is spelt same =
    let front : account ∷ pattern ∷ behind ≡ codes "$G" ∷ key.pattern ∷ behind =
    ap (λ a. a ∷ pattern ∷ behind) global ∙ ap (λ p. codes "$G" ∷ p ∷ behind) is.pattern_same in (
      behind,
      whole ∙ front,
      subst (λ q. SpellsWeight q m behind) is.queue_same
          (subst (λ n. SpellsWeight queue n behind) same (weight_spelt queue weight behind n are spelt)),
    )

pub record PlusRead (common : CommonFields) (fields : List (List ℕ)) (line : NumberedLine) : Type 0 where
  pub says_common : CommonIs common 1 line
  pub weighted : Weighted
  pub is_body : line.body ≡ said.Plus weighted
  pub spells : SpellsPlus weighted fields
  pub valid : IsWeighted weighted

pub plus_read : (common : CommonFields) (fields : List (List ℕ)) (line : NumberedLine)
    → plus_line common fields ≡ Ok line
    → PlusRead common fields line
unfolding plus_line
plus_read common fields line e =
    let found = step_ok (ok_or (plus_fields fields) BadArgs) _ line e in
    let digits = step_ok (numbers_of common) _ line found.2 in
    let spelt = step_ok (weight_digits (found.0).weight) _ line digits.2 in
    let numbers = step_ok (numbers_in_range 1 digits.0) _ line spelt.2 in
    let weight = step_ok (within 1 MAX_WEIGHT spelt.0) _ line numbers.2 in
    let account = step_ok (account_of (found.0).account) _ line weight.2 in
    let from = step_ok (name_of node_name_fault common.from) _ line account.2 in
    let to = step_ok (name_of node_name_fault common.to) _ line from.2 in
    let key = step_ok (key_of (found.0).pattern (found.0).queue) _ line to.2 in
    let weighted = step_ok (ok_or (weighted_key key.0 weight.0) BadArgs) _ line key.2 in
    let same =
    ok_same (record { from = from.0; to = to.0; numbers = numbers.0; body = said.Plus weighted.0 }) line weighted.2 in
    let shape = plus_shape fields found.0 (found_ok (plus_fields fields) BadArgs found.0 found.1) in
    let key_is = key_ok (found.0).pattern (found.0).queue key.0 key.1 in
    let weighs = weighted_ok key.0 weight.0 weighted.0 weighted.1 in
    let in_range = within_ok 1 MAX_WEIGHT spelt.0 weight.0 weight.1 in
    subst (PlusRead common fields) same (record {
      says_common =
          common_is common 1 digits.0 numbers.0 from.0 to.0 (said.Plus weighted.0) digits.1 numbers.1 from.1 to.1;
      weighted = weighted.0;
      is_body = refl;
      spells =
          subst (λ weighted. SpellsPlus weighted fields) weighs.1
          (plus_spelt fields shape.behind (found.0).account (found.0).pattern (found.0).queue (found.0).weight key.0
          spelt.0 weight.0 shape.whole shape.are (account_ok (found.0).account account.0 account.1) key_is spelt.1
          in_range.same);
      valid = subst IsWeighted weighs.1 (record { key = key_is.valid; weight = weighs.0 });
    })

-- ---- RS-

minus_shape : (fields : List (List ℕ)) (found : MinusFields)
    → minus_fields fields ≡ Some found
    → fields ≡ found.account ∷ found.pattern ∷ option_to_list found.queue
minus_shape [] found e = absurd (cc)
minus_shape (account ∷ []) found e = absurd (cc)
minus_shape (account ∷ pattern ∷ []) found e =
    subst (λ found. account ∷ pattern ∷ [] ≡ found.account ∷ found.pattern ∷ option_to_list found.queue)
    (some_same (record { account = account; pattern = pattern; queue = None }) found e) refl
minus_shape (account ∷ pattern ∷ queue ∷ []) found e =
    subst (λ found. account ∷ pattern ∷ queue ∷ [] ≡ found.account ∷ found.pattern ∷ option_to_list found.queue)
    (some_same (record { account = account; pattern = pattern; queue = Some queue }) found e) refl
minus_shape (account ∷ pattern ∷ queue ∷ other ∷ others) found e = absurd (cc)

minus_spelt : (fields : List (List ℕ)) (account pattern : List ℕ) (queue : Option (List ℕ)) (key : Key)
    → fields ≡ account ∷ pattern ∷ option_to_list queue
    → account ≡ codes "$G"
    → KeyIs pattern queue key
    → fields ≡ codes "$G" ∷ key.pattern ∷ option_to_list key.queue
minus_spelt fields account pattern queue key whole global is =
    whole
    ∙ ap (λ a. a ∷ pattern ∷ option_to_list queue) global
    ∙ ap (λ p. codes "$G" ∷ p ∷ option_to_list queue) is.pattern_same
    ∙ ap (λ q. codes "$G" ∷ key.pattern ∷ option_to_list q) is.queue_same

pub record MinusRead (common : CommonFields) (fields : List (List ℕ)) (line : NumberedLine) : Type 0 where
  pub says_common : CommonIs common 1 line
  pub key : Key
  pub is_body : line.body ≡ said.Minus key
  pub spells : fields ≡ codes "$G" ∷ key.pattern ∷ option_to_list key.queue
  pub valid : IsKey key

pub minus_read : (common : CommonFields) (fields : List (List ℕ)) (line : NumberedLine)
    → minus_line common fields ≡ Ok line
    → MinusRead common fields line
unfolding minus_line
minus_read common fields line e =
    let found = step_ok (ok_or (minus_fields fields) BadArgs) _ line e in
    let digits = step_ok (numbers_of common) _ line found.2 in
    let numbers = step_ok (numbers_in_range 1 digits.0) _ line digits.2 in
    let account = step_ok (account_of (found.0).account) _ line numbers.2 in
    let from = step_ok (name_of node_name_fault common.from) _ line account.2 in
    let to = step_ok (name_of node_name_fault common.to) _ line from.2 in
    let key = step_ok (key_of (found.0).pattern (found.0).queue) _ line to.2 in
    let same = ok_same (record { from = from.0; to = to.0; numbers = numbers.0; body = said.Minus key.0 }) line key.2 in
    let shape = minus_shape fields found.0 (found_ok (minus_fields fields) BadArgs found.0 found.1) in
    let key_is = key_ok (found.0).pattern (found.0).queue key.0 key.1 in
    subst (MinusRead common fields) same (record {
      says_common = common_is common 1 digits.0 numbers.0 from.0 to.0 (said.Minus key.0) digits.1 numbers.1 from.1 to.1;
      key = key.0;
      is_body = refl;
      spells =
          minus_spelt fields (found.0).account (found.0).pattern (found.0).queue key.0 shape
          (account_ok (found.0).account account.0 account.1) key_is;
      valid = key_is.valid;
    })

-- ---- RSS

snapshot_shape : (fields : List (List ℕ)) (size : List ℕ) → snapshot_field fields ≡ Some size → fields ≡ size ∷ []
snapshot_shape [] size e = absurd (cc)
snapshot_shape (field ∷ []) size e = ap (λ f. f ∷ []) (some_same field size e)
snapshot_shape (field ∷ other ∷ others) size e = absurd (cc)

pub record SnapshotRead (common : CommonFields) (fields : List (List ℕ)) (line : NumberedLine) : Type 0 where
  pub says_common : CommonIs common 0 line
  pub size : ℕ
  pub is_body : line.body ≡ said.Snapshot size
  pub spells : SpellsSize [] size fields
  pub short : size ≤ MAX_SNAPSHOT

pub snapshot_read : (common : CommonFields) (fields : List (List ℕ)) (line : NumberedLine)
    → snapshot_line common fields ≡ Ok line
    → SnapshotRead common fields line
unfolding snapshot_line
snapshot_read common fields line e =
    let found = step_ok (ok_or (snapshot_field fields) BadArgs) _ line e in
    let digits = step_ok (numbers_of common) _ line found.2 in
    let spelt = step_ok (digits_of SIZE_DIGITS found.0) _ line digits.2 in
    let numbers = step_ok (numbers_in_range 0 digits.0) _ line spelt.2 in
    let size = step_ok (within 0 MAX_SNAPSHOT spelt.0) _ line numbers.2 in
    let from = step_ok (name_of node_name_fault common.from) _ line size.2 in
    let to = step_ok (name_of node_name_fault common.to) _ line from.2 in
    let same =
    ok_same (record { from = from.0; to = to.0; numbers = numbers.0; body = said.Snapshot size.0 }) line to.2 in
    let shape = snapshot_shape fields found.0 (found_ok (snapshot_field fields) BadArgs found.0 found.1) in
    let in_range = within_ok 0 MAX_SNAPSHOT spelt.0 size.0 size.1 in
    subst (SnapshotRead common fields) same (record {
      says_common =
          common_is common 0 digits.0 numbers.0 from.0 to.0 (said.Snapshot size.0) digits.1 numbers.1 from.1 to.1;
      size = size.0;
      is_body = refl;
      spells = (found.0, shape, digits_ok SIZE_DIGITS found.0 spelt.0 spelt.1 ∙ ap (λ n. Some n) in_range.same);
      short = in_range.high;
    })
