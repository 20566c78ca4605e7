-- What the fields of a line that was read say.
use Rattle.std.proofs.Common.{◌≡◌, ℕ, ◌≤◌, Bool, true, false, ◌&&◌, ◌||◌, cond, List, refl, ap, sym, ◌∙◌, subst, arith, Option, Some, None, Ok}
use Rattle.std.specs.Prelude.{nat_lt, nat_le, nat_eq, codes, is_some}
use Rattle.std.specs.Option.{ok_or}
use Rattle.std.specs.Str.{bytes_eq}
use Rattle.std.proofs.lemmas.Bool.Decides.{nat_tests}
use Rattle.std.proofs.lemmas.Slice.Eq.{bytes_eq-Decides}
use Rattle.line_fields.specs.Fields.{number_of}
use Rattle.subj.specs.declared.limits.TheConstants.{MAX_INCARNATION, MAX_COUNTER}
use Rattle.subj.specs.declared.keys.Key.{Key}
use Rattle.subj.specs.Names.{node_name_fault, pattern_fault, subject_fault, queue_name_fault}
use Rattle.subj.specs.Numbers.{incarnation_of}
use Rattle.route_values.specs.Snapshots.{Weighted, is_weight, weighted_key}
use Rattle.route_values.specs.Valid.{IsQueue, IsReply, IsKey, IsIncarnation}
use Rattle.route_frames.specs.declared.faults.RouteFault.TheVariants.{BadArgs, BadNumber}
use Rattle.route_frames.specs.declared.line_reading.TheConstants.{INCARNATION_DIGITS, NUMBER_DIGITS}
use Rattle.route_frames.specs.declared.line_reading.Digits.{Digits}
use Rattle.route_frames.specs.declared.line_reading.Numbers.{Numbers}
use Rattle.route_frames.specs.declared.reading.LineBody.{LineBody}
use Rattle.route_frames.specs.declared.reading.NumberedLine.{NumberedLine}
use Rattle.route_frames.specs.CommonFields.{CommonFields, digits_of, within, numbers_of, numbers_in_range, name_of}
use Rattle.route_frames.specs.NumberedLines.{account_of, optional, key_of}
use Rattle.route_frames.specs.Spelling.{IsNumber}
use Rattle.route_frames.proofs.Spelt.Chains.{step_ok, ok_same, found_ok, unless_ok, where_ok, where_some, no_fault}
use Rattle.subj.specs.declared.faults.NameFault.{NameFault}

-- ---- single fields

pub digits_ok : (most : ℕ) (field : List ℕ) (n : ℕ) → digits_of most field ≡ Ok n → IsNumber most field n
digits_ok most field n e = found_ok (number_of most field) BadArgs n e

range_of : (least most n : ℕ) → (nat_le least n && nat_le n most) ≡ true → (least ≤ n) × (n ≤ most)
range_of least most n e = grind (arith, nat_tests)

pub record Within (least most n m : ℕ) : Type 0 where
  pub same : n ≡ m
  pub low : least ≤ m
  pub high : m ≤ most

pub within_ok : (least most n m : ℕ) → within least most n ≡ Ok m → Within least most n m
within_ok least most n m e =
    let good = where_ok (nat_le least n && nat_le n most) BadNumber n m e in
    let range = range_of least most n good.0 in
    subst (λ m. Within least most n m) good.1 (record { same = refl; low = range.0; high = range.1 })

inc_range : (n : ℕ) → (nat_eq n 0 || nat_lt MAX_INCARNATION n) ≡ false → IsIncarnation n
inc_range n e =
    let both : (1 ≤ n) × (n ≤ MAX_INCARNATION) = grind (arith, nat_tests) in record { least = both.0; most = both.1 }

inc_by : (bad : Bool) (n m : ℕ) → cond bad None (Some n) ≡ Some m → (bad ≡ false) × (n ≡ m)
inc_by true n m e = absurd (cc)
inc_by false n m e = (refl, cc)

pub incarnation_ok : (n m : ℕ) → ok_or (incarnation_of n) BadNumber ≡ Ok m → (n ≡ m) × IsIncarnation m
incarnation_ok n m e =
    let good = inc_by (nat_eq n 0 || nat_lt MAX_INCARNATION n) n m (found_ok (incarnation_of n) BadNumber m e) in
    (good.1, subst IsIncarnation good.1 (inc_range n good.0))

pub name_ok : (fault : List ℕ → Option NameFault) (field name : List ℕ)
    → name_of fault field ≡ Ok name
    → (field ≡ name) × (fault name ≡ None)
name_ok fault field name e =
    let good = unless_ok (is_some (fault field)) BadArgs field name e in
    (good.1, ap fault (sym good.1) ∙ no_fault (fault field) good.0)

pub optional_queue_ok : (field name : Option (List ℕ))
    → optional (name_of queue_name_fault) field ≡ Ok name
    → (field ≡ name) × IsQueue name
optional_queue_ok None name e = let same = ok_same None name e in (same, subst IsQueue same tt)
optional_queue_ok (Some field) name e =
    let step = step_ok (name_of queue_name_fault field) _ name e in
    let good = name_ok queue_name_fault field step.0 step.1 in
    let same = ap (λ f. Some f) good.0 ∙ ok_same (Some step.0) name step.2 in
    (same, subst IsQueue (ok_same (Some step.0) name step.2) good.1)

pub optional_subject_ok : (field name : Option (List ℕ))
    → optional (name_of subject_fault) field ≡ Ok name
    → (field ≡ name) × IsReply name
optional_subject_ok None name e = let same = ok_same None name e in (same, subst IsReply same tt)
optional_subject_ok (Some field) name e =
    let step = step_ok (name_of subject_fault field) _ name e in
    let good = name_ok subject_fault field step.0 step.1 in
    let same = ap (λ f. Some f) good.0 ∙ ok_same (Some step.0) name step.2 in
    (same, subst IsReply (ok_same (Some step.0) name step.2) good.1)

pub record KeyIs (pattern : List ℕ) (queue : Option (List ℕ)) (key : Key) : Type 0 where
  pub pattern_same : pattern ≡ key.pattern
  pub queue_same : queue ≡ key.queue
  pub valid : IsKey key

pub key_ok : (pattern : List ℕ) (queue : Option (List ℕ)) (key : Key)
    → key_of pattern queue ≡ Ok key
    → KeyIs pattern queue key
unfolding key_of
key_ok pattern queue key e =
    let one = step_ok (name_of pattern_fault pattern) _ key e in
    let two = step_ok (optional (name_of queue_name_fault) queue) _ key one.2 in
    let is = name_ok pattern_fault pattern one.0 one.1 in
    let is_too = optional_queue_ok queue two.0 two.1 in
    let same = ok_same (record { pattern = one.0; queue = two.0 }) key two.2 in
    subst (λ key. KeyIs pattern queue key) same
    (record { pattern_same = is.0; queue_same = is_too.0; valid = record { pattern = is.1; queue = is_too.1 } })

pub account_ok : (field : List ℕ) (account : Unit {0}) → account_of field ≡ Ok account → field ≡ codes "$G"
account_ok field account e =
    (bytes_eq-Decides field (codes "$G")).0 (where_ok (bytes_eq field (codes "$G")) BadArgs tt account e).0

pub weighted_ok : (key : Key) (weight : ℕ) (weighted : Weighted)
    → ok_or (weighted_key key weight) BadArgs ≡ Ok weighted
    → (is_weight key weight ≡ true) × ((key, weight) ≡ weighted)
weighted_ok key weight weighted e =
    where_some (is_weight key weight) (key, weight) weighted (found_ok (weighted_key key weight) BadArgs weighted e)

-- ---- the common fields

pub record DigitsAre (common : CommonFields) (digits : Digits) : Type 0 where
  pub inc : IsNumber INCARNATION_DIGITS common.inc digits.inc
  pub to_inc : IsNumber INCARNATION_DIGITS common.to_inc digits.to_inc
  pub number : IsNumber NUMBER_DIGITS common.number digits.number

digits_are : (common : CommonFields) (digits : Digits) → numbers_of common ≡ Ok digits → DigitsAre common digits
unfolding numbers_of
digits_are common digits e =
    let one = step_ok (digits_of INCARNATION_DIGITS common.inc) _ digits e in
    let two = step_ok (digits_of INCARNATION_DIGITS common.to_inc) _ digits one.2 in
    let three = step_ok (digits_of NUMBER_DIGITS common.number) _ digits two.2 in
    let same = ok_same (record { inc = one.0; to_inc = two.0; number = three.0 }) digits three.2 in
    subst (DigitsAre common) same (record {
      inc = digits_ok INCARNATION_DIGITS common.inc one.0 one.1;
      to_inc = digits_ok INCARNATION_DIGITS common.to_inc two.0 two.1;
      number = digits_ok NUMBER_DIGITS common.number three.0 three.1;
    })

pub record NumbersAre (least : ℕ) (digits : Digits) (numbers : Numbers) : Type 0 where
  pub inc_same : digits.inc ≡ numbers.inc
  pub to_inc_same : digits.to_inc ≡ numbers.to_inc
  pub number_same : digits.number ≡ numbers.number
  pub life : IsIncarnation numbers.inc
  pub other_life : IsIncarnation numbers.to_inc
  pub low : least ≤ numbers.number
  pub high : numbers.number ≤ MAX_COUNTER

numbers_are : (least : ℕ) (digits : Digits) (numbers : Numbers)
    → numbers_in_range least digits ≡ Ok numbers
    → NumbersAre least digits numbers
unfolding numbers_in_range
numbers_are least digits numbers e =
    let one = step_ok (ok_or (incarnation_of digits.inc) BadNumber) _ numbers e in
    let two = step_ok (ok_or (incarnation_of digits.to_inc) BadNumber) _ numbers one.2 in
    let three = step_ok (within least MAX_COUNTER digits.number) _ numbers two.2 in
    let inc = incarnation_ok digits.inc one.0 one.1 in
    let to_inc = incarnation_ok digits.to_inc two.0 two.1 in
    let number = within_ok least MAX_COUNTER digits.number three.0 three.1 in
    let same = ok_same (record { inc = one.0; to_inc = two.0; number = three.0 }) numbers three.2 in
    subst (NumbersAre least digits) same (record {
      inc_same = inc.0;
      to_inc_same = to_inc.0;
      number_same = number.same;
      life = inc.1;
      other_life = to_inc.1;
      low = number.low;
      high = number.high;
    })

-- what a line that was read says of the common fields
pub record CommonIs (common : CommonFields) (least : ℕ) (line : NumberedLine) : Type 0 where
  pub from : common.from ≡ line.from
  pub to : common.to ≡ line.to
  pub sender : node_name_fault line.from ≡ None
  pub receiver : node_name_fault line.to ≡ None
  pub is_inc : IsNumber INCARNATION_DIGITS common.inc line.numbers.inc
  pub is_to_inc : IsNumber INCARNATION_DIGITS common.to_inc line.numbers.to_inc
  pub is_number : IsNumber NUMBER_DIGITS common.number line.numbers.number
  pub life : IsIncarnation line.numbers.inc
  pub other_life : IsIncarnation line.numbers.to_inc
  pub low : least ≤ line.numbers.number
  pub high : line.numbers.number ≤ MAX_COUNTER

pub common_is : (common : CommonFields) (least : ℕ) (digits : Digits) (numbers : Numbers) (from to : List ℕ)
    (body : LineBody)
    → numbers_of common ≡ Ok digits
    → numbers_in_range least digits ≡ Ok numbers
    → name_of node_name_fault common.from ≡ Ok from
    → name_of node_name_fault common.to ≡ Ok to
    → CommonIs common least (record { from = from; to = to; numbers = numbers; body = body })
common_is common least digits numbers from to body spelt ranged sender receiver =
    let are = digits_are common digits spelt in
    let in_range = numbers_are least digits numbers ranged in
    let one = name_ok node_name_fault common.from from sender in
    let two = name_ok node_name_fault common.to to receiver in record {
      from = one.0;
      to = two.0;
      sender = one.1;
      receiver = two.1;
      is_inc = are.inc ∙ ap (λ n. Some n) in_range.inc_same;
      is_to_inc = are.to_inc ∙ ap (λ n. Some n) in_range.to_inc_same;
      is_number = are.number ∙ ap (λ n. Some n) in_range.number_same;
      life = in_range.life;
      other_life = in_range.other_life;
      low = in_range.low;
      high = in_range.high;
    }
