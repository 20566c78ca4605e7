-- The fields of a numbered frame that are spelt mean what they spell.
use Rattle.std.proofs.Common.{◌≡◌, ℕ, ◌≤◌, List, [], ◌∷◌, length, refl, ap, sym, ◌∙◌, arith, Option, Some, None, Ok, true, ◌&&◌, nat_eq}
use Rattle.std.specs.Prelude.{nat_le, nat_eq, codes}
use Rattle.std.specs.Option.{ok_or, option_to_list}
use Rattle.std.proofs.lemmas.Bool.Decides.{nat_tests}
use Rattle.subj.specs.declared.limits.TheConstants.{MAX_WEIGHT, MAX_SNAPSHOT, MAX_PAYLOAD, MAX_COUNTER}
use Rattle.subj.specs.declared.keys.Key.{Key}
use Rattle.subj.specs.Names.{node_name_fault, subject_fault}
use Rattle.subj.specs.Messages.{Content, body_of}
use Rattle.route_values.specs.Snapshots.{Weighted}
use Rattle.route_values.specs.Valid.{IsKey, IsWeighted, IsMessage, IsIncarnation}
use Rattle.route_frames.specs.declared.faults.RouteFault.TheVariants.{BadArgs}
use Rattle.route_frames.specs.declared.line_reading.TheConstants.{INCARNATION_DIGITS, NUMBER_DIGITS}
use Rattle.route_frames.specs.declared.line_reading.TheConstants.{WEIGHT_DIGITS, SIZE_DIGITS}
use Rattle.route_frames.specs.declared.reading.LineBody.{LineBody}
use Rattle.route_frames.specs.declared.reading.LineBody.TheVariants as said
use Rattle.route_frames.specs.declared.reading.NumberedLine.{NumberedLine}
use Rattle.route_frames.specs.CommonFields.{CommonFields, digits_of, numbers_of}
use Rattle.route_frames.specs.Meaning.{◌>>=◌}
use Rattle.route_frames.specs.Arguments.{MessageFields}
use Rattle.route_frames.specs.NumberedLines.{plus_line, minus_line, snapshot_line, header_digits, publication_line}
use Rattle.route_frames.specs.Spelling.{IsNumber, SpellsWeight, header_size}
use Rattle.route_frames.proofs.Meaning.Parts.{digits_spelt, numbers_spelt, within_again, in_range_again, key_again, weighted_again, name_again}
use Rattle.route_frames.proofs.Meaning.Messages.{fields_spelt, few_again, headers_again, reply_again, queues_again}

-- what the ends of a frame have to be
pub record AreEnds (from to : List ℕ) (inc to_inc number : ℕ) : Type 0 where
  pub sender : node_name_fault from ≡ None
  pub receiver : node_name_fault to ≡ None
  pub life : IsIncarnation inc
  pub other_life : IsIncarnation to_inc
  pub most : number ≤ MAX_COUNTER

abbrev pub line_spelt : List ℕ → List ℕ → ℕ → ℕ → ℕ → LineBody → NumberedLine
line_spelt from to inc to_inc number body = record {
  from = from;
  to = to;
  numbers = numbers_spelt inc to_inc number;
  body = body;
}

-- the digits of the common fields
pub record AreDigits (inc to_inc number : ℕ) : Type 0 where
  pub inc_digits : List ℕ
  pub to_inc_digits : List ℕ
  pub number_digits : List ℕ
  pub is_inc : IsNumber INCARNATION_DIGITS inc_digits inc
  pub is_to_inc : IsNumber INCARNATION_DIGITS to_inc_digits to_inc
  pub is_number : IsNumber NUMBER_DIGITS number_digits number

abbrev pub common_with : (from to : List ℕ) (inc to_inc number : ℕ) → AreDigits inc to_inc number → CommonFields
common_with from to inc to_inc number are = record {
  from = from;
  inc = are.inc_digits;
  to = to;
  to_inc = are.to_inc_digits;
  number = are.number_digits;
}

digits_mean : (most : ℕ) (digits : List ℕ) (n : ℕ) → IsNumber most digits n → digits_of most digits ≡ Ok n
digits_mean most digits n is = ap (λ found. ok_or found BadArgs) is

numbers_mean : (from to : List ℕ) (inc to_inc number : ℕ) (are : AreDigits inc to_inc number)
    → numbers_of (common_with from to inc to_inc number are) ≡ Ok (digits_spelt inc to_inc number)
unfolding numbers_of
numbers_mean from to inc to_inc number are =
    rw (
      digits_mean INCARNATION_DIGITS are.inc_digits inc are.is_inc,
      digits_mean INCARNATION_DIGITS are.to_inc_digits to_inc are.is_to_inc,
      digits_mean NUMBER_DIGITS are.number_digits number are.is_number,
    )
    refl

-- ---- RS+

pub plain_weight : (weight : ℕ) → nat_eq weight 1 ≡ true → weight ≡ 1
plain_weight weight is = grind (arith, nat_tests)

pub queue_weight : (weight : ℕ)
    → (nat_le 1 weight && nat_le weight MAX_WEIGHT) ≡ true
    → (1 ≤ weight) × (weight ≤ MAX_WEIGHT)
queue_weight weight is = grind (arith, nat_tests)

plus_by : (from to : List ℕ) (inc to_inc number : ℕ) (are : AreDigits inc to_inc number) (pattern : List ℕ)
    (queue : Option (List ℕ)) (weight : ℕ) (behind : List (List ℕ))
    → AreEnds from to inc to_inc number
    → 1 ≤ number
    → IsWeighted (record { pattern = pattern; queue = queue }, weight)
    → SpellsWeight queue weight behind
    → plus_line (common_with from to inc to_inc number are) (codes "$G" ∷ pattern ∷ behind)
    ≡ Ok (line_spelt from to inc to_inc number (said.Plus (record { pattern = pattern; queue = queue }, weight)))
unfolding plus_line
plus_by from to inc to_inc number are pattern None weight behind ends some is spelt =
    let one = plain_weight weight is.weight in
    rw (spelt, one)
    (rw (
      numbers_mean from to inc to_inc number are,
      in_range_again 1 inc to_inc number ends.life ends.other_life some ends.most,
      name_again node_name_fault from ends.sender,
      name_again node_name_fault to ends.receiver,
      key_again (record { pattern = pattern; queue = None }) is.key,
    )
    refl)
plus_by from to inc to_inc number are pattern (Some queue) weight behind ends some is spelt =
    let fits = queue_weight weight is.weight in
    rw spelt.1 (rw (
      numbers_mean from to inc to_inc number are,
      digits_mean WEIGHT_DIGITS spelt.0 weight spelt.2,
      in_range_again 1 inc to_inc number ends.life ends.other_life some ends.most,
      within_again 1 MAX_WEIGHT weight fits.0 fits.1,
      name_again node_name_fault from ends.sender,
      name_again node_name_fault to ends.receiver,
      key_again (record { pattern = pattern; queue = Some queue }) is.key,
      weighted_again (record { pattern = pattern; queue = Some queue }, weight) is.weight,
    )
    refl)

pub plus_means : (from to : List ℕ) (inc to_inc number : ℕ) (are : AreDigits inc to_inc number) (weighted : Weighted)
    (behind : List (List ℕ))
    → AreEnds from to inc to_inc number
    → 1 ≤ number
    → IsWeighted weighted
    → SpellsWeight weighted.0.queue weighted.1 behind
    → plus_line (common_with from to inc to_inc number are) (codes "$G" ∷ weighted.0.pattern ∷ behind)
    ≡ Ok (line_spelt from to inc to_inc number (said.Plus weighted))
plus_means from to inc to_inc number are weighted behind ends some is spelt =
    plus_by from to inc to_inc number are weighted.0.pattern weighted.0.queue weighted.1 behind ends some is spelt

-- ---- RS-

minus_by : (from to : List ℕ) (inc to_inc number : ℕ) (are : AreDigits inc to_inc number) (pattern : List ℕ)
    (queue : Option (List ℕ))
    → AreEnds from to inc to_inc number
    → 1 ≤ number
    → IsKey (record { pattern = pattern; queue = queue })
    → minus_line (common_with from to inc to_inc number are) (codes "$G" ∷ pattern ∷ option_to_list queue)
    ≡ Ok (line_spelt from to inc to_inc number (said.Minus (record { pattern = pattern; queue = queue })))
unfolding minus_line
minus_by from to inc to_inc number are pattern None ends some is =
    rw (
      numbers_mean from to inc to_inc number are,
      in_range_again 1 inc to_inc number ends.life ends.other_life some ends.most,
      name_again node_name_fault from ends.sender,
      name_again node_name_fault to ends.receiver,
      key_again (record { pattern = pattern; queue = None }) is,
    )
    refl
minus_by from to inc to_inc number are pattern (Some queue) ends some is =
    rw (
      numbers_mean from to inc to_inc number are,
      in_range_again 1 inc to_inc number ends.life ends.other_life some ends.most,
      name_again node_name_fault from ends.sender,
      name_again node_name_fault to ends.receiver,
      key_again (record { pattern = pattern; queue = Some queue }) is,
    )
    refl

pub minus_means : (from to : List ℕ) (inc to_inc number : ℕ) (are : AreDigits inc to_inc number) (key : Key)
    → AreEnds from to inc to_inc number
    → 1 ≤ number
    → IsKey key
    → minus_line (common_with from to inc to_inc number are) (codes "$G" ∷ key.pattern ∷ option_to_list key.queue)
    ≡ Ok (line_spelt from to inc to_inc number (said.Minus key))
minus_means from to inc to_inc number are key ends some is =
    minus_by from to inc to_inc number are key.pattern key.queue ends some is

-- ---- RSS

pub snapshot_means : (from to : List ℕ) (inc to_inc number : ℕ) (are : AreDigits inc to_inc number) (digits : List ℕ)
    (size : ℕ)
    → AreEnds from to inc to_inc number
    → size ≤ MAX_SNAPSHOT
    → IsNumber SIZE_DIGITS digits size
    → snapshot_line (common_with from to inc to_inc number are) (digits ∷ [])
    ≡ Ok (line_spelt from to inc to_inc number (said.Snapshot size))
unfolding snapshot_line
snapshot_means from to inc to_inc number are digits size ends short spelt =
    rw (
      numbers_mean from to inc to_inc number are,
      digits_mean SIZE_DIGITS digits size spelt,
      in_range_again 0 inc to_inc number ends.life ends.other_life (omega arith) ends.most,
      within_again 0 MAX_SNAPSHOT size (omega arith) short,
      name_again node_name_fault from ends.sender,
      name_again node_name_fault to ends.receiver,
    )
    refl

-- ---- RMSG and RHMSG

-- the digits of the size of the header block, where there is one
abbrev pub HeadersAre : Option (List ℕ) → Option ℕ → Type 0
HeadersAre None headers = headers ≡ None
HeadersAre (Some digits) headers = (n : ℕ) × (headers ≡ Some n) × IsNumber SIZE_DIGITS digits n

headers_mean : (digits : Option (List ℕ)) (headers : Option ℕ)
    → HeadersAre digits headers
    → header_digits digits ≡ Ok headers
headers_mean None headers is = ap (λ headers. Ok headers) (sym is)
headers_mean (Some digits) headers is =
    ap (λ read. read >>= λ n. Ok (Some n)) (digits_mean SIZE_DIGITS digits is.0 is.2)
    ∙ ap (λ headers. Ok headers) (sym is.1)

pub publication_means : (from to : List ℕ) (inc to_inc number : ℕ) (are : AreDigits inc to_inc number)
    (found : Option MessageFields) (headers : Option (List ℕ)) (digits : List ℕ) (message : Content)
    (queues : List (List ℕ))
    → AreEnds from to inc to_inc number
    → 1 ≤ number
    → IsMessage message queues
    → found ≡ Some (fields_spelt (codes "$G") message.subject message.reply queues headers digits)
    → HeadersAre headers (header_size message)
    → IsNumber SIZE_DIGITS digits (length (body_of message))
    → publication_line (common_with from to inc to_inc number are) found
    ≡ Ok (line_spelt from to inc to_inc number
    (said.Msg message.subject message.reply queues (header_size message) (length (body_of message))))
unfolding publication_line
publication_means from to inc to_inc number are found headers digits message queues ends some is fields_are headers_are
    spelt =
    let size = length (body_of message) in
    rw (
      few_again found (fields_spelt (codes "$G") message.subject message.reply queues headers digits) fields_are
          is.ordered,
      numbers_mean from to inc to_inc number are,
      digits_mean SIZE_DIGITS digits size spelt,
      headers_mean headers (header_size message) headers_are,
      in_range_again 1 inc to_inc number ends.life ends.other_life some ends.most,
      within_again 0 MAX_PAYLOAD size (omega arith) is.body,
      headers_again message.headers message.payload is.headers,
      name_again node_name_fault from ends.sender,
      name_again node_name_fault to ends.receiver,
      name_again subject_fault message.subject is.subject,
      reply_again message.reply is.reply,
      queues_again queues is.names is.ordered,
    )
    refl
