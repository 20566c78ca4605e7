-- The lines of numbered frames are refused just for their causes.
use Rattle.std.proofs.Common.{◌≡◌, ℕ, Bool, true, false, not, ◌&&◌, ◌||◌, cond, List, [], ◌∷◌, ◌++◌, refl, ap, ◌∙◌, arith, Option, Some, None, Ok, Err}
use Rattle.std.specs.Prelude.{nat_le, nat_lt, nat_eq, length, is_some, unwrap_or, codes}
use Rattle.std.specs.Option.{ok_or}
use Rattle.std.specs.Str.{bytes_eq}
use Rattle.std.proofs.lemmas.Bool.Decides.{nat_tests}
use Rattle.subj.specs.declared.limits.TheConstants.{MAX_INCARNATION, MAX_COUNTER, MAX_QUEUE_NAMES, MAX_WEIGHT, MAX_SNAPSHOT, MAX_PAYLOAD}
use Rattle.subj.specs.Messages.{header_start}
use Rattle.subj.specs.Names.{node_name_fault, pattern_fault, subject_fault, queue_name_fault}
use Rattle.subj.specs.Numbers.{incarnation_of}
use Rattle.subj.specs.QueueNames.{queue_names_of}
use Rattle.line_fields.specs.Fields.{number_of}
use Rattle.route_values.specs.Snapshots.{weighted_key}
use Rattle.route_frames.specs.declared.faults.RouteFault.{RouteFault}
use Rattle.route_frames.specs.declared.faults.RouteFault.TheVariants.{BadArgs, BadNumber, TooManyQueues}
use Rattle.route_frames.specs.declared.line_reading.TheConstants.{INCARNATION_DIGITS, NUMBER_DIGITS}
use Rattle.route_frames.specs.declared.line_reading.TheConstants.{WEIGHT_DIGITS, SIZE_DIGITS}
use Rattle.route_frames.specs.declared.line_reading.Numbers.{Numbers}
use Rattle.route_frames.specs.declared.line_reading.Digits.{Digits}
use Rattle.route_frames.specs.declared.reading.LineBody.TheVariants.{Plus}
use Rattle.route_frames.specs.declared.reading.NumberedLine.{NumberedLine}
use Rattle.route_frames.specs.Meaning.{Meaning, ◌>>=◌}
use Rattle.route_frames.specs.CommonFields.{CommonFields, within, numbers_of, numbers_in_range, name_of}
use Rattle.route_frames.specs.Arguments.{PlusFields, MessageFields, plus_fields, minus_fields, snapshot_field}
use Rattle.route_frames.specs.NumberedLines.{account_of, optional, key_of, are_names, queue_names_in, weight_digits, plus_line, minus_line, snapshot_line, few_names, few_fields, header_digits, headers_within, publication_line}
use Rattle.route_frames.specs.Causes.{NumberField, numbers_cause, common_numbers, weight_numbers, header_numbers, plus_cause, minus_cause, snapshot_cause, message_cause}
use Rattle.route_frames.proofs.Meaning.Parts.{digits_spelt, numbers_spelt}
use Rattle.route_frames.proofs.Spelt.Messages.{message_behind}
use Rattle.route_frames.proofs.Refused.Agreement.{Agrees, agrees_then, ok_or_agrees, refused_where, refused_unless, fields_agree}
use Rattle.subj.specs.declared.faults.NameFault.{NameFault}

-- ---- names

pub name_agrees : (fault : List ℕ → Option NameFault) (field : List ℕ) → Agrees None (name_of fault field)
name_agrees fault field = refused_where (is_some (fault field)) field

optional_agrees : (read : List ℕ → Meaning (List ℕ))
    → ((field : List ℕ) → Agrees None (read field))
    → (field : Option (List ℕ))
    → Agrees None (optional read field)
optional_agrees read each None = tt
optional_agrees read each (Some field) = agrees_then None (read field) _ (each field) (λ value. tt)

pub key_agrees : (pattern : List ℕ) (queue : Option (List ℕ)) → Agrees None (key_of pattern queue)
unfolding key_of
key_agrees pattern queue =
    agrees_then None (name_of pattern_fault pattern) _ (name_agrees pattern_fault pattern) (λ pattern.
    agrees_then None (optional (name_of queue_name_fault) queue) _
    (optional_agrees (name_of queue_name_fault) (name_agrees queue_name_fault) queue) (λ queue. tt))

-- ---- numbers: all digits before all ranges

abbrev pub is_within : ℕ → ℕ → ℕ → Bool
is_within least most n = nat_le least n && nat_le n most

one_to_most : (n : ℕ) (zero above some most : Bool)
    → nat_eq n 0 ≡ zero
    → nat_lt MAX_INCARNATION n ≡ above
    → nat_le 1 n ≡ some
    → nat_le n MAX_INCARNATION ≡ most
    → (zero || above) ≡ not (some && most)
one_to_most n zero above some most z a s m = grind (arith, nat_tests)

from_not : (n : ℕ) (low : Bool) → ok_or (cond (not low) None (Some n)) BadNumber ≡ cond low (Ok n) (Err BadNumber)
from_not n true = refl
from_not n false = refl

-- the test of an incarnation is its range
pub incarnation_within : (n : ℕ) → ok_or (incarnation_of n) BadNumber ≡ within 1 MAX_INCARNATION n
incarnation_within n =
    ap (λ b. ok_or (cond b None (Some n)) BadNumber) (one_to_most n _ _ _ _ refl refl refl refl)
    ∙ from_not n (is_within 1 MAX_INCARNATION n)

-- a range, by its test; then those of a frame's numbers
abbrev gate : {A : Type 0} → Bool → A → Meaning A
gate test x = cond test (Ok x) (Err BadNumber)

abbrev gates : Bool → Bool → Bool → ℕ → ℕ → ℕ → Meaning Numbers
gates a b c inc to_inc number =
    gate a inc >>= λ inc. gate b to_inc >>= λ to_inc. gate c number >>= λ number. Ok (numbers_spelt inc to_inc number)

three_gates : {B : Type 0} (a b c : Bool) (inc to_inc number : ℕ) (next : Numbers → Meaning B)
    → Agrees None (next (numbers_spelt inc to_inc number))
    → Agrees (cond (not (a && (b && (c && true)))) (Some BadNumber) None) (gates a b c inc to_inc number >>= next)
three_gates false b c inc to_inc number next others = refl
three_gates true false c inc to_inc number next others = refl
three_gates true true false inc to_inc number next others = refl
three_gates true true true inc to_inc number next others = others

four_gates : {B : Type 0} (a b c d : Bool) (inc to_inc number more : ℕ) (next : Numbers → ℕ → Meaning B)
    → Agrees None (next (numbers_spelt inc to_inc number) more)
    → Agrees (cond (not (a && (b && (c && (d && true))))) (Some BadNumber) None)
    (gates a b c inc to_inc number >>= λ numbers. gate d more >>= λ more. next numbers more)
four_gates false b c d inc to_inc number more next others = refl
four_gates true false c d inc to_inc number more next others = refl
four_gates true true false d inc to_inc number more next others = refl
four_gates true true true false inc to_inc number more next others = refl
four_gates true true true true inc to_inc number more next others = others

five_gates : {B : Type 0} (a b c d e : Bool) (inc to_inc number more last : ℕ) (next : Numbers → ℕ → ℕ → Meaning B)
    → Agrees None (next (numbers_spelt inc to_inc number) more last)
    → Agrees (cond (not (a && (b && (c && (d && (e && true)))))) (Some BadNumber) None)
    (gates a b c inc to_inc number
    >>= λ numbers. gate d more >>= λ more. gate e last >>= λ last. next numbers more last)
five_gates false b c d e inc to_inc number more last next others = refl
five_gates true false c d e inc to_inc number more last next others = refl
five_gates true true false d e inc to_inc number more last next others = refl
five_gates true true true false e inc to_inc number more last next others = refl
five_gates true true true true false inc to_inc number more last next others = refl
five_gates true true true true true inc to_inc number more last next others = others

-- the numbers of a line with three of them, and with one more, and with two more
abbrev may_be : ℕ → ℕ → Option ℕ → NumberField
may_be least most value = record { value = value; least = least; most = most }

abbrev all_digits : Option ℕ → Option ℕ → Option ℕ → Meaning Digits
all_digits inc to_inc number =
    ok_or inc BadArgs
    >>= λ inc. ok_or to_inc BadArgs >>= λ to_inc. ok_or number BadArgs >>= λ number. Ok (digits_spelt inc to_inc number)

in_range_by : (least : ℕ) (digits : Digits)
    → numbers_in_range least digits
    ≡ gates (is_within 1 MAX_INCARNATION digits.inc) (is_within 1 MAX_INCARNATION digits.to_inc)
    (is_within least MAX_COUNTER digits.number) digits.inc digits.to_inc digits.number
unfolding numbers_in_range
in_range_by least digits = rw (incarnation_within digits.inc, incarnation_within digits.to_inc) refl

three_agree : {B : Type 0} (least : ℕ) (inc to_inc number : Option ℕ) (next : Numbers → Meaning B)
    → ((numbers : Numbers) → Agrees None (next numbers))
    → Agrees
    (numbers_cause
    (may_be 1 MAX_INCARNATION inc ∷ may_be 1 MAX_INCARNATION to_inc ∷ may_be least MAX_COUNTER number ∷ []))
    (all_digits inc to_inc number >>= λ digits. numbers_in_range least digits >>= next)
three_agree least None to_inc number next others = refl
three_agree least (Some inc) None number next others = refl
three_agree least (Some inc) (Some to_inc) None next others = refl
three_agree least (Some inc) (Some to_inc) (Some number) next others =
    rw (in_range_by least (digits_spelt inc to_inc number))
    (three_gates (is_within 1 MAX_INCARNATION inc) (is_within 1 MAX_INCARNATION to_inc)
    (is_within least MAX_COUNTER number) inc to_inc number next (others (numbers_spelt inc to_inc number)))

four_agree : {B : Type 0} (least low high : ℕ) (inc to_inc number more : Option ℕ) (next : Numbers → ℕ → Meaning B)
    → ((numbers : Numbers) (more : ℕ) → Agrees None (next numbers more))
    → Agrees
    (numbers_cause (may_be 1 MAX_INCARNATION inc ∷ may_be 1 MAX_INCARNATION to_inc ∷ may_be least MAX_COUNTER number
    ∷ may_be low high more ∷ []))
    (all_digits inc to_inc number >>= λ digits.
    ok_or more BadArgs
    >>= λ more. numbers_in_range least digits >>= λ numbers. within low high more >>= λ more. next numbers more)
four_agree least low high None to_inc number more next others = refl
four_agree least low high (Some inc) None number more next others = refl
four_agree least low high (Some inc) (Some to_inc) None more next others = refl
four_agree least low high (Some inc) (Some to_inc) (Some number) None next others = refl
four_agree least low high (Some inc) (Some to_inc) (Some number) (Some more) next others =
    rw (in_range_by least (digits_spelt inc to_inc number))
    (four_gates (is_within 1 MAX_INCARNATION inc) (is_within 1 MAX_INCARNATION to_inc)
    (is_within least MAX_COUNTER number) (is_within low high more) inc to_inc number more next
    (others (numbers_spelt inc to_inc number) more))

-- a range that ends with a number that is in its own
gate_then : {B : Type 0} (test : Bool) (bottom more last : ℕ) (next : ℕ → ℕ → Meaning B)
    → (gate test more >>= λ more. within bottom more last >>= λ last. next more last)
    ≡ (gate test more >>= λ n. gate (is_within bottom more last) last >>= λ last. next n last)
gate_then true bottom more last next = refl
gate_then false bottom more last next = refl

last_in_range : {B : Type 0} (low high bottom more last : ℕ) (before : Meaning Numbers)
    (next : Numbers → ℕ → ℕ → Meaning B)
    → (before
    >>= λ numbers. within low high more >>= λ more. within bottom more last >>= λ last. next numbers more last)
    ≡ (before >>= λ numbers.
    gate (is_within low high more) more >>= λ n. gate (is_within bottom more last) last >>= λ last. next numbers n last)
last_in_range low high bottom more last (Ok numbers) next =
    gate_then (is_within low high more) bottom more last (next numbers)
last_in_range low high bottom more last (Err fault) next = refl

five_in_range : {B : Type 0} (least low high bottom inc to_inc number more last : ℕ)
    (next : Numbers → ℕ → ℕ → Meaning B)
    → Agrees None (next (numbers_spelt inc to_inc number) more last)
    → Agrees
    (cond
    (not (is_within 1 MAX_INCARNATION inc
    && (is_within 1 MAX_INCARNATION to_inc
    && (is_within least MAX_COUNTER number && (is_within low high more && (is_within bottom more last && true))))))
    (Some BadNumber) None)
    (gates (is_within 1 MAX_INCARNATION inc) (is_within 1 MAX_INCARNATION to_inc) (is_within least MAX_COUNTER number)
    inc to_inc number
    >>= λ numbers. within low high more >>= λ more. within bottom more last >>= λ last. next numbers more last)
five_in_range least low high bottom inc to_inc number more last next others =
    rw
    (last_in_range low high bottom more last
    (gates (is_within 1 MAX_INCARNATION inc) (is_within 1 MAX_INCARNATION to_inc) (is_within least MAX_COUNTER number)
    inc to_inc number)
    next)
    (five_gates (is_within 1 MAX_INCARNATION inc) (is_within 1 MAX_INCARNATION to_inc)
    (is_within least MAX_COUNTER number) (is_within low high more) (is_within bottom more last) inc to_inc number more
    last next others)

-- the last is at most the one before it
five_agree : {B : Type 0} (least low high bottom : ℕ) (inc to_inc number more last : Option ℕ)
    (next : Numbers → ℕ → ℕ → Meaning B)
    → ((numbers : Numbers) (more last : ℕ) → Agrees None (next numbers more last))
    → Agrees
    (numbers_cause (may_be 1 MAX_INCARNATION inc ∷ may_be 1 MAX_INCARNATION to_inc ∷ may_be least MAX_COUNTER number
    ∷ may_be low high more ∷ may_be bottom (unwrap_or more 0) last ∷ []))
    (all_digits inc to_inc number >>= λ digits.
    ok_or more BadArgs
    >>= λ more.
    ok_or last BadArgs
    >>= λ last.
    numbers_in_range least digits
    >>= λ numbers. within low high more >>= λ more. within bottom more last >>= λ last. next numbers more last)
five_agree least low high bottom None to_inc number more last next others = refl
five_agree least low high bottom (Some inc) None number more last next others = refl
five_agree least low high bottom (Some inc) (Some to_inc) None more last next others = refl
five_agree least low high bottom (Some inc) (Some to_inc) (Some number) None last next others = refl
five_agree least low high bottom (Some inc) (Some to_inc) (Some number) (Some more) None next others = refl
five_agree least low high bottom (Some inc) (Some to_inc) (Some number) (Some more) (Some last) next others =
    rw (in_range_by least (digits_spelt inc to_inc number))
    (five_in_range least low high bottom inc to_inc number more last next
    (others (numbers_spelt inc to_inc number) more last))

-- ---- what stands behind the numbers

abbrev inc_of : CommonFields → Option ℕ
inc_of common = number_of INCARNATION_DIGITS common.inc

abbrev to_inc_of : CommonFields → Option ℕ
to_inc_of common = number_of INCARNATION_DIGITS common.to_inc

abbrev frame_number_of : CommonFields → Option ℕ
frame_number_of common = number_of NUMBER_DIGITS common.number

ends_agree : {B : Type 0} (common : CommonFields) (next : List ℕ → List ℕ → Meaning B)
    → ((from to : List ℕ) → Agrees None (next from to))
    → Agrees None
    (name_of node_name_fault common.from >>= λ from. name_of node_name_fault common.to >>= λ to. next from to)
ends_agree common next others =
    agrees_then None (name_of node_name_fault common.from) _ (name_agrees node_name_fault common.from) (λ from.
    agrees_then None (name_of node_name_fault common.to) _ (name_agrees node_name_fault common.to)
    (λ to. others from to))

account_agrees : (field : List ℕ) → Agrees None (account_of field)
account_agrees field = refused_unless (bytes_eq field (codes "$G")) tt

-- ---- RS+

abbrev weighs : List ℕ → List ℕ → Numbers → List ℕ → Option (List ℕ) → ℕ → Meaning NumberedLine
weighs from to numbers pattern queue weight =
    key_of pattern queue
    >>= λ key.
    ok_or (weighted_key key weight) BadArgs
    >>= λ weighted. Ok (record { from = from; to = to; numbers = numbers; body = Plus weighted })

weighs_agrees : (from to : List ℕ) (numbers : Numbers) (pattern : List ℕ) (queue : Option (List ℕ)) (weight : ℕ)
    → Agrees None (weighs from to numbers pattern queue weight)
weighs_agrees from to numbers pattern queue weight =
    agrees_then None (key_of pattern queue) _ (key_agrees pattern queue) (λ key.
    agrees_then None (ok_or (weighted_key key weight) BadArgs) _ (ok_or_agrees (weighted_key key weight))
    (λ weighted. tt))

abbrev plus_behind : CommonFields → PlusFields → Numbers → ℕ → Meaning NumberedLine
plus_behind common fields numbers weight =
    account_of fields.account
    >>= λ account.
    name_of node_name_fault common.from
    >>= λ from. name_of node_name_fault common.to >>= λ to. weighs from to numbers fields.pattern fields.queue weight

plus_behind_agrees : (common : CommonFields) (fields : PlusFields) (numbers : Numbers) (weight : ℕ)
    → Agrees None (plus_behind common fields numbers weight)
plus_behind_agrees common fields numbers weight =
    agrees_then None (account_of fields.account) _ (account_agrees fields.account) (λ account.
    ends_agree common _ (λ from to. weighs_agrees from to numbers fields.pattern fields.queue weight))

-- a weight that is not told is 1, which is in range
weight_agrees : {B : Type 0} (common : CommonFields) (weight : Option (List ℕ)) (next : Numbers → ℕ → Meaning B)
    → ((numbers : Numbers) (weight : ℕ) → Agrees None (next numbers weight))
    → Agrees (numbers_cause (common_numbers 1 common ++ weight_numbers weight))
    (numbers_of common >>= λ digits.
    weight_digits weight
    >>= λ weight. numbers_in_range 1 digits >>= λ numbers. within 1 MAX_WEIGHT weight >>= λ weight. next numbers weight)
unfolding numbers_of
weight_agrees common None next others =
    three_agree 1 (inc_of common) (to_inc_of common) (frame_number_of common) (λ numbers. next numbers 1)
    (λ numbers. others numbers 1)
weight_agrees common (Some weight) next others =
    four_agree 1 1 MAX_WEIGHT (inc_of common) (to_inc_of common) (frame_number_of common)
    (number_of WEIGHT_DIGITS weight) next others

pub plus_agrees : (common : CommonFields) (behind : List (List ℕ))
    → Agrees (plus_cause common (plus_fields behind)) (plus_line common behind)
unfolding plus_line
plus_agrees common behind = fields_agree (plus_cause common) (plus_fields behind) _ refl (λ fields.
    weight_agrees common fields.weight (plus_behind common fields) (plus_behind_agrees common fields))

-- ---- RS-

pub minus_agrees : (common : CommonFields) (behind : List (List ℕ))
    → Agrees (minus_cause common (minus_fields behind)) (minus_line common behind)
unfolding minus_line numbers_of
minus_agrees common behind = fields_agree (minus_cause common) (minus_fields behind) _ refl (λ fields.
    three_agree 1 (inc_of common) (to_inc_of common) (frame_number_of common) _ (λ numbers.
    agrees_then None (account_of fields.account) _ (account_agrees fields.account) (λ account.
    ends_agree common _ (λ from to.
    agrees_then None (key_of fields.pattern fields.queue) _ (key_agrees fields.pattern fields.queue) (λ key. tt)))))

-- ---- RSS

pub snapshot_agrees : (common : CommonFields) (behind : List (List ℕ))
    → Agrees (snapshot_cause common (snapshot_field behind)) (snapshot_line common behind)
unfolding snapshot_line numbers_of
snapshot_agrees common behind =
    fields_agree (snapshot_cause common) (snapshot_field behind) _ refl (λ size.
    four_agree 0 0 MAX_SNAPSHOT (inc_of common) (to_inc_of common) (frame_number_of common) (number_of SIZE_DIGITS size)
    _ (λ numbers size.
    ends_agree common _ (λ from to. tt)))

-- ---- RMSG

names_agree : (fields : List (List ℕ)) → Agrees None (are_names fields)
names_agree [] = tt
names_agree (field ∷ fields) =
    agrees_then None (name_of queue_name_fault field) _ (name_agrees queue_name_fault field) (λ name.
    agrees_then None (are_names fields) _ (names_agree fields) (λ others. tt))

queues_agree : (fields : List (List ℕ)) → Agrees None (queue_names_in fields)
unfolding queue_names_in
queues_agree fields =
    agrees_then None (are_names fields) _ (names_agree fields) (λ names. ok_or_agrees (queue_names_of names))

message_behind_agrees : (common : CommonFields) (fields : MessageFields) (numbers : Numbers) (size : ℕ)
    (headers : Option ℕ)
    → Agrees None (message_behind common fields numbers size headers)
message_behind_agrees common fields numbers size headers =
    agrees_then None (account_of fields.account) _ (account_agrees fields.account) (λ account.
    ends_agree common _ (λ from to.
    agrees_then None (name_of subject_fault fields.subject) _ (name_agrees subject_fault fields.subject) (λ subject.
    agrees_then None (optional (name_of subject_fault) fields.form.reply) _
    (optional_agrees (name_of subject_fault) (name_agrees subject_fault) fields.form.reply) (λ reply.
    agrees_then None (queue_names_in fields.form.names) _ (queues_agree fields.form.names) (λ queues. tt)))))

-- too many names are told before the numbers
few_agree : {A B : Type 0} (test : Bool) (fields : A) (later : Option RouteFault) (next : A → Meaning B)
    → Agrees later (next fields)
    → Agrees (cond test (Some TooManyQueues) later) (cond test (Err TooManyQueues) (Ok fields) >>= next)
few_agree true fields later next others = refl
few_agree false fields later next others = others

form_agrees : {B : Type 0} (cause : Option MessageFields → Option RouteFault) (fields : Option MessageFields)
    (next : MessageFields → Meaning B)
    → cause None ≡ Some BadArgs
    → ((fields : MessageFields) → Agrees (cause (Some fields)) (few_names fields >>= next))
    → Agrees (cause fields) ((ok_or fields BadArgs >>= few_names) >>= next)
form_agrees cause None next none each = rw none refl
form_agrees cause (Some fields) next none each = each fields

-- a size of a header block that is there is read by its digits and its range
abbrev digits_then : {B : Type 0} → Meaning Digits → Option ℕ → Option ℕ → (Numbers → ℕ → Option ℕ → Meaning B)
    → Meaning B
digits_then digits size headers next =
    digits
    >>= λ digits.
    ok_or size BadArgs
    >>= λ size.
    ok_or headers BadArgs
    >>= λ headers.
    numbers_in_range 1 digits
    >>= λ numbers.
    within 0 MAX_PAYLOAD size
    >>= λ size. within (length header_start) size headers >>= λ headers. next numbers size (Some headers)

headers_then : {B : Type 0} (least most n : ℕ) (next : Option ℕ → Meaning B)
    → ((within least most n >>= λ headers. Ok (Some headers)) >>= next)
    ≡ (within least most n >>= λ headers. next (Some headers))
headers_then least most n next = by_test (is_within least most n) where
  by_test : (test : Bool)
      → ((gate test n >>= λ headers. Ok (Some headers)) >>= next) ≡ (gate test n >>= λ headers. next (Some headers))
  by_test true = refl
  by_test false = refl

some_headers : {B : Type 0} (digits : Meaning Digits) (size headers : Option ℕ)
    (next : Numbers → ℕ → Option ℕ → Meaning B)
    → (digits >>= λ digits.
    ok_or size BadArgs
    >>= λ size.
    (ok_or headers BadArgs >>= λ headers. Ok (Some headers))
    >>= λ headers.
    numbers_in_range 1 digits
    >>= λ numbers.
    within 0 MAX_PAYLOAD size >>= λ size. headers_within size headers >>= λ headers. next numbers size headers)
    ≡ digits_then digits size headers next
some_headers (Err fault) size headers next = refl
some_headers (Ok digits) None headers next = refl
some_headers (Ok digits) (Some size) None next = refl
some_headers (Ok digits) (Some size) (Some headers) next = behind_numbers (numbers_in_range 1 digits) where
  behind_size : (numbers : Numbers) (read : Meaning ℕ)
      → (read >>= λ size. headers_within size (Some headers) >>= λ headers. next numbers size headers)
      ≡ (read >>= λ size. within (length header_start) size headers >>= λ headers. next numbers size (Some headers))
  behind_size numbers (Ok size) = headers_then (length header_start) size headers (next numbers size)
  behind_size numbers (Err fault) = refl

  behind_numbers : (read : Meaning Numbers)
      → (read >>= λ numbers.
      within 0 MAX_PAYLOAD size >>= λ size. headers_within size (Some headers) >>= λ headers. next numbers size headers)
      ≡ (read >>= λ numbers.
      within 0 MAX_PAYLOAD size
      >>= λ size. within (length header_start) size headers >>= λ headers. next numbers size (Some headers))
  behind_numbers (Ok numbers) = behind_size numbers (within 0 MAX_PAYLOAD size)
  behind_numbers (Err fault) = refl

-- the sizes: of all that follows the line, and of the header block where there is one
sizes_agree : {B : Type 0} (common : CommonFields) (size : List ℕ) (headers : Option (List ℕ))
    (next : Numbers → ℕ → Option ℕ → Meaning B)
    → ((numbers : Numbers) (size : ℕ) (headers : Option ℕ) → Agrees None (next numbers size headers))
    → Agrees
    (numbers_cause
    (common_numbers 1 common ++ may_be 0 MAX_PAYLOAD (number_of SIZE_DIGITS size) ∷ header_numbers headers size))
    (numbers_of common >>= λ digits.
    ok_or (number_of SIZE_DIGITS size) BadArgs
    >>= λ size.
    header_digits headers
    >>= λ headers.
    numbers_in_range 1 digits
    >>= λ numbers.
    within 0 MAX_PAYLOAD size >>= λ size. headers_within size headers >>= λ headers. next numbers size headers)
unfolding numbers_of
sizes_agree common size None next others =
    four_agree 1 0 MAX_PAYLOAD (inc_of common) (to_inc_of common) (frame_number_of common) (number_of SIZE_DIGITS size)
    (λ numbers size. next numbers size None) (λ numbers size. others numbers size None)
sizes_agree common size (Some headers) next others =
    rw (some_headers (numbers_of common) (number_of SIZE_DIGITS size) (number_of SIZE_DIGITS headers) next)
    (five_agree 1 0 MAX_PAYLOAD (length header_start) (inc_of common) (to_inc_of common) (frame_number_of common)
    (number_of SIZE_DIGITS size) (number_of SIZE_DIGITS headers)
    (λ numbers size headers. next numbers size (Some headers))
    (λ numbers size headers. others numbers size (Some headers)))

pub message_agrees : (common : CommonFields) (found : Option MessageFields)
    → Agrees (message_cause common found) (publication_line common found)
unfolding publication_line few_fields
message_agrees common found =
    form_agrees (message_cause common) found _ refl (λ fields.
    few_agree (nat_lt MAX_QUEUE_NAMES (length fields.form.names)) fields _ _
    (sizes_agree common fields.form.size fields.headers (message_behind common fields)
    (message_behind_agrees common fields)))
