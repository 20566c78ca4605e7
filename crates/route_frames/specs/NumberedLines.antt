-- What the line of a numbered frame means. The order in which causes are looked for: the number of
-- fields, too many queue names, numbers that are no digits, numbers out of their ranges, all else
-- (profile).
use Rattle.std.specs.Prelude.{ℕ, Bool, not, List, [], ◌∷◌, length, codes, nat_lt, Option, Some, None, Ok, Err, is_some, if◌then◌else◌}
use Rattle.std.specs.Option.{ok_or}
use Rattle.std.specs.Str.{bytes_eq}
use Rattle.subj.specs.declared.keys.Key.{Key}
use Rattle.subj.specs.declared.limits.TheConstants.{MAX_QUEUE_NAMES, MAX_WEIGHT, MAX_SNAPSHOT, MAX_PAYLOAD}
use Rattle.subj.specs.Messages.{header_start}
use Rattle.subj.specs.Names.{pattern_fault, subject_fault, queue_name_fault, node_name_fault}
use Rattle.subj.specs.QueueNames.{queue_names_of}
use Rattle.route_values.specs.Snapshots.{weighted_key}
use Rattle.route_frames.specs.declared.faults.RouteFault.TheVariants.{BadArgs, TooManyQueues}
use Rattle.route_frames.specs.declared.line_reading.TheConstants.{WEIGHT_DIGITS, SIZE_DIGITS}
use Rattle.route_frames.specs.declared.reading.LineBody.TheVariants.{Plus, Minus, Snapshot, Msg}
use Rattle.route_frames.specs.declared.reading.NumberedLine.{NumberedLine}
use Rattle.route_frames.specs.declared.line_reading.Digits.{Digits}
use Rattle.route_frames.specs.declared.line_reading.Numbers.{Numbers}
use Rattle.route_frames.specs.Meaning.{Meaning, ◌>>=◌}
use Rattle.route_frames.specs.CommonFields.{CommonFields, digits_of, within, numbers_of, numbers_in_range, name_of}
use Rattle.route_frames.specs.Arguments.{MessageFields, plus_fields, minus_fields, snapshot_field, message_fields, header_fields}

-- ---- fields that are no numbers

-- NATS documentation, "Cluster Protocol": the account; profile: it is always the global one
abbrev pub account_of : List ℕ → Meaning (Unit {0})
account_of field = if bytes_eq field (codes "$G") then Ok tt else Err BadArgs

abbrev pub is_queue_name : List ℕ → Bool
is_queue_name field = not (is_some (queue_name_fault field))

abbrev pub optional : (List ℕ → Meaning (List ℕ)) → Option (List ℕ) → Meaning (Option (List ℕ))
optional read None = Ok None
optional read (Some field) = do
  value ← read field
  Ok (Some value)

unfoldable pub key_of : List ℕ → Option (List ℕ) → Meaning Key
key_of pattern queue = do
  pattern ← name_of pattern_fault pattern
  queue ← optional (name_of queue_name_fault) queue
  Ok (record { pattern = pattern; queue = queue })

-- each a queue name
abbrev pub are_names : List (List ℕ) → Meaning (List (List ℕ))
are_names [] = Ok []
are_names (field ∷ fields) = do
  name ← name_of queue_name_fault field
  others ← are_names fields
  Ok (name ∷ others)

-- and in strictly rising order
unfoldable pub queue_names_in : List (List ℕ) → Meaning (List (List ℕ))
queue_names_in fields = do
  names ← are_names fields
  ok_or (queue_names_of names) BadArgs

-- ---- RS+: a key without a queue name weighs 1

abbrev pub weight_digits : Option (List ℕ) → Meaning ℕ
weight_digits None = Ok 1
weight_digits (Some field) = digits_of WEIGHT_DIGITS field

unfoldable pub plus_line : CommonFields → List (List ℕ) → Meaning NumberedLine
plus_line common fields = do
  fields ← ok_or (plus_fields fields) BadArgs
  digits ← numbers_of common
  weight ← weight_digits fields.weight
  numbers ← numbers_in_range 1 digits
  weight ← within 1 MAX_WEIGHT weight
  account ← account_of fields.account
  from ← name_of node_name_fault common.from
  to ← name_of node_name_fault common.to
  key ← key_of fields.pattern fields.queue
  weighted ← ok_or (weighted_key key weight) BadArgs
  Ok (record { from = from; to = to; numbers = numbers; body = Plus weighted })

-- ---- RS-

unfoldable pub minus_line : CommonFields → List (List ℕ) → Meaning NumberedLine
minus_line common fields = do
  fields ← ok_or (minus_fields fields) BadArgs
  digits ← numbers_of common
  numbers ← numbers_in_range 1 digits
  account ← account_of fields.account
  from ← name_of node_name_fault common.from
  to ← name_of node_name_fault common.to
  key ← key_of fields.pattern fields.queue
  Ok (record { from = from; to = to; numbers = numbers; body = Minus key })

-- ---- RSS: its number may be 0

unfoldable pub snapshot_line : CommonFields → List (List ℕ) → Meaning NumberedLine
snapshot_line common fields = do
  field ← ok_or (snapshot_field fields) BadArgs
  digits ← numbers_of common
  size ← digits_of SIZE_DIGITS field
  numbers ← numbers_in_range 0 digits
  size ← within 0 MAX_SNAPSHOT size
  from ← name_of node_name_fault common.from
  to ← name_of node_name_fault common.to
  Ok (record { from = from; to = to; numbers = numbers; body = Snapshot size })

-- ---- RMSG and RHMSG, by the fields that stand where they have the right number

abbrev pub few_names : MessageFields → Meaning MessageFields
few_names fields =
    if nat_lt MAX_QUEUE_NAMES (length fields.form.names) then Err TooManyQueues else Ok fields

unfoldable pub few_fields : Option MessageFields → Meaning MessageFields
few_fields found = do
  fields ← ok_or found BadArgs
  few_names fields

-- the size of the header block, where there is one
abbrev pub header_digits : Option (List ℕ) → Meaning (Option ℕ)
header_digits None = Ok None
header_digits (Some field) = do
  headers ← digits_of SIZE_DIGITS field
  Ok (Some headers)

-- it has as many bytes as it has to begin with, and no more than follow the line
abbrev pub headers_within : ℕ → Option ℕ → Meaning (Option ℕ)
headers_within size None = Ok None
headers_within size (Some headers) = do
  headers ← within (length header_start) size headers
  Ok (Some headers)

-- by the names in its fields, once its numbers are known
abbrev pub publication_with : CommonFields → Numbers → MessageFields → Option ℕ → ℕ
    → Meaning NumberedLine
publication_with common numbers fields headers size = do
  account ← account_of fields.account
  from ← name_of node_name_fault common.from
  to ← name_of node_name_fault common.to
  subject ← name_of subject_fault fields.subject
  reply ← optional (name_of subject_fault) fields.form.reply
  queues ← queue_names_in fields.form.names
  Ok (record {
    from = from;
    to = to;
    numbers = numbers;
    body = Msg subject reply queues headers size;
  })

-- by the numbers that were spelt
abbrev pub publication_by : CommonFields → Digits → MessageFields → Option ℕ → ℕ
    → Meaning NumberedLine
publication_by common digits fields headers size = do
  numbers ← numbers_in_range 1 digits
  size ← within 0 MAX_PAYLOAD size
  headers ← headers_within size headers
  publication_with common numbers fields headers size

unfoldable pub publication_line : CommonFields → Option MessageFields → Meaning NumberedLine
publication_line common found = do
  fields ← few_fields found
  digits ← numbers_of common
  size ← digits_of SIZE_DIGITS fields.form.size
  headers ← header_digits fields.headers
  publication_by common digits fields headers size

abbrev pub message_line : CommonFields → List (List ℕ) → Meaning NumberedLine
message_line common fields = publication_line common (message_fields fields)

abbrev pub header_line : CommonFields → List (List ℕ) → Meaning NumberedLine
header_line common fields = publication_line common (header_fields fields)
