-- Which cause a line is refused for (profile). They are looked for in this order: no operation of a
-- route; a number of fields, or marks among them, that no form has, or a text that is no JSON
-- object; too many queue names; a field that has to be a number and is no digits, or too many; a
-- number out of its range. All else is `BadArgs`: so is a member that is missing or is no whole
-- number.
use Rattle.std.specs.Prelude.{ℕ, Bool, true, false, not, nat_lt, List, [], ◌∷◌, ◌++◌, length, drop, codes, is_some, unwrap_or, Option, Some, None, if◌then◌else◌}
use Rattle.std.specs.List.{list_all, list_any}
use Rattle.serde_json.specs.Data.{Num, unsigned, negative, float, Data}
use Rattle.serde_json.specs.Find.{get, as_object, as_number}
use Rattle.std.specs.Option.{option_and_then}
use Rattle.subj.specs.Messages.{header_start}
use Rattle.subj.specs.Names.{is_between}
use Rattle.subj.specs.declared.limits.TheConstants.{MAX_INCARNATION, MAX_COUNTER, MAX_QUEUE_NAMES, MAX_WEIGHT, MAX_SNAPSHOT, MAX_PAYLOAD}
use Rattle.line_fields.specs.Fields.{line_fields, number_of}
use Rattle.route_frames.specs.declared.faults.RouteFault.{RouteFault}
use Rattle.route_frames.specs.declared.faults.RouteFault.TheVariants.{UnknownOp, BadArgs, BadNumber, TooManyQueues}
use Rattle.route_frames.specs.declared.line_reading.TheConstants.{INCARNATION_DIGITS, NUMBER_DIGITS}
use Rattle.route_frames.specs.declared.line_reading.TheConstants.{WEIGHT_DIGITS, SIZE_DIGITS}
use Rattle.route_frames.specs.declared.line_reading.Operation.{Operation}
use Rattle.route_frames.specs.declared.line_reading.Operation.TheVariants as operation
use Rattle.route_frames.specs.declared.line_reading.NumberedOperation.TheVariants as kind
use Rattle.route_frames.specs.Operations.{operation_of}
use Rattle.route_frames.specs.CommonFields.{CommonFields, common_fields}
use Rattle.route_frames.specs.Arguments.{PlusFields, MinusFields, MessageFields, plus_fields, minus_fields, snapshot_field, message_fields, header_fields}
use Rattle.route_frames.specs.Greetings.{json_of}

-- ---- the numbers of a line

-- what a field's digits say, where it is digits and not too many, and the range of that
pub record NumberField : Type 0 where
  pub value : Option ℕ
  pub least : ℕ
  pub most : ℕ

abbrev pub is_digits : NumberField → Bool
is_digits field = is_some field.value

abbrev pub is_some_between : ℕ → ℕ → Option ℕ → Bool
is_some_between least most None = false
is_some_between least most (Some number) = is_between least most number

abbrev pub is_in_range : NumberField → Bool
is_in_range field = is_some_between field.least field.most field.value

abbrev pub numbers_cause : List NumberField → Option RouteFault
numbers_cause numbers =
    if not (list_all is_digits numbers) then Some BadArgs
    else (if not (list_all is_in_range numbers) then Some BadNumber else None)

abbrev pub number_field : ℕ → ℕ → ℕ → List ℕ → NumberField
number_field digits least most field = record {
  value = number_of digits field;
  least = least;
  most = most;
}

abbrev pub common_numbers : ℕ → CommonFields → List NumberField
common_numbers least common =
    number_field INCARNATION_DIGITS 1 MAX_INCARNATION common.inc
    ∷ number_field INCARNATION_DIGITS 1 MAX_INCARNATION common.to_inc
    ∷ number_field NUMBER_DIGITS least MAX_COUNTER common.number ∷ []

abbrev pub weight_numbers : Option (List ℕ) → List NumberField
weight_numbers None = []
weight_numbers (Some weight) = number_field WEIGHT_DIGITS 1 MAX_WEIGHT weight ∷ []

-- a header block has as many bytes as it has to begin with, and no more than follow the line
abbrev pub header_numbers : Option (List ℕ) → List ℕ → List NumberField
header_numbers None size = []
header_numbers (Some headers) size =
    record {
      value = number_of SIZE_DIGITS headers;
      least = length header_start;
      most = unwrap_or (number_of SIZE_DIGITS size) 0;
    } ∷ []

-- ---- numbered frames, by the fields that stand where they have the right number

abbrev pub plus_cause : CommonFields → Option PlusFields → Option RouteFault
plus_cause common None = Some BadArgs
plus_cause common (Some fields) =
    numbers_cause (common_numbers 1 common ++ weight_numbers fields.weight)

abbrev pub minus_cause : CommonFields → Option MinusFields → Option RouteFault
minus_cause common None = Some BadArgs
minus_cause common (Some fields) = numbers_cause (common_numbers 1 common)

abbrev pub snapshot_cause : CommonFields → Option (List ℕ) → Option RouteFault
snapshot_cause common None = Some BadArgs
snapshot_cause common (Some size) =
    numbers_cause (common_numbers 0 common ++ number_field SIZE_DIGITS 0 MAX_SNAPSHOT size ∷ [])

abbrev pub message_cause : CommonFields → Option MessageFields → Option RouteFault
message_cause common None = Some BadArgs
message_cause common (Some fields) =
    if nat_lt MAX_QUEUE_NAMES (length fields.form.names) then Some TooManyQueues
    else numbers_cause (common_numbers 1 common
    ++ number_field SIZE_DIGITS 0 MAX_PAYLOAD fields.form.size
    ∷ header_numbers fields.headers fields.form.size)

abbrev pub common_cause : (CommonFields → List (List ℕ) → Option RouteFault)
    → Option (CommonFields × List (List ℕ))
    → Option RouteFault
common_cause behind None = Some BadArgs
common_cause behind (Some split) = behind split.0 split.1

-- ---- INFO and CONNECT

-- a whole number that is not within its range, which begins with 1
abbrev pub is_beyond : ℕ → Option Num → Bool
is_beyond most None = false
is_beyond most (Some (unsigned number)) = not (is_between 1 most number)
is_beyond most (Some (negative number)) = true
is_beyond most (Some (float number)) = false

-- a member by its name, and the greatest number that it may be
abbrev pub is_member_beyond : Data → List ℕ × ℕ → Bool
is_member_beyond json member = is_beyond member.1 (option_and_then as_number (get member.0 json))

abbrev pub members_cause : List (List ℕ × ℕ) → Option Data → Option RouteFault
members_cause members None = Some BadArgs
members_cause members (Some json) =
    if not (is_some (as_object json)) then Some BadArgs
    else (if list_any (is_member_beyond json) members then Some BadNumber else None)

abbrev pub info_members : List (List ℕ × ℕ)
info_members = (codes "inc", MAX_INCARNATION) ∷ []

abbrev pub connect_members : List (List ℕ × ℕ)
connect_members =
    (codes "inc", MAX_INCARNATION)
    ∷ (codes "to_inc", MAX_INCARNATION)
    ∷ (codes "serial", MAX_COUNTER) ∷ []

-- ---- lines

abbrev pub operation_cause : Option Operation → List ℕ → List (List ℕ) → Option RouteFault
operation_cause None text fields = Some UnknownOp
operation_cause (Some operation.Info) text fields = members_cause info_members (json_of text)
operation_cause (Some operation.Connect) text fields = members_cause connect_members (json_of text)
operation_cause (Some (operation.Numbered kind.Plus)) text fields =
    common_cause (λ common behind. plus_cause common (plus_fields behind)) (common_fields fields)
operation_cause (Some (operation.Numbered kind.Minus)) text fields =
    common_cause (λ common behind. minus_cause common (minus_fields behind)) (common_fields fields)
operation_cause (Some (operation.Numbered kind.Snapshot)) text fields =
    common_cause (λ common behind. snapshot_cause common (snapshot_field behind))
    (common_fields fields)
operation_cause (Some (operation.Numbered kind.Msg)) text fields =
    common_cause (λ common behind. message_cause common (message_fields behind))
    (common_fields fields)
operation_cause (Some (operation.Numbered kind.HeaderMsg)) text fields =
    common_cause (λ common behind. message_cause common (header_fields behind))
    (common_fields fields)

abbrev pub fields_cause : List ℕ → List (List ℕ) → Option RouteFault
fields_cause line [] = Some UnknownOp
fields_cause line (field ∷ fields) =
    operation_cause (operation_of field) (drop (length field) line) fields

-- the first of these causes that a line has, if it has one
abbrev pub line_cause : List ℕ → Option RouteFault
line_cause line = fields_cause line (line_fields line)
