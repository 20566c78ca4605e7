-- The operations of a route.
use Rattle.std.specs.Prelude.{ℕ, Bool, true, false, List, [], ◌∷◌, codes, Option, Some, None, if◌then◌else◌}
use Rattle.line_fields.specs.Fields.{is_word, line_fields}
use Rattle.route_frames.specs.declared.line_reading.Operation.{Operation}
use Rattle.route_frames.specs.declared.line_reading.Operation.TheVariants.{Info, Connect, Numbered}
use Rattle.route_frames.specs.declared.line_reading.NumberedOperation.TheVariants.{Plus, Minus, Snapshot, Msg, HeaderMsg}

-- NATS documentation, "Cluster Protocol"; `RSS` is this project's own
abbrev pub word_of : Operation → List ℕ
word_of Info = codes "INFO"
word_of Connect = codes "CONNECT"
word_of (Numbered Plus) = codes "RS+"
word_of (Numbered Minus) = codes "RS-"
word_of (Numbered Snapshot) = codes "RSS"
word_of (Numbered Msg) = codes "RMSG"
word_of (Numbered HeaderMsg) = codes "RHMSG"

-- all of them; no two have one word
abbrev pub operations : List Operation
operations =
    Numbered Msg ∷ Numbered HeaderMsg ∷ Numbered Plus ∷ Numbered Minus ∷ Numbered Snapshot ∷ Info
    ∷ Connect ∷ []

-- the first of these whose word the field is, whatever the case of its letters
abbrev pub operation_among : List Operation → List ℕ → Option Operation
operation_among [] field = None
operation_among (operation ∷ others) field =
    if is_word (word_of operation) field then Some operation else operation_among others field

abbrev pub operation_of : List ℕ → Option Operation
operation_of field = operation_among operations field

-- the text behind INFO and CONNECT is JSON, which can't be judged without memory
abbrev pub has_json : Option Operation → Bool
has_json None = false
has_json (Some Info) = true
has_json (Some Connect) = true
has_json (Some (Numbered kind)) = false

abbrev pub fields_have_json : List (List ℕ) → Bool
fields_have_json [] = false
fields_have_json (field ∷ fields) = has_json (operation_of field)

abbrev pub is_json_line : List ℕ → Bool
is_json_line line = fields_have_json (line_fields line)
