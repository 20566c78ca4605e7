-- Route spelling: which lines and payloads spell which frame, by cases on what the frame says. The
-- lines are those that a cutter gives, which hold no CR LF. NATS documentation, "Cluster Protocol":
-- INFO, CONNECT, RS+, RS- and RMSG, the account, the marks in front of queue names. RSS, RHMSG, the
-- common fields, the digits and the ranges are this project's profile.
use Rattle.std.specs.Prelude.{◌≡◌, ◌≤◌, ℕ, true, false, List, [], ◌∷◌, ◌++◌, length, codes, Option, Some, None, option_map}
use Rattle.std.specs.Option.{option_to_list}
use Rattle.serde_json.specs.Data.{Data, string}
use Rattle.serde_json.specs.Find.{get}
use Rattle.line_fields.specs.Fields.{fields, begins_with_field, is_word, number_of}
use Rattle.subj.specs.declared.limits.TheConstants.{MAX_SNAPSHOT}
use Rattle.subj.specs.Messages.{Content, body_of}
use Rattle.route_values.specs.declared.bodies.Body.{Body}
use Rattle.route_values.specs.declared.bodies.Body.TheVariants.{Plus, Minus, Snapshot, Msg}
use Rattle.route_values.specs.declared.frames.RouteFrame.{RouteFrame}
use Rattle.route_values.specs.declared.frames.RouteFrame.TheVariants as route
use Rattle.route_values.specs.Records.{Info, Connect}
use Rattle.route_values.specs.Frames.{Frame}
use Rattle.route_values.specs.Snapshots.{Weighted, line_end}
use Rattle.route_values.specs.Valid.{IsRouteFrame}
use Rattle.route_frames.specs.declared.line_reading.TheConstants.{INCARNATION_DIGITS, NUMBER_DIGITS}
use Rattle.route_frames.specs.declared.line_reading.TheConstants.{WEIGHT_DIGITS, SIZE_DIGITS}
use Rattle.route_frames.specs.declared.line_reading.Operation.TheVariants as operation
use Rattle.route_frames.specs.Operations.{word_of}
use Rattle.route_frames.specs.Greetings.{json_of}
use Rattle.route_frames.specs.Canonical.{number_data, operation_word, form_fields}

-- one to so many digits that are the number; zeros may stand in front
abbrev pub IsNumber : ℕ → List ℕ → ℕ → Type 0
IsNumber most digits number = number_of most digits ≡ Some number

-- ---- the fields of a numbered frame

-- who sends it to whom, in which incarnations, and its number; and the fields behind these
pub record HasCommon (frame : Frame) (all behind : List (List ℕ)) : Type 0 where
  pub inc : List ℕ
  pub to_inc : List ℕ
  pub number : List ℕ
  pub whole : all ≡ frame.from ∷ inc ∷ frame.to ∷ to_inc ∷ number ∷ behind
  pub is_inc : IsNumber INCARNATION_DIGITS inc frame.inc
  pub is_to_inc : IsNumber INCARNATION_DIGITS to_inc frame.to_inc
  pub is_number : IsNumber NUMBER_DIGITS number frame.number

-- RS+: a queue name comes with its weight, and a plain key, which weighs 1, without
abbrev pub SpellsWeight : Option (List ℕ) → ℕ → List (List ℕ) → Type 0
SpellsWeight None weight behind = behind ≡ []
SpellsWeight (Some queue) weight behind =
    (digits : List ℕ) × (behind ≡ queue ∷ digits ∷ []) × IsNumber WEIGHT_DIGITS digits weight

abbrev pub SpellsPlus : Weighted → List (List ℕ) → Type 0
SpellsPlus weighted all =
    (behind : List (List ℕ))
    × (all ≡ codes "$G" ∷ weighted.0.pattern ∷ behind)
    × SpellsWeight weighted.0.queue weighted.1 behind

-- these fields, and then a size
abbrev pub SpellsSize : List (List ℕ) → ℕ → List (List ℕ) → Type 0
SpellsSize front size behind =
    (digits : List ℕ) × (behind ≡ front ++ digits ∷ []) × IsNumber SIZE_DIGITS digits size

-- the same, and in front of it the size of the header block, where there is one
abbrev pub SpellsSizes : List (List ℕ) → Option ℕ → ℕ → List (List ℕ) → Type 0
SpellsSizes front None size behind = SpellsSize front size behind
SpellsSizes front (Some headers) size behind =
    (block_digits digits : List ℕ)
    × (behind ≡ front ++ block_digits ∷ digits ∷ [])
    × IsNumber SIZE_DIGITS block_digits headers
    × IsNumber SIZE_DIGITS digits size

abbrev pub header_size : Content → Option ℕ
header_size message = option_map (λ block. length block) message.headers

-- RMSG, and RHMSG for a publication with headers
abbrev pub SpellsMessage : Content → List (List ℕ) → List (List ℕ) → Type 0
SpellsMessage message queues behind =
    SpellsSizes (codes "$G" ∷ message.subject ∷ form_fields message.reply queues)
    (header_size message) (length (body_of message)) behind

-- What the fields behind the common ones say, and the size that they announce. The line of a
-- snapshot says nothing of its keys; zeros in front of weights may make its payload longer than it
-- has to be.
abbrev pub SpellsBody : Body → Option ℕ → List (List ℕ) → Type 0
SpellsBody (Plus weighted) size behind = (size ≡ None) × SpellsPlus weighted behind
SpellsBody (Minus key) size behind =
    (size ≡ None) × (behind ≡ codes "$G" ∷ key.pattern ∷ option_to_list key.queue)
SpellsBody (Snapshot keys) size behind =
    (bytes : ℕ) × (size ≡ Some bytes) × (bytes ≤ MAX_SNAPSHOT) × SpellsSize [] bytes behind
SpellsBody (Msg message queues) size behind =
    (size ≡ Some (length (body_of message))) × SpellsMessage message queues behind

abbrev pub SpellsNumbered : Frame → Option ℕ → List (List ℕ) → Type 0
SpellsNumbered frame size all =
    (behind : List (List ℕ)) × HasCommon frame all behind × SpellsBody frame.body size behind

-- ---- the JSON of INFO and CONNECT: members in any order, beside others

pub record HasInfo (info : Info) (json : Data) : Type 0 where
  pub server_name : get (codes "server_name") json ≡ Some (string info.server_name)
  pub inc : get (codes "inc") json ≡ Some (number_data info.inc)

pub record HasConnect (connect : Connect) (json : Data) : Type 0 where
  pub server_name : get (codes "server_name") json ≡ Some (string connect.server_name)
  pub inc : get (codes "inc") json ≡ Some (number_data connect.inc)
  pub to : get (codes "to") json ≡ Some (string connect.to)
  pub to_inc : get (codes "to_inc") json ≡ Some (number_data connect.to_inc)
  pub serial : get (codes "serial") json ≡ Some (number_data connect.serial)

-- ---- lines: an operation in letters of any case, and what stands behind it

abbrev pub frame_word : RouteFrame → List ℕ
frame_word (route.Info info) = word_of operation.Info
frame_word (route.Connect connect) = word_of operation.Connect
frame_word (route.Numbered frame) = operation_word frame.body

abbrev pub SpellsText : RouteFrame → Option ℕ → List ℕ → Type 0
SpellsText (route.Info info) size text =
    (size ≡ None) × (json : Data) × (json_of text ≡ Some json) × HasInfo info json
SpellsText (route.Connect connect) size text =
    (size ≡ None) × (json : Data) × (json_of text ≡ Some json) × HasConnect connect json
SpellsText (route.Numbered frame) size text = SpellsNumbered frame size (fields text)

-- the line is one of the frame, and announces a payload of this size, or none
pub record SpellsLine (frame : RouteFrame) (size : Option ℕ) (line : List ℕ) : Type 0 where
  pub word : List ℕ
  pub text : List ℕ
  pub whole : line ≡ word ++ text
  pub names : is_word (frame_word frame) word ≡ true
  pub is_behind : begins_with_field text ≡ false
  pub says : SpellsText frame size text
  pub valid : IsRouteFrame frame

-- ---- payloads

-- a key in a line of a snapshot, with one space between its fields
abbrev pub SpellsKey : List ℕ → Option (List ℕ) → ℕ → List ℕ → Type 0
SpellsKey pattern None weight line = line ≡ pattern
SpellsKey pattern (Some queue) weight line =
    (digits : List ℕ)
    × (line ≡ pattern ++ (codes " " ++ (queue ++ (codes " " ++ digits))))
    × IsNumber WEIGHT_DIGITS digits weight

-- each key in a line of its own, in order
abbrev pub SpellsKeys : List Weighted → List ℕ → Type 0
SpellsKeys [] text = text ≡ []
SpellsKeys (weighted ∷ others) text =
    (line rest : List ℕ)
    × (text ≡ line ++ (line_end ++ rest))
    × SpellsKey weighted.0.pattern weighted.0.queue weighted.1 line
    × SpellsKeys others rest

-- what stands behind the line
abbrev pub SpellsBehind : Body → List ℕ → Type 0
SpellsBehind (Plus weighted) payload = payload ≡ []
SpellsBehind (Minus key) payload = payload ≡ []
SpellsBehind (Snapshot keys) payload = SpellsKeys keys payload
SpellsBehind (Msg message queues) payload = payload ≡ body_of message

-- and the size of it that the line announces
abbrev pub body_announces : Body → List ℕ → Option ℕ
body_announces (Plus weighted) payload = None
body_announces (Minus key) payload = None
body_announces (Snapshot keys) payload = Some (length payload)
body_announces (Msg message queues) payload = Some (length payload)

abbrev pub SpellsPayload : RouteFrame → List ℕ → Type 0
SpellsPayload (route.Info info) payload = payload ≡ []
SpellsPayload (route.Connect connect) payload = payload ≡ []
SpellsPayload (route.Numbered frame) payload = SpellsBehind frame.body payload

abbrev pub announces : RouteFrame → List ℕ → Option ℕ
announces (route.Info info) payload = None
announces (route.Connect connect) payload = None
announces (route.Numbered frame) payload = body_announces frame.body payload

-- ---- a line and its payload spell a frame

pub record Spells (frame : RouteFrame) (line payload : List ℕ) : Type 0 where
  pub in_line : SpellsLine frame (announces frame payload) line
  pub behind : SpellsPayload frame payload
