-- What the texts of INFO and CONNECT mean (profile). A reader takes the members in any order and
-- ignores others.
use Rattle.std.specs.Prelude.{ℕ, List, codes, nat_le, ◌&&◌, Option, Some, None, Ok, Err, is_some, option_and_then, if◌then◌else◌}
use Rattle.std.specs.Option.{ok_or}
use Rattle.std.specs.Str.{is_utf8}
use Rattle.serde_json.specs.Data.{Num, unsigned, negative, float, Data}
use Rattle.serde_json.specs.Read.{read}
use Rattle.serde_json.specs.Find.{get, as_number, as_str, as_object}
use Rattle.subj.specs.declared.limits.TheConstants.{MAX_COUNTER, MAX_INCARNATION}
use Rattle.subj.specs.Numbers.{incarnation_of}
use Rattle.route_values.specs.Records.{Info, Connect, connect_of}
use Rattle.route_frames.specs.declared.faults.RouteFault.TheVariants.{BadArgs, BadNumber}
use Rattle.route_frames.specs.declared.greetings.Dial.{Dial}
use Rattle.route_frames.specs.declared.greetings.Whole.{Whole}
use Rattle.route_frames.specs.declared.greetings.Whole.TheVariants.{Other, Negative, Number}
use Rattle.route_frames.specs.Meaning.{Meaning, ◌>>=◌}
use Rattle.route_frames.specs.CommonFields.{name_of}
use Rattle.subj.specs.Names.{node_name_fault}

-- ---- a JSON object

abbrev pub json_of : List ℕ → Option Data
json_of text = if is_utf8 text then read text else None

abbrev pub object_in : Data → Meaning Data
object_in json = if is_some (as_object json) then Ok json else Err BadArgs

unfoldable pub object_of : List ℕ → Meaning Data
object_of text = do
  json ← ok_or (json_of text) BadArgs
  object_in json

-- ---- its numbers: first whether those that are whole are in their ranges, then whether they are
-- there

abbrev pub whole_of : Option Num → Whole
whole_of None = Other
whole_of (Some (unsigned n)) = Number n
whole_of (Some (negative z)) = Negative
whole_of (Some (float x)) = Other

abbrev pub whole_at : List ℕ → Data → Whole
whole_at key json = whole_of (option_and_then as_number (get key json))

abbrev pub whole_in_range : ℕ → Whole → Meaning Whole
whole_in_range most Other = Ok Other
whole_in_range most Negative = Err BadNumber
whole_in_range most (Number n) =
    if nat_le 1 n && nat_le n most then Ok (Number n) else Err BadNumber

abbrev pub whole_number : Whole → Meaning ℕ
whole_number Other = Err BadArgs
whole_number Negative = Err BadArgs
whole_number (Number n) = Ok n

unfoldable pub incarnation_in : Whole → Meaning ℕ
incarnation_in whole = do
  number ← whole_number whole
  ok_or (incarnation_of number) BadNumber

-- ---- its names

unfoldable pub node_at : List ℕ → Data → Meaning (List ℕ)
node_at key json = do
  name ← ok_or (option_and_then as_str (get key json)) BadArgs
  name_of node_name_fault name

-- ---- INFO and CONNECT

unfoldable pub info_in : Data → Meaning Info
info_in json = do
  inc ← whole_in_range MAX_INCARNATION (whole_at (codes "inc") json)
  inc ← incarnation_in inc
  server_name ← node_at (codes "server_name") json
  Ok (record { server_name = server_name; inc = inc })

unfoldable pub dial_in : Data → Meaning Dial
dial_in json = do
  inc ← whole_in_range MAX_INCARNATION (whole_at (codes "inc") json)
  to_inc ← whole_in_range MAX_INCARNATION (whole_at (codes "to_inc") json)
  serial ← whole_in_range MAX_COUNTER (whole_at (codes "serial") json)
  inc ← incarnation_in inc
  to_inc ← incarnation_in to_inc
  serial ← whole_number serial
  Ok (record { inc = inc; to_inc = to_inc; serial = serial })

unfoldable pub connect_in : Data → Meaning Connect
connect_in json = do
  dial ← dial_in json
  server_name ← node_at (codes "server_name") json
  to ← node_at (codes "to") json
  ok_or (connect_of server_name dial.inc to dial.to_inc dial.serial) BadNumber

abbrev pub info_of : List ℕ → Meaning Info
info_of text = object_of text >>= info_in

abbrev pub connect_text_of : List ℕ → Meaning Connect
connect_text_of text = object_of text >>= connect_in
