-- The members of an object in a log (profile): of equal members the last one counts, as
-- `serde_json` has it, and a member that nothing asks for is not looked at. `null` is there, and of
-- another kind.
use Rattle.std.specs.Prelude.{ℕ, List, codes, Option, Some, None, option_map}
use Rattle.std.specs.Result.{result_ok}
use Rattle.serde_json.specs.Data.{Data}
use Rattle.serde_json.specs.Find.{get}
use Rattle.hex.specs.Hex.{decode_of}
use Rattle.subj.specs.declared.faults.NameFault.{NameFault}
use Rattle.subj.specs.Names.{node_name_fault}
use Rattle.subj.specs.Numbers.{incarnation_of}
use Rattle.script_form.specs.Members.{◌>>=◌, whole, text, valid, valid_where_there, where_there}
use Rattle.audit_log.specs.declared.entries.Text.{Text}
use Rattle.audit_log.specs.Texts.{name_of, hex_name_of}

-- ---- a member that has to be there

abbrev pub member : {A : Type 0} → (Data → Option A) → List ℕ → Data → Option A
member kind name json = get name json >>= kind

unfoldable pub incarnation_in : Data → Option ℕ
incarnation_in json = do
  inc ← member whole (codes "inc") json
  incarnation_of inc

-- the name of a server is a text
unfoldable pub server_in : List ℕ → Data → Option (List ℕ)
server_in name json = do
  text ← member text name json
  valid node_name_fault text

-- ---- a member that may be absent

abbrev pub optional : {A : Type 0} → (Data → Option A) → List ℕ → Data → Option (Option A)
optional kind name json = where_there kind (get name json)

-- ---- bytes

-- the bytes that hex digits write, two for a byte
abbrev pub hex_in : Data → Option (List ℕ)
hex_in value = text value >>= λ digits. result_ok (decode_of digits)

-- the hex digits are looked at only where there is no text
abbrev pub bytes_by : Text → Option Data → Data → Option (Option (List ℕ))
bytes_by key None json = optional hex_in (hex_name_of key) json
bytes_by key (Some value) json = option_map Some (text value)

abbrev pub optional_bytes_in : Text → Data → Option (Option (List ℕ))
optional_bytes_in key json = bytes_by key (get (name_of key) json) json

unfoldable pub bytes_in : Text → Data → Option (List ℕ)
bytes_in key json = do
  found ← optional_bytes_in key json
  found

-- ---- names

unfoldable pub named_in : (List ℕ → Option NameFault) → Text → Data → Option (List ℕ)
named_in fault key json = do
  name ← bytes_in key json
  valid fault name

unfoldable pub optional_named_in : (List ℕ → Option NameFault)
    → Text
    → Data
    → Option (Option (List ℕ))
optional_named_in fault key json = do
  name ← optional_bytes_in key json
  valid_where_there fault name
