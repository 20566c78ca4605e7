-- A log (profile): lines of JSON, each of them a publication, a subscription or a placement; other
-- lines are passed over. The servers of a log have places, in the order in which subscriptions and
-- placements name them.
use Rattle.std.specs.Prelude.{◌≡◌, ℕ, Bool, false, nat_eq, List, [], ◌∷◌, ◌++◌, codes, position, Option, Some, None, Result, Ok, Err, if◌then◌else◌}
use Rattle.std.specs.List.{slice_split, starts_with}
use Rattle.std.specs.Str.{bytes_eq}
use Rattle.serde_json.specs.Data.{Data}
use Rattle.serde_json.specs.Find.{get}
use Rattle.serde_json.specs.View.{view}
use Rattle.serde_json.specs.declared.value.Value.{Value}
use Rattle.subj.specs.declared.failures.Failure.{Failure}
use Rattle.subj.specs.declared.failures.Failure.TheVariants.{Refused, OutOfMemory}
use Rattle.subj.specs.Servers.{place_in}
use Rattle.line_fields.specs.Fields.{fields}
use Rattle.client_frames.specs.Choices.{json_of}
use Rattle.world_law.specs.State.{Life, Placement, Publication}
use Rattle.script_form.specs.Members.{◌>>=◌}
use Rattle.audit_log.specs.declared.faults.LogError.{LogError}
use Rattle.audit_log.specs.declared.faults.LogFault.{LogFault}
use Rattle.audit_log.specs.declared.faults.LogFault.TheVariants.{NotJson, BadShape}
use Rattle.audit_log.specs.Entries.{life_in, placement_in, publication_in}
use Rattle.audit_log.specs.Members.{server_in}

-- the servers that were named, and what was told, each kind in its order
pub record Log : Type 0 where
  pub names : List (List ℕ)
  pub publications : List Publication
  pub lives : List Life
  pub placements : List Placement

-- nothing was told
abbrev pub new_log : Log
new_log = record { names = []; publications = []; lives = []; placements = [] }

-- ---- what an object tells

abbrev pub named_by : Option ℕ → List ℕ → List (List ℕ) → List (List ℕ)
named_by None name names = names ++ name ∷ []
named_by (Some place) name names = names

-- the names, and behind them this one, where it is not among them
abbrev pub with_name : List ℕ → List (List ℕ) → List (List ℕ)
with_name name names = named_by (position (λ other. bytes_eq other name) names) name names

unfoldable pub with_publication : Log → Data → Option Log
with_publication log json = do
  publication ← publication_in json
  Some (record log { publications = log.publications ++ publication ∷ [] })

unfoldable pub with_life : Log → Data → Option Log
with_life log json = do
  id ← get (codes "id") json
  server ← server_in (codes "node") id
  life ← life_in (place_in server log.names) json
  Some (record log { names = with_name server log.names; lives = log.lives ++ life ∷ [] })

unfoldable pub with_placement : Log → Data → Option Log
with_placement log json = do
  life ← get (codes "life") json
  server ← server_in (codes "node") life
  placement ← placement_in (place_in server log.names) json
  Some (record log {
    names = with_name server log.names;
    placements = log.placements ++ placement ∷ [];
  })

-- of the three members the first that is there counts, and an object that has none of them tells
-- nothing

abbrev pub by_placement : Log → Option Data → Option Log
by_placement log None = Some log
by_placement log (Some json) = with_placement log json

abbrev pub by_life : Log → Option Data → Option Data → Option Log
by_life log None placement = by_placement log placement
by_life log (Some json) placement = with_life log json

abbrev pub by_publication : Log → Option Data → Option Data → Option Data → Option Log
by_publication log None life placement = by_life log life placement
by_publication log (Some json) life placement = with_publication log json

abbrev pub with_object : Log → Data → Option Log
with_object log json =
    by_publication log (get (codes "publication") json) (get (codes "life") json)
    (get (codes "placement") json)

-- ---- what a line tells

abbrev pub begins_object : List (List ℕ) → Bool
begins_object [] = false
begins_object (field ∷ fields) = starts_with nat_eq field (codes "{")

-- it begins as an object does, behind blanks
abbrev pub is_object : List ℕ → Bool
is_object line = begins_object (fields line)

abbrev pub log_of_shape : Option Log → Result Log LogFault
log_of_shape None = Err BadShape
log_of_shape (Some log) = Ok log

abbrev pub with_json : Log → Option Data → Result Log LogFault
with_json log None = Err NotJson
with_json log (Some json) = log_of_shape (with_object log json)

abbrev pub with_line : Log → List ℕ → Result Log LogFault
with_line log line = if is_object line then with_json log (json_of line) else Ok log

-- ---- what lines tell, up to the first that is refused

abbrev pub go_on : Result Log LogFault → (Log → Result Log LogFault) → Result Log LogFault
go_on (Ok log) more = more log
go_on (Err fault) more = Err fault

abbrev pub with_lines : Log → List (List ℕ) → Result Log LogFault
with_lines log [] = Ok log
with_lines log (line ∷ lines) = go_on (with_line log line) (λ log. with_lines log lines)

abbrev pub is_line_end : ℕ → Bool
is_line_end byte = nat_eq byte 10

-- the pieces between the bytes LF
abbrev pub lines_of : List ℕ → List (List ℕ)
lines_of bytes = slice_split is_line_end bytes

-- the lines behind an LF, where there is one
abbrev pub lines_behind : Option (List ℕ) → List (List ℕ)
lines_behind None = []
lines_behind (Some bytes) = lines_of bytes

-- what bytes are as a log, or why their first line that is refused is none of a log's
abbrev pub log_of : List ℕ → Result Log LogFault
log_of bytes = with_lines new_log (lines_of bytes)

-- ---- how a reader answers: it tells just what there is; want of memory may stand in its place

abbrev pub ReadsJson : List ℕ → Result Value (Failure LogFault) → Type 0
ReadsJson line (Ok json) = json_of line ≡ Some (view json)
ReadsJson line (Err (Refused fault)) = (json_of line ≡ None) × (fault ≡ NotJson)
ReadsJson line (Err OutOfMemory) = Unit {0}

abbrev pub AddsObject : {T M : Type 0} → Option Log → Log → Result T (Failure M) → Type 0
AddsObject meaning new (Ok x) = meaning ≡ Some new
AddsObject meaning new (Err (Refused why)) = meaning ≡ None
AddsObject meaning new (Err OutOfMemory) = Unit {0}

abbrev pub AddsLine : {T : Type 0} → Result Log LogFault → Log → Result T (Failure LogFault)
    → Type 0
AddsLine meaning new (Ok x) = meaning ≡ Ok new
AddsLine meaning new (Err (Refused fault)) = meaning ≡ Err fault
AddsLine meaning new (Err OutOfMemory) = Unit {0}

abbrev pub AddsLines : {T : Type 0} → Result Log LogFault → Log → Result T (Failure LogError)
    → Type 0
AddsLines meaning new (Ok x) = meaning ≡ Ok new
AddsLines meaning new (Err (Refused error)) = meaning ≡ Err error.fault
AddsLines meaning new (Err OutOfMemory) = Unit {0}

abbrev pub Reads : List ℕ → Result Log (Failure LogError) → Type 0
Reads bytes (Ok log) = log_of bytes ≡ Ok log
Reads bytes (Err (Refused error)) = log_of bytes ≡ Err error.fault
Reads bytes (Err OutOfMemory) = Unit {0}
