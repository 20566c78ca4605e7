-- What the text of a CONNECT chooses. NATS documentation, "Client Protocol", "CONNECT": a JSON
-- object with the options of the connection. Profile: of these `verbose`, `echo` and `headers` are
-- looked at. An absent `verbose` or `echo` is on, an absent `headers` is off. Of equal members the
-- last one counts, as `serde_json` has it.
use Rattle.std.specs.Prelude.{ℕ, List, codes, Bool, true, false, Option, Some, None, is_some, option_and_then, if◌then◌else◌}
use Rattle.std.specs.Str.{is_utf8}
use Rattle.serde_json.specs.Data.{Data}
use Rattle.serde_json.specs.Read.{read}
use Rattle.serde_json.specs.Find.{get, as_bool, as_object}
use Rattle.client_frames.specs.declared.client_line.Options.{Options}

-- the JSON that a text is; bytes that are no UTF-8 are none
abbrev pub json_of : List ℕ → Option Data
json_of text = if is_utf8 text then read text else None

-- whether an option is on, where one that is absent is so; nothing where its member is no truth
-- value
abbrev pub truth_or : Bool → Option Data → Option Bool
truth_or absent None = Some absent
truth_or absent (Some value) = as_bool value

abbrev pub all_options : Option Bool → Option Bool → Option Bool → Option Options
all_options None echo headers = None
all_options (Some verbose) None headers = None
all_options (Some verbose) (Some echo) None = None
all_options (Some verbose) (Some echo) (Some headers) =
    Some (record { verbose = verbose; echo = echo; headers = headers })

abbrev pub options_in : Data → Option Options
options_in json =
    if is_some (as_object json)
    then all_options (truth_or true (get (codes "verbose") json))
    (truth_or true (get (codes "echo") json)) (truth_or false (get (codes "headers") json))
    else None

-- the options that a text chooses, where it does
abbrev pub options_of : List ℕ → Option Options
options_of text = option_and_then options_in (json_of text)
