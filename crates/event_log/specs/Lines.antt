-- How a line is written. (Profile.)
use Rattle.std.specs.Prelude.{ℕ, List, ◌++◌, Option, Some, codes}
use Rattle.std.specs.Fmt.{◌++?◌}
use Rattle.log.specs.Level.{level_name}
use Rattle.event_log.specs.declared.lines.Form.{Form}

-- when, how grave, at which server and what, with a blank between each two; the first two arguments
-- say how the time and the words are shown
abbrev pub form_text : {T W : Type 0} → (T → Option (List ℕ)) → (W → Option (List ℕ)) → Form T W
    → Option (List ℕ)
form_text stamp_text words_text form =
    stamp_text form.stamp ++? Some
    (codes " " ++ level_name form.level ++ codes " " ++ form.server.now ++ codes " ") ++? words_text
    form.words
