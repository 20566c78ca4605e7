-- Words of 32 bytes as digits. (Profile.)
use Rattle.std.specs.Prelude.{ℕ, List, Option, Some, None, Result, Ok, Err, if◌then◌else◌}
use Rattle.std.specs.Str.{bytes_eq}
use Rattle.hex.specs.declared.error.FromHexError.{FromHexError}
use Rattle.hex.specs.Hex.{encode_lower, decode_sized}
use Rattle.peer_proof.specs.declared.lines.TheConstants.{WORD}

-- the word that was decoded, where these are the digits that it is written with
abbrev pub word_by : List ℕ → Result (List ℕ) FromHexError → Option (List ℕ)
word_by digits (Ok word) = if bytes_eq (encode_lower word) digits then Some word else None
word_by digits (Err fault) = None

-- the word of 32 bytes of which these are the digits, in lower case
abbrev pub word_in : List ℕ → Option (List ℕ)
word_in digits = word_by digits (decode_sized digits WORD)
