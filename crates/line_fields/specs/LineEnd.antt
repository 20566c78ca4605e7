-- What ends a line, and a payload behind it.
use Rattle.std.specs.Prelude.{ℕ, List, [], ◌∷◌, ◌++◌, Option, Some, None}

-- NATS documentation, "Client Protocol": CR LF ends each line, and each payload
abbrev pub line_end : List ℕ
line_end = 13 ∷ 10 ∷ []

-- a payload and its end, where there is one
abbrev pub payload_bytes : Option (List ℕ) → List ℕ
payload_bytes None = []
payload_bytes (Some payload) = payload ++ line_end
