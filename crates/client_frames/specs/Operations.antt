-- The operations that clients ask for.
use Rattle.std.specs.Prelude.{ℕ, List, [], ◌∷◌, codes, Option, Some, None, if◌then◌else◌}
use Rattle.line_fields.specs.Fields.{is_word}
use Rattle.client_frames.specs.declared.decoding.Operation.{Operation}
use Rattle.client_frames.specs.declared.decoding.Operation.TheVariants.{Connect, Pub, Hpub, Sub, Unsub, Ping, Pong}

-- NATS documentation, "Client Protocol"
abbrev pub word_of : Operation → List ℕ
word_of Connect = codes "CONNECT"
word_of Pub = codes "PUB"
word_of Hpub = codes "HPUB"
word_of Sub = codes "SUB"
word_of Unsub = codes "UNSUB"
word_of Ping = codes "PING"
word_of Pong = codes "PONG"

-- all of them; no two have one word
abbrev pub operations : List Operation
operations = Pub ∷ Hpub ∷ Sub ∷ Ping ∷ Pong ∷ Unsub ∷ Connect ∷ []

-- the first of these whose word the field is, whatever the case of its letters
abbrev pub operation_among : List Operation → List ℕ → Option Operation
operation_among [] field = None
operation_among (operation ∷ others) field =
    if is_word (word_of operation) field then Some operation else operation_among others field

abbrev pub operation_of : List ℕ → Option Operation
operation_of field = operation_among operations field
