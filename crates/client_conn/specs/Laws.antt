-- That the asks depend on the bytes and the answers alone, however the bytes were cut and whenever
-- the answers came.
use Rattle.std.specs.Prelude.{◌≡◌, ℕ, List, [], ◌∷◌, ◌++◌}
use Rattle.client_frames.specs.declared.info.InfoData.{InfoData}
use Rattle.client_frames.specs.declared.server_frames.ReplyFrame.TheVariants as reply
use Rattle.client_frames.specs.Streams.{stream_commands}
use Rattle.client_conn.specs.declared.ask.ClientAction.TheVariants.{Reply}
use Rattle.client_conn.specs.Items.{first_options, items_asks}
use Rattle.client_conn.specs.Asks.{Asking, Answer, asks_after_bytes, asks_after_answer, first_asking, asking_after}

-- what happens to a connection
pub data Happening : Type 0 where
  more_bytes : List ℕ → Happening
  an_answer : Answer → Happening

abbrev pub after : Happening → Asking → Asking
after (more_bytes bytes) s = asks_after_bytes bytes s
after (an_answer answer) s = asks_after_answer answer s

abbrev pub after_all : List Happening → Asking → Asking
after_all [] s = s
after_all (happening ∷ happenings) s = after_all happenings (after happening s)

-- the bytes among what happens, and the answers
abbrev pub bytes_in : List Happening → List ℕ
bytes_in [] = []
bytes_in (more_bytes bytes ∷ happenings) = bytes ++ bytes_in happenings
bytes_in (an_answer answer ∷ happenings) = bytes_in happenings

abbrev pub answers_in : List Happening → List Answer
answers_in [] = []
answers_in (more_bytes bytes ∷ happenings) = answers_in happenings
answers_in (an_answer answer ∷ happenings) = answer ∷ answers_in happenings

-- an answer comes only where something was asked
abbrev pub MayHappen : Happening → Asking → Type 0
MayHappen (more_bytes bytes) s = Unit {0}
MayHappen (an_answer answer) s = ¬ (s.asks ≡ [])

abbrev pub EachAnswersAnAsk : List Happening → Asking → Type 0
EachAnswersAnAsk [] s = Unit {0}
EachAnswersAnAsk (happening ∷ happenings) s =
    MayHappen happening s × EachAnswersAnAsk happenings (after happening s)

-- What stands to be asked is a function of all bytes together and of all answers.
abbrev pub FollowsBytesAndAnswers : Type 0
FollowsBytesAndAnswers =
    (info : InfoData) (happenings : List Happening)
    → EachAnswersAnAsk happenings (first_asking info)
    → after_all happenings (first_asking info)
    ≡ asking_after info (bytes_in happenings) (answers_in happenings)

-- Where each ask is done, INFO is asked for and then what the stream commands ask for.
abbrev pub AsksForStreamCommands : Type 0
AsksForStreamCommands =
    (info : InfoData) (bytes : List ℕ)
    → (asking_after info bytes []).asks
    ≡ Reply (reply.Info info) ∷ items_asks first_options (stream_commands bytes)
