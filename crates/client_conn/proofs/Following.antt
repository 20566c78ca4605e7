-- The asks are a function of the bytes and of the answers.
use Rattle.std.proofs.Common.{◌≡◌, ℕ, List, [], ◌∷◌, ◌++◌, Ok, Err, refl, ap, sym, ◌∙◌, append_assoc, append-nil}
use Rattle.wire_cut.specs.Cut.{first_cr_lf}
use Rattle.wire_cut.specs.Reading.{reading_of, reading_within}
use Rattle.client_frames.specs.declared.info.InfoData.{InfoData}
use Rattle.client_frames.specs.Streams.{client_grammar}
use Rattle.client_conn.specs.declared.ask.ClientAction.{ClientAction}
use Rattle.client_conn.specs.declared.ask.Refusal.TheVariants.{Busy, TooManySubscriptions, NumbersSpent, TooManyQueueGroups, Draining, Other}
use Rattle.client_conn.specs.Asks.{Asking, Answer, Onward, listens, over, asked_before, asking_of, read_onward, asks_after_bytes, asks_after_answer, answered_of, answered_first, asks_after_answers, first_asking}
use Rattle.client_conn.specs.Laws.{Happening, more_bytes, an_answer, after_all, bytes_in, answers_in, EachAnswersAnAsk, FollowsBytesAndAnswers, AsksForStreamCommands}
use Rattle.client_conn.proofs.Telling.{fed_reading, fed_behind}

-- ---- bytes in two parts

read_twice : (onward : Onward) (first second : List ℕ)
    → asks_after_bytes second (read_onward onward first) ≡ read_onward onward (first ++ second)
read_twice (listens options awaited unread) first second =
    fed_reading options awaited (unread ++ first) second
    ∙ ap (λ l. asking_of options (reading_of client_grammar awaited l)) (append_assoc unread first second)
read_twice over first second = refl

pub fed_twice : (s : Asking) (first second : List ℕ)
    → asks_after_bytes second (asks_after_bytes first s) ≡ asks_after_bytes (first ++ second) s
fed_twice s first second =
    fed_behind s.asks (read_onward s.onward first) second ∙ ap (asked_before s.asks) (read_twice s.onward first second)

-- ---- an answer before bytes, and behind them

answered_then_fed : (answer : Answer) (ask : ClientAction) (asks : List ClientAction) (onward : Onward) (bytes : List ℕ)
    → asks_after_bytes bytes (answered_of answer ask asks onward)
    ≡ answered_of answer ask (asks ++ (read_onward onward bytes).asks) (read_onward onward bytes).onward
answered_then_fed (Ok done) ask asks onward bytes = refl
answered_then_fed (Err Busy) ask asks onward bytes = refl
answered_then_fed (Err TooManySubscriptions) ask asks onward bytes = refl
answered_then_fed (Err NumbersSpent) ask asks onward bytes = refl
answered_then_fed (Err TooManyQueueGroups) ask asks onward bytes = refl
answered_then_fed (Err Draining) ask asks onward bytes = refl
answered_then_fed (Err Other) ask asks onward bytes = refl

first_answered : (answer : Answer) (asks : List ClientAction) (onward : Onward) (bytes : List ℕ)
    → ¬ (asks ≡ [])
    → asks_after_bytes bytes (answered_first answer asks onward)
    ≡ asks_after_answer answer (asks_after_bytes bytes (record { asks = asks; onward = onward }))
first_answered answer [] onward bytes some = absurd (some refl)
first_answered answer (ask ∷ asks) onward bytes some = answered_then_fed answer ask asks onward bytes

pub in_any_order : (answer : Answer) (s : Asking) (bytes : List ℕ)
    → ¬ (s.asks ≡ [])
    → asks_after_bytes bytes (asks_after_answer answer s) ≡ asks_after_answer answer (asks_after_bytes bytes s)
in_any_order answer s bytes some = first_answered answer s.asks s.onward bytes some

-- ---- all that happens

-- all that the bytes ask for is there
pub settled_fed : (s : Asking) (bytes : List ℕ)
    → asks_after_bytes [] (asks_after_bytes bytes s) ≡ asks_after_bytes bytes s
settled_fed s bytes = fed_twice s bytes [] ∙ ap (λ l. asks_after_bytes l s) (append-nil bytes)

follows_from : (happenings : List Happening) (s : Asking) → asks_after_bytes [] s ≡ s → EachAnswersAnAsk happenings s
    → after_all happenings s ≡ asks_after_answers (answers_in happenings) (asks_after_bytes (bytes_in happenings) s)
follows_from [] s settled each = sym settled
follows_from (more_bytes bytes ∷ happenings) s settled each =
    follows_from happenings (asks_after_bytes bytes s) (settled_fed s bytes) each.1
    ∙ ap (asks_after_answers (answers_in happenings)) (fed_twice s bytes (bytes_in happenings))
follows_from (an_answer answer ∷ happenings) s settled each =
    follows_from happenings (asks_after_answer answer s)
    (in_any_order answer s [] each.0 ∙ ap (asks_after_answer answer) settled) each.1
    ∙ ap (asks_after_answers (answers_in happenings)) (in_any_order answer s (bytes_in happenings) each.0)

pub settled_first : (info : InfoData) → asks_after_bytes [] (first_asking info) ≡ first_asking info
unfolding first_cr_lf reading_within
settled_first info = refl

pub follows_bytes_and_answers : FollowsBytesAndAnswers
follows_bytes_and_answers info happenings each = follows_from happenings (first_asking info) (settled_first info) each

pub asks_for_stream_commands : AsksForStreamCommands
asks_for_stream_commands info bytes = refl
