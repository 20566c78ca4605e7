-- Asks of a client: what a connection asks of its server, as a function of the bytes fed and of the
-- answers given.
use Rattle.std.specs.Prelude.{◌≡◌, ℕ, List, [], ◌∷◌, ◌++◌, Option, Some, slice_get, Result, Ok, Err, Bool, true, false, ◌&&◌}
use Rattle.wire_cut.specs.Reading.{End, waits, closed, Reading, reading_of}
use Rattle.client_frames.specs.declared.client_line.Awaited.{Awaited}
use Rattle.client_frames.specs.declared.client_line.Awaited.TheVariants as awaits
use Rattle.client_frames.specs.declared.client_line.Options.{Options}
use Rattle.client_frames.specs.declared.err_texts.ErrText.{ErrText}
use Rattle.client_frames.specs.declared.err_texts.ErrText.TheVariants as text
use Rattle.client_frames.specs.declared.info.InfoData.{InfoData}
use Rattle.client_frames.specs.declared.server_frames.ReplyFrame.TheVariants as reply
use Rattle.client_frames.specs.Streams.{StreamItem, client_grammar}
use Rattle.client_conn.specs.declared.ask.ClientAction.{ClientAction}
use Rattle.client_conn.specs.declared.ask.ClientAction.TheVariants.{Reply}
use Rattle.client_conn.specs.declared.ask.Refusal.{Refusal}
use Rattle.client_conn.specs.declared.ask.Refusal.TheVariants.{Busy, TooManySubscriptions, NumbersSpent, TooManyQueueGroups, Draining, Other}
use Rattle.client_conn.specs.Items.{first_options, options_after, items_asks}

-- how a connection goes on
pub data Onward : Type 0 where
  -- these options hold, this has to come next, and these bytes are there for it
  listens : Options → Awaited → List ℕ → Onward
  -- nothing more is read
  over : Onward

-- what a connection has still to ask, first to last, where each ask is done; and how it goes on
pub record Asking : Type 0 where
  pub asks : List ClientAction
  pub onward : Onward

-- these are asked before
abbrev pub asked_before : List ClientAction → Asking → Asking
asked_before asks s = record s { asks = asks ++ s.asks }

abbrev pub nothing_more : Asking
nothing_more = record { asks = []; onward = over }

-- ---- bytes

abbrev pub onward_of : Options → End Awaited → Onward
onward_of options (waits awaited unread) = listens options awaited unread
onward_of options closed = over

-- what is asked by the stream commands that were read
abbrev pub asking_of : Options → Reading Awaited StreamItem → Asking
asking_of options reading = record {
  asks = items_asks options reading.items;
  onward = onward_of (options_after reading.items options) reading.end;
}

abbrev pub read_onward : Onward → List ℕ → Asking
read_onward (listens options awaited unread) bytes =
    asking_of options (reading_of client_grammar awaited (unread ++ bytes))
read_onward over bytes = nothing_more

-- more bytes came
abbrev pub asks_after_bytes : List ℕ → Asking → Asking
asks_after_bytes bytes s = asked_before s.asks (read_onward s.onward bytes)

-- ---- answers

-- the client is told of a refusal, and its connection goes on
abbrev pub asking_with_err : ErrText → List ClientAction → Onward → Asking
asking_with_err text asks onward = record { asks = Reply (reply.Err text) ∷ asks; onward = onward }

-- A busy server is asked the same again. Five refusals are told; of all others nothing comes any
-- more.
abbrev pub refused_by : Refusal → ClientAction → List ClientAction → Onward → Asking
refused_by Busy ask asks onward = record { asks = ask ∷ asks; onward = onward }
refused_by TooManySubscriptions ask asks onward =
    asking_with_err text.TooManySubscriptions asks onward
refused_by NumbersSpent ask asks onward = asking_with_err text.NumbersSpent asks onward
refused_by TooManyQueueGroups ask asks onward = asking_with_err text.TooManyQueueGroups asks onward
refused_by Draining ask asks onward = asking_with_err text.Draining asks onward
refused_by Other ask asks onward = nothing_more

-- what a server says of an ask: it is done, or refused
abbrev pub Answer : Type 0
Answer = Result (Unit {0}) Refusal

abbrev pub answered_of : Answer → ClientAction → List ClientAction → Onward → Asking
answered_of (Ok done) ask asks onward = record { asks = asks; onward = onward }
answered_of (Err refusal) ask asks onward = refused_by refusal ask asks onward

abbrev pub answered_first : Answer → List ClientAction → Onward → Asking
answered_first answer [] onward = record { asks = []; onward = onward }
answered_first answer (ask ∷ asks) onward = answered_of answer ask asks onward

-- the first ask was answered
abbrev pub asks_after_answer : Answer → Asking → Asking
asks_after_answer answer s = answered_first answer s.asks s.onward

-- ---- a connection

-- INFO is asked for first
abbrev pub first_asking : InfoData → Asking
first_asking info = record {
  asks = Reply (reply.Info info) ∷ [];
  onward = listens first_options awaits.Line [];
}

abbrev pub is_over : Onward → Bool
is_over (listens options awaited unread) = false
is_over over = true

abbrev pub no_asks : List ClientAction → Bool
no_asks [] = true
no_asks (ask ∷ asks) = false

-- nothing stands to be asked, and nothing is read any more
abbrev pub is_finished : Asking → Bool
is_finished s = no_asks s.asks && is_over s.onward

-- all answers, in order
abbrev pub asks_after_answers : List Answer → Asking → Asking
asks_after_answers [] s = s
asks_after_answers (answer ∷ answers) s = asks_after_answers answers (asks_after_answer answer s)

-- each of these stands first once those before it are done, and once all are done it goes on so
abbrev pub AsksInTurn : List ClientAction → Asking → Asking → Type 0
AsksInTurn [] old new = new ≡ old
AsksInTurn (ask ∷ asks) old new =
    (slice_get old.asks 0 ≡ Some ask) × AsksInTurn asks (asks_after_answer (Ok tt) old) new

-- what stands to be asked after these bytes and these answers
abbrev pub asking_after : InfoData → List ℕ → List Answer → Asking
asking_after info bytes answers =
    asks_after_answers answers (asks_after_bytes bytes (first_asking info))

-- ---- a connection as its callers see it

-- what is lent: the bytes that are unread, and whether the client's own subscriptions may get what
-- is published there
pub record Lends : Type 0 where
  pub text : List ℕ
  pub echo : Bool

pub record ConnState : Type 0 where
  pub asking : Asking
  -- the first ask was given, and not answered yet
  pub given : Bool
  -- what is lent, where nothing stands to be asked, a line has to come next, and the client is not
  -- told of what is done
  pub lends : Option Lends
