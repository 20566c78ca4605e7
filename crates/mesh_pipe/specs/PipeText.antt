-- The pipe's text: what one client is written, of what was read of it. NATS documentation, "Client
-- Protocol", is what its asks rest on. The order of the answers, and when a connection closes, are
-- this project's profile.
use Rattle.std.specs.Prelude.{ℕ, zero, suc, ◌+◌, Bool, true, false, not, nat_le, nat_lt, List, [], ◌∷◌, ◌++◌, length, map, codes, Option, Some, None, if◌then◌else◌}
use Rattle.subj.specs.declared.jobs.Job.{Job}
use Rattle.subj.specs.declared.keys.Key.{Key}
use Rattle.subj.specs.declared.limits.TheConstants.{MAX_COUNTER, MAX_QUEUE_NAMES}
use Rattle.subj.specs.declared.messages.Pub.{Pub}
use Rattle.client_frames.specs.declared.err_texts.ErrText.{ErrText}
use Rattle.client_frames.specs.declared.err_texts.ErrText.TheVariants.{TooManySubscriptions, TooManyQueueGroups, NumbersSpent}
use Rattle.client_frames.specs.declared.info.InfoData.{InfoData}
use Rattle.client_frames.specs.declared.server_frames.ReplyFrame.TheVariants as reply
use Rattle.client_conn.specs.declared.ask.ClientAction.{ClientAction}
use Rattle.client_conn.specs.declared.ask.ClientAction.TheVariants as ask
use Rattle.client_conn.specs.Asks.{asking_after}
use Rattle.outbox.specs.Views.{bytes_of_all}
use Rattle.sub_table.specs.declared.Subscription.{Subscription}
use Rattle.interest.specs.Matches.{names_in}
use Rattle.shard_core.specs.declared.faults.ShardFault.{ShardFault}
use Rattle.shard_core.specs.declared.faults.ShardFault.TheVariants.{TooManySubs, Spent}
use Rattle.shard_core.specs.ShardEvents.{Event, Subscribe, Unsubscribe, Reply, SetHeaders, Shut, Begin, Claim, End}
use Rattle.shard_core.specs.Shards.{State, new_shard, is_open, takes_headers, with_headers, waits_for}
use Rattle.shard_core.specs.ShardSteps.{new_client, after_attach, shard_refusal, shard_after}

-- ---- the server of a pipe (profile)

-- node `n1` in its first life takes one client, by no port
unfoldable pub pipe_info : InfoData
pipe_info = record {
  server = record { name = codes "n1"; inc = 1; host = codes "127.0.0.1"; port = 0 };
  client_id = 1;
}

-- what an answer depends on: the open subscriptions in order of opening, how many were opened, how
-- many jobs were made, and whether the client takes headers
pub record Served : Type 0 where
  pub subs : List Subscription
  pub opened : ℕ
  pub jobs : ℕ
  pub headers : Bool

abbrev pub at_first : Served
at_first = record { subs = []; opened = 0; jobs = 0; headers = false }

-- its one shard, with its one connection, for which nothing waits
abbrev pub at_rest : Served → State
at_rest s = record (after_attach (new_shard 1 1)) {
  opened = s.opened;
  finished = s.jobs;
  clients = with_headers s.headers (new_client 1) ∷ [];
  subs = s.subs;
}

-- ---- what is written

-- bytes, what is served behind them, and whether nothing comes behind them
pub record Output : Type 0 where
  pub text : List ℕ
  pub served : Served
  pub closed : Bool

abbrev pub no_output : Served → Output
no_output s = record { text = []; served = s; closed = false }

-- what is said, with this text before it
abbrev pub text_before : List ℕ → Output → Output
text_before text said = record said { text = text ++ said.text }

-- nothing comes behind what closes
abbrev pub and_then : Output → (Served → Output) → Output
and_then first rest = if first.closed then first else text_before first.text (rest first.served)

abbrev pub served_by : State → Served
served_by t = record {
  subs = t.subs;
  opened = t.opened;
  jobs = t.finished;
  headers = takes_headers 1 t.clients;
}

-- all that the shard has put for the connection, and whether it was shut
abbrev pub output_of : State → Output
output_of t = record {
  text = bytes_of_all (waits_for 1 t.clients);
  served = served_by t;
  closed = not (is_open 1 t.clients);
}

-- what one event leads to
abbrev pub after_event : Event → Served → Output
after_event event s = output_of (shard_after (at_rest s) event)

-- the client is told of a refusal
abbrev pub error_told : ErrText → Served → Output
error_told text s = after_event (Reply 1 (reply.Err text)) s

-- ---- a subscription is opened, or the client is told why not

-- the two causes for which the shard of one open connection refuses a subscription; the others have
-- no text
abbrev pub opening_refused : ShardFault → Served → Output
opening_refused TooManySubs s = error_told TooManySubscriptions s
opening_refused Spent s = error_told NumbersSpent s
opening_refused fault s = no_output s

abbrev pub opened_or_not : Key → List ℕ → Served → Option ShardFault → Output
opened_or_not key sid s None = after_event (Subscribe 1 key sid) s
opened_or_not key sid s (Some fault) = opening_refused fault s

abbrev pub output_of_subscribe : Key → List ℕ → Served → Output
output_of_subscribe key sid s =
    opened_or_not key sid s (shard_refusal (at_rest s) (Subscribe 1 key sid))

-- ---- a publication makes a job of the next turn, which is worked off

-- NATS documentation, "Queue Groups": the queue names of open subscriptions that match, each once,
-- in the order of bytes
abbrev pub names_wanted : List ℕ → List Subscription → List (List ℕ)
names_wanted subject subs = names_in subject (map (λ sub. (sub.key, 1)) subs) []

abbrev pub job_of : Pub → Served → Job
job_of p s = record {
  turn = s.jobs + 1;
  id = record { origin = codes "n1"; inc = 1; number = s.jobs + 1 };
  message = p.message;
  publisher = Some 1;
  echo = p.echo;
  queues = names_wanted p.message.subject s.subs;
}

-- the first so many queue names of the job in hand are claimed, in order, and each claim with a
-- candidate is won
abbrev pub after_claims : ℕ → State → State
after_claims zero t = t
after_claims (suc n) t = shard_after (after_claims n t) (Claim n true)

abbrev pub after_job : Job → State → State
after_job job t = shard_after (after_claims (length job.queues) (shard_after t (Begin job))) End

-- numbers are asked for first, and then whether the job has places for all queue names (profile)
abbrev pub output_of_publish : Pub → Served → Output
output_of_publish p s =
    if nat_le MAX_COUNTER s.jobs then error_told NumbersSpent s
    else (if nat_lt MAX_QUEUE_NAMES (length (names_wanted p.message.subject s.subs))
    then error_told TooManyQueueGroups s
    else output_of (after_job (job_of p s) (at_rest s)))

-- ---- all that a client's connection asks

abbrev pub ask_said : ClientAction → Served → Output
ask_said (ask.Reply frame) s = after_event (Reply 1 frame) s
ask_said (ask.SetHeaders on) s = after_event (SetHeaders 1 on) s
ask_said (ask.Shut text) s = after_event (Shut 1 text) s
ask_said (ask.Subscribe key sid) s = output_of_subscribe key sid s
ask_said (ask.Unsubscribe sid max) s = after_event (Unsubscribe 1 sid max) s
ask_said (ask.Publish p) s = output_of_publish p s

-- one after the other, up to the first that closes
unfoldable pub asks_said : List ClientAction → Served → Output
asks_said [] s = no_output s
asks_said (a ∷ asks) s = and_then (ask_said a s) (asks_said asks)

-- what a connection asks of these bytes where each ask is done: a refused one is told in its place
abbrev pub pipe_said : List ℕ → Output
pipe_said bytes = asks_said (asking_after pipe_info bytes []).asks at_first

-- what is written of a stream
abbrev pub pipe_text : List ℕ → List ℕ
pipe_text bytes = (pipe_said bytes).text

-- the text ends with one that closes
abbrev pub pipe_closes : List ℕ → Bool
pipe_closes bytes = (pipe_said bytes).closed
