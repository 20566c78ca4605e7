-- What the server of a pipe is between two asks of its client's connection, and what its calls do.
use Rattle.std.specs.Prelude.{◌≡◌, ℕ, Bool, true, false, [], ◌++◌, Ok, Err}
use Rattle.client_frames.specs.declared.err_texts.ErrText.TheVariants as text
use Rattle.client_conn.specs.declared.ask.ClientAction.{ClientAction}
use Rattle.client_conn.specs.declared.ask.ClientAction.TheVariants as ask
use Rattle.client_conn.specs.declared.ask.Refusal.{Refusal}
use Rattle.client_conn.specs.declared.ask.Refusal.TheVariants.{Busy, TooManySubscriptions, NumbersSpent, TooManyQueueGroups, Draining, Other}
use Rattle.mesh_pipe.specs.declared.pipe_server.Outcome.{Outcome}
use Rattle.mesh_pipe.specs.declared.pipe_server.Outcome.TheVariants.{Answered, Closed}
use Rattle.mesh_pipe.specs.declared.pipe_server.PipeServer.{PipeServer}
use Rattle.mesh_pipe.specs.PipeText.{Served, Output, at_first, at_rest, served_by, error_told}
use Rattle.mesh_pipe.specs.PipeServing.{IsServing, shard_in, waiting_in}

-- what the answers depend on
abbrev pub served_state : {R : Type 0} → PipeServer R → Served
served_state server = served_by (shard_in server.node)

-- no job waits, all that was put was taken, and the hub was told of all
pub record IsReady {R : Type 0} (server : PipeServer R) : Type 0 where
  pub serving : IsServing server.node
  pub conn : server.conn ≡ 1
  pub shard : shard_in server.node ≡ at_rest (served_state server)
  pub waiting : waiting_in server.node ≡ []

-- nothing was done yet
pub record IsNew {R : Type 0} (server : PipeServer R) : Type 0 where
  pub ready : IsReady server
  pub same : served_state server ≡ at_first
  pub empty : server.output.items ≡ []

-- ---- an ask

-- this was put, and behind it this is served
pub record HasSaid {R : Type 0} (said : Output) (old new : PipeServer R) : Type 0 where
  pub text : new.output.items ≡ old.output.items ++ said.text
  pub ready : IsReady new
  pub same : served_state new ≡ said.served

-- whether the connection was shut
abbrev pub outcome_by : Bool → Outcome
outcome_by true = Closed
outcome_by false = Answered (Ok tt)

-- the client is to be told of a refusal
abbrev pub IsTold : Refusal → Served → Output → Type 0
IsTold Busy s said = ⊥
IsTold TooManySubscriptions s said = said ≡ error_told text.TooManySubscriptions s
IsTold NumbersSpent s said = said ≡ error_told text.NumbersSpent s
IsTold TooManyQueueGroups s said = said ≡ error_told text.TooManyQueueGroups s
IsTold Draining s said = said ≡ error_told text.Draining s
IsTold Other s said = ⊥

abbrev pub HasServed : {R : Type 0} → Outcome → Output → PipeServer R → PipeServer R → Type 0
HasServed (Answered (Ok done)) said old new = (said.closed ≡ false) × HasSaid said old new
HasServed (Answered (Err why)) said old new = IsTold why (served_state old) said × (new ≡ old)
HasServed Closed said old new =
    (said.closed ≡ true) × (new.output.items ≡ old.output.items ++ said.text)

-- how much an ask leads to, where of a refusal the client is told
abbrev pub asks_of : ClientAction → ℕ
asks_of (ask.Reply frame) = 1
asks_of (ask.SetHeaders on) = 1
asks_of (ask.Shut text) = 1
asks_of (ask.Subscribe key sid) = 2
asks_of (ask.Unsubscribe sid max) = 1
asks_of (ask.Publish p) = 2

-- a refusal is told of the asks that lead to more than one
abbrev pub MayBeTold : Outcome → ClientAction → Type 0
MayBeTold (Answered (Ok done)) a = Unit {0}
MayBeTold (Answered (Err why)) a = asks_of a ≡ 2
MayBeTold Closed a = Unit {0}
