-- What a pipe still has to say, and what its steps do about it.
use Rattle.std.specs.Prelude.{◌≡◌, ℕ, ◌+◌, ◌<◌, true, List, [], ◌++◌, sum_by, Option, Some, None, Result, Ok, Err}
use Rattle.std.specs.Io.KnownBytes.{Appends}
use Rattle.client_conn.specs.Asks.{Asking, ConnState, over, asks_after_bytes}
use Rattle.client_conn.specs.Shuts.{AsksToShut}
use Rattle.mesh_pipe.specs.declared.faults.PipeFault.{PipeFault}
use Rattle.mesh_pipe.specs.declared.faults.PipeFault.TheVariants.{Read, Write, OutOfMemory}
use Rattle.mesh_pipe.specs.declared.pipe.Flow.{Flow}
use Rattle.mesh_pipe.specs.declared.pipe.Flow.TheVariants.{Open, Closed}
use Rattle.mesh_pipe.specs.declared.pipe_server.PipeServer.{PipeServer}
use Rattle.mesh_pipe.specs.PipeText.{Served, Output, no_output, text_before, asks_said}
use Rattle.mesh_pipe.specs.PipeStates.{IsReady, served_state, asks_of}

-- ---- where a pipe stands in its stream

pub record PipeState : Type 0 where
  pub asking : Asking
  pub served : Served

-- what is said of what stands to be asked, and of what these bytes ask for
abbrev pub said_from : PipeState → List ℕ → Output
said_from at more = asks_said (asks_after_bytes more at.asking).asks at.served

-- nothing is said before more bytes come
abbrev pub Waits : PipeState → Type 0
Waits at = said_from at [] ≡ no_output at.served

-- this is said, and then what is said from there, whatever comes behind
pub record GoesOn (from : PipeState) (said : List ℕ) (to : PipeState) : Type 0 where
  pub whatever_follows : (more : List ℕ)
      → said_from from more ≡ text_before said (said_from to more)

-- this is said, and nothing behind it
pub record Ends (from : PipeState) (said : List ℕ) : Type 0 where
  pub text : (more : List ℕ) → (said_from from more).text ≡ said
  pub closed : (more : List ℕ) → (said_from from more).closed ≡ true

-- ---- the connection and its server

abbrev pub state_of : {R : Type 0} → ConnState → PipeServer R → PipeState
state_of conn server = record { asking = conn.asking; served = served_state server }

pub record IsInStep {R : Type 0} (conn : ConnState) (server : PipeServer R) : Type 0 where
  pub ready : IsReady server
  -- all that the bytes ask for stands to be asked
  pub settled : asks_after_bytes [] conn.asking ≡ conn.asking
  -- and where nothing is read any more, it is asked to shut the connection
  pub shuts : conn.asking.onward ≡ over → AsksToShut conn.asking.asks

-- how much is left to be asked
abbrev pub left_of : ConnState → ℕ
left_of conn = sum_by asks_of conn.asking.asks

-- an ask was answered
pub record HasWorked {R : Type 0} (old_conn : ConnState) (old : PipeServer R) (new_conn : ConnState)
    (new : PipeServer R) : Type 0 where
  pub said : List ℕ
  pub put : new.output.items ≡ old.output.items ++ said
  pub in_step : IsInStep new_conn new
  pub goes : GoesOn (state_of old_conn old) said (state_of new_conn new)
  pub fewer : left_of new_conn < left_of old_conn

-- an ask was answered, behind which nothing is said
pub record HasClosed {R : Type 0} (old_conn : ConnState) (old new : PipeServer R) : Type 0 where
  pub said : List ℕ
  pub put : new.output.items ≡ old.output.items ++ said
  pub ends : Ends (state_of old_conn old) said

-- nothing is asked, for lack of bytes
pub record NeedsBytes {R : Type 0} (old_conn : ConnState) (old : PipeServer R)
    (new_conn : ConnState) (new : PipeServer R) : Type 0 where
  pub same : new ≡ old
  pub asking : new_conn.asking ≡ old_conn.asking
  pub none : old_conn.asking.asks ≡ []

abbrev pub HasLooked : {R : Type 0} → Option Flow → ConnState → PipeServer R → ConnState
    → PipeServer R → Type 0
HasLooked None old_conn old new_conn new = NeedsBytes old_conn old new_conn new
HasLooked (Some Open) old_conn old new_conn new = HasWorked old_conn old new_conn new
HasLooked (Some Closed) old_conn old new_conn new = HasClosed old_conn old new

-- ---- the sink

-- all that was put was written
pub record IsFlushed {R : Type 0} (old : PipeServer R) (was : Option (List ℕ)) (new : PipeServer R)
    (is : Option (List ℕ)) : Type 0 where
  pub written : Appends was is old.output.items
  pub empty : new.output.items ≡ []
  pub same : new ≡ record old { output = new.output }

-- a write failed just where the answer says so, and no read did
abbrev pub CountsWrites : {T : Type 0} → Result T PipeFault → ℕ → ℕ → Type 0
CountsWrites (Ok x) old new = new ≡ old
CountsWrites (Err Write) old new = new ≡ old + 1
CountsWrites (Err OutOfMemory) old new = new ≡ old
CountsWrites (Err Read) old new = ⊥

-- asks were answered; of what was put and said, this was written
pub record HasMoved {R : Type 0} (old_conn : ConnState) (old : PipeServer R) (was : Option (List ℕ))
    (new_conn : ConnState) (new : PipeServer R) (is : Option (List ℕ)) : Type 0 where
  pub put : List ℕ
  pub said : List ℕ
  pub written : Appends was is put
  pub text : put ++ new.output.items ≡ old.output.items ++ said
  pub in_step : IsInStep new_conn new
  pub goes : GoesOn (state_of old_conn old) said (state_of new_conn new)

-- all that stood to be asked was answered
pub record HasAnsweredAll {R : Type 0} (old_conn : ConnState) (old : PipeServer R)
    (was : Option (List ℕ)) (new_conn : ConnState) (new : PipeServer R) (is : Option (List ℕ)) :
    Type 0 where
  pub moved : HasMoved old_conn old was new_conn new is
  pub none : new_conn.asking.asks ≡ []

-- asks were answered, behind which nothing is said
pub record HasEnded {R : Type 0} (old_conn : ConnState) (old : PipeServer R) (was : Option (List ℕ))
    (new : PipeServer R) (is : Option (List ℕ)) : Type 0 where
  pub put : List ℕ
  pub said : List ℕ
  pub written : Appends was is put
  pub text : put ++ new.output.items ≡ old.output.items ++ said
  pub ends : Ends (state_of old_conn old) said

-- what was written is a beginning of what was put and is to be said, whatever comes behind
pub record HasBegun {R : Type 0} (old_conn : ConnState) (old : PipeServer R)
    (was is : Option (List ℕ)) : Type 0 where
  pub put : List ℕ
  pub rest : List ℕ → List ℕ
  pub written : Appends was is put
  pub text : (more : List ℕ)
      → old.output.items ++ (said_from (state_of old_conn old) more).text ≡ put ++ rest more

abbrev pub Works : {R : Type 0} → Result Flow PipeFault → ConnState → PipeServer R → Option (List ℕ)
    → ConnState → PipeServer R → Option (List ℕ) → Type 0
Works (Ok Open) old_conn old was new_conn new is = HasAnsweredAll old_conn old was new_conn new is
Works (Ok Closed) old_conn old was new_conn new is = HasEnded old_conn old was new is
Works (Err fault) old_conn old was new_conn new is = HasBegun old_conn old was is

-- ---- all that stands to be asked, where nothing was put

-- it was answered, and all of it was written
pub record HasAnswered {R : Type 0} (old_conn : ConnState) (old : PipeServer R)
    (was : Option (List ℕ)) (new_conn : ConnState) (new : PipeServer R) (is : Option (List ℕ)) :
    Type 0 where
  pub said : List ℕ
  pub written : Appends was is said
  pub empty : new.output.items ≡ []
  pub none : new_conn.asking.asks ≡ []
  pub in_step : IsInStep new_conn new
  pub goes : GoesOn (state_of old_conn old) said (state_of new_conn new)

-- and behind it nothing is said
pub record HasFinished {R : Type 0} (old_conn : ConnState) (old : PipeServer R)
    (was is : Option (List ℕ)) : Type 0 where
  pub said : List ℕ
  pub written : Appends was is said
  pub ends : Ends (state_of old_conn old) said

-- a beginning of it was written
pub record HasFronted {R : Type 0} (old_conn : ConnState) (old : PipeServer R)
    (was is : Option (List ℕ)) : Type 0 where
  pub put : List ℕ
  pub rest : List ℕ → List ℕ
  pub written : Appends was is put
  pub text : (more : List ℕ) → (said_from (state_of old_conn old) more).text ≡ put ++ rest more

abbrev pub AnswersAll : {R : Type 0} → Result Flow PipeFault → ConnState → PipeServer R
    → Option (List ℕ) → ConnState → PipeServer R → Option (List ℕ) → Type 0
AnswersAll (Ok Open) old_conn old was new_conn new is = HasAnswered old_conn old was new_conn new is
AnswersAll (Ok Closed) old_conn old was new_conn new is = HasFinished old_conn old was is
AnswersAll (Err fault) old_conn old was new_conn new is = HasFronted old_conn old was is
