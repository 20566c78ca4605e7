-- What becomes of bytes that are sent to a connection.
use Rattle.std.specs.Prelude.{◌≡◌, ℕ, ◌-◌, ◌^◌, ◌+◌, min, Bool, true, if◌then◌else◌, List, [], ◌∷◌, ◌++◌, length, Some, ◌⊎◌}
use Rattle.std.specs.Bool.{OnTrue, OnFalse}
use Rattle.std.specs.Option.{option_or}
use Rattle.net_streams.specs.Writes.{Came}
use Rattle.net_streams.specs.Lives.{Happening, put, taken, Lives, all_taken}
use Rattle.node_net.specs.Keyed.{Behind}
use Rattle.node_net.specs.declared.connection.Cause.TheVariants.{OutOfMemory}
use Rattle.node_net.specs.declared.connection.Connection.{Connection}
use Rattle.node_net.specs.declared.connection.Ending.{Ending}
use Rattle.node_net.specs.declared.connection.Ending.TheVariants.{Open, Shut, Gone}

-- ---- the end of a connection

-- whether it goes on: one whose stream has failed does not
abbrev pub ending_of : {S : Type 0} → Connection S → Ending
ending_of c = if c.wire.has_failed then Gone else c.ending

-- There was no memory for what it is owed: it is sent nothing more and given up, for that cause
-- unless there was another before.
abbrev pub out_of_memory : {S : Type 0} → Connection S → Connection S
out_of_memory c = record c {
  has_gap = true;
  ending = Gone;
  cause = option_or c.cause (Some OutOfMemory);
}

-- how a connection ends of which these bytes wait: one that is shut is given up once none does
abbrev pub ending_beside : Ending → List ℕ → Ending
ending_beside Shut [] = Gone
ending_beside Shut (first ∷ others) = Shut
ending_beside Open waiting = Open
ending_beside Gone waiting = Gone

-- It is given up where it is shut and nothing waits.
abbrev pub closed_if_written : {S : Type 0} → Connection S → Connection S
closed_if_written c = record c { ending = ending_beside c.ending c.out }

-- ---- bytes that are sent

-- What happens as bytes are sent: they are put behind those that wait, and where none waited a run
-- of writes takes a front of them.
abbrev pub sending : List ℕ → List ℕ → List ℕ → List Happening
sending [] bytes front = put bytes ∷ taken front ∷ []
sending (first ∷ others) bytes front = put bytes ∷ []

-- Of a connection to which these bytes were sent these wait, its stream is this one, and may have
-- failed. All else stays.
abbrev pub sent_to : {S : Type 0} → Connection S → List ℕ → List ℕ → Bool → S → Connection S
sent_to c bytes waiting failed stream = record c {
  wire = record c.wire { stream = stream; has_failed = failed };
  out = waiting;
  moved = min (c.moved + length bytes) (2 ^ 64 - 1);
}

-- Bytes are sent, and all of them that the stream does not take wait.
pub record Keeps {S : Type 0} (gave wrote : S → Came → S → Type 0) (old : Connection S)
    (bytes : List ℕ) (new : Connection S) : Type 0 where
  pub front : List ℕ
  pub waiting : List ℕ
  pub failed : Bool
  pub stream : S
  pub lives : Lives gave wrote old.out old.wire.has_failed old.wire.stream
      (sending old.out bytes front) waiting failed stream
  pub is : new ≡ sent_to old bytes waiting failed stream

-- Bytes are sent, and there is no memory for those that the stream does not take: what waited
-- before still waits, the bytes behind it are lost, and the connection is given up.
pub record Loses {S : Type 0} (gave wrote : S → Came → S → Type 0) (old : Connection S)
    (bytes : List ℕ) (new : Connection S) : Type 0 where
  pub front : List ℕ
  pub lost : List ℕ
  pub failed : Bool
  pub stream : S
  pub lives : Lives gave wrote old.out old.wire.has_failed old.wire.stream
      (sending old.out bytes front) (old.out ++ lost) failed stream
  pub is : new ≡ out_of_memory (sent_to old bytes old.out failed stream)

-- Bytes are sent behind some of which none is lost: they are kept, or the connection is given up.
abbrev pub KeepsOrLoses : {S : Type 0} → (S → Came → S → Type 0) → (S → Came → S → Type 0)
    → Connection S → List ℕ → Connection S → Type 0
KeepsOrLoses gave wrote old bytes new =
    Keeps gave wrote old bytes new ⊎ Loses gave wrote old bytes new

-- Bytes are sent. Behind some that are lost these are lost too: nothing is written, and nothing
-- changes.
abbrev pub Sends : {S : Type 0} → (S → Came → S → Type 0) → (S → Came → S → Type 0) → Connection S
    → List ℕ → Connection S → Type 0
Sends gave wrote old bytes new =
    OnTrue old.has_gap (new ≡ old) × OnFalse old.has_gap (KeepsOrLoses gave wrote old bytes new)

-- Bytes that were taken for it are sent. It is given up where it is to be closed and all is
-- written.
abbrev pub SendsTaken : {S : Type 0} → (S → Came → S → Type 0) → (S → Came → S → Type 0) → List ℕ
    → Connection S → Connection S → Type 0
SendsTaken {S} gave wrote bytes old new =
    (sent : Connection S) × Sends gave wrote old bytes sent × (new ≡ closed_if_written sent)

-- What was encoded is sent, where there was memory for all of it. Else it is given up, and is sent
-- nothing more.
abbrev pub SendsWhole : {S : Type 0} → (S → Came → S → Type 0) → (S → Came → S → Type 0) → List ℕ
    → Bool → Connection S → Connection S → Type 0
SendsWhole gave wrote bytes is_whole old new =
    OnTrue is_whole (Sends gave wrote old bytes new) × OnFalse is_whole (new ≡ out_of_memory old)

-- ---- what is noted of it

-- All that changes is whether it is noted that it goes.
abbrev pub IsNoted : {S : Type 0} → Connection S → Connection S → Type 0
IsNoted old new = new ≡ record old { is_leaving = new.is_leaving }

-- All that changes is when its buffers are given back.
abbrev pub Rests : {S : Type 0} → Connection S → Connection S → Type 0
Rests old new = new ≡ record old { rests_at = new.rests_at }

-- All that changes is how it ends, and until when it may stay.
abbrev pub IsLimited : {S : Type 0} → Connection S → Connection S → Type 0
IsLimited old new = new ≡ record old { ending = new.ending; deadline = new.deadline }

-- Nothing is sent to it and nothing is read of it: the stream is the same, with what waits for it
-- and with who is at the other end.
pub record KeepsStream {S : Type 0} (old new : Connection S) : Type 0 where
  pub wire : new.wire ≡ old.wire
  pub out : new.out ≡ old.out
  pub gap : new.has_gap ≡ old.has_gap
  pub link : new.link ≡ old.link

-- All that changes is why the server ends it, and whether that was told.
abbrev pub IsBlamed : {S : Type 0} → Connection S → Connection S → Type 0
IsBlamed old new = new ≡ record old { cause = new.cause; is_told = new.is_told }

-- It is given up.
abbrev pub GivesUp : {S : Type 0} → Connection S → Connection S → Type 0
GivesUp old new = new ≡ record old { ending = Gone }

-- It is given up, and may be noted for that.
abbrev pub IsGivenUp : {S : Type 0} → Connection S → Connection S → Type 0
IsGivenUp = Behind GivesUp IsNoted

-- The same, for a cause.
abbrev pub IsGivenUpFor : {S : Type 0} → Connection S → Connection S → Type 0
IsGivenUpFor = Behind IsBlamed IsGivenUp

-- ---- what follows

-- Of bytes that are sent and kept: what the stream took, and behind it what waits, is what waited
-- before and behind it these bytes, in order.
abbrev pub KeptInOrder : {S : Type 0} → (S → Came → S → Type 0) → (S → Came → S → Type 0) → Type 0
KeptInOrder {S} gave wrote =
    (old : Connection S) (bytes : List ℕ) (new : Connection S)
    (keeps : Keeps gave wrote old bytes new)
    → all_taken (sending old.out bytes keeps.front) ++ new.out ≡ old.out ++ bytes

-- Where some are lost, those stand behind all that waits, and the connection is given up.
abbrev pub LostAtTheEnd : {S : Type 0} → (S → Came → S → Type 0) → (S → Came → S → Type 0) → Type 0
LostAtTheEnd {S} gave wrote =
    (old : Connection S) (bytes : List ℕ) (new : Connection S)
    (loses : Loses gave wrote old bytes new)
    → (all_taken (sending old.out bytes loses.front) ++ (new.out ++ loses.lost) ≡ old.out ++ bytes)
    × (new.ending ≡ Gone)

-- Once some are lost, nothing is sent any more.
abbrev pub NothingBehindALoss : {S : Type 0}
    → (S → Came → S → Type 0)
    → (S → Came → S → Type 0)
    → Type 0
NothingBehindALoss {S} gave wrote =
    (old : Connection S) (bytes : List ℕ) (gone : Connection S) (more : List ℕ) (new : Connection S)
    → Loses gave wrote old bytes gone
    → Sends gave wrote gone more new
    → new ≡ gone
