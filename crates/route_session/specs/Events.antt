-- What the sessions are asked, and what they answer. Servers are named by their places, but for the
-- frames.
use Rattle.std.specs.Prelude.{ℕ, Option}
use Rattle.route_values.specs.Records.{Info, Connect}

-- of an INFO or a CONNECT comes along the greatest incarnation seen of its sender
pub data Event : Type 0 where
  Dial : (peer : ℕ) → Event
  Accept : Event
  OnInfo : (session : ℕ) (info : Info) (least : ℕ) → Event
  OnConnect : (session : ℕ) (connect : Connect) (least : ℕ) → Event
  Cut : (session : ℕ) → Event

pub data Answer : Type 0 where
  Dialed : (session : ℕ) → Answer
  -- with the INFO to send
  Accepted : (session : ℕ) (info : Info) → Answer
  -- kept, in place of another session, with the CONNECT to send
  KeptAfterInfo : (instead_of : Option ℕ) (connect : Connect) → Answer
  Kept : (instead_of : Option ℕ) → Answer
  -- the peer that is cut with it
  WasCut : (peer : Option ℕ) → Answer
