-- The sessions of a server as one value: what a call is refused for, what it does, and what always
-- holds.
use Rattle.std.specs.Prelude.{◌≡◌, ℕ, ◌<◌, ◌≤◌, Bool, true, ◌&&◌, nat_le, List, length, All, Option, Some, None, is_some, if◌then◌else◌}
use Rattle.std.specs.List.{AllPairs}
use Rattle.subj.specs.declared.limits.TheConstants.{MAX_COUNTER, MAX_SESSIONS}
use Rattle.subj.specs.Servers.{ServerIdentity, place, is_peer}
use Rattle.route_values.specs.Records.{Info, Connect, is_serial}
use Rattle.route_session.specs.declared.faults.SessionFault.{SessionFault}
use Rattle.route_session.specs.Best.{Offer}
use Rattle.route_session.specs.State.{State, Session, no_sessions, session_at}
use Rattle.route_session.specs.Events.{Event, Answer}
use Rattle.route_session.specs.Steps.{session_refusal, session_after, session_answer, serial_of, connect_offer, after_completion, after_info}

-- a server, and its sessions
pub record Served : Type 0 where
  pub server : ServerIdentity
  pub state : State

-- before the first session
abbrev pub new_sessions : ServerIdentity → Served
new_sessions server = record { server = server; state = no_sessions }

-- why an event is refused
abbrev pub refusal : Served → Event → Option SessionFault
refusal s event = session_refusal s.server s.state event

-- the server with its sessions after an event that is not refused
abbrev pub after : Served → Event → Served
after s event = record { server = s.server; state = session_after s.server s.state event }

-- what is answered to an event, and what stands then
pub record DoesStep (old : Served) (event : Event) (answer : Answer) (new : Served) : Type 0 where
  pub answered : answer ≡ session_answer old.server old.state event
  pub after : new ≡ after old event

-- ---- what an offer is judged by

-- the place of the peer of this name
abbrev pub peer_of : ServerIdentity → List ℕ → Option ℕ
peer_of server name = if is_peer server (place server name) then Some (place server name) else None

-- the session, where it is not completed
abbrev pub not_completed : Option Session → Option Session
not_completed None = None
not_completed (Some session) = if is_some session.kept then None else Some session

abbrev pub open_session : ℕ → List Session → Option Session
open_session number standing = not_completed (session_at number standing)

-- what an INFO offers on this session: by a peer, on a dial with its serial
pub record IsInfoOffer (s : Served) (number : ℕ) (info : Info) (offer : Offer) : Type 0 where
  pub peer : is_peer s.server offer.peer ≡ true
  pub serial : is_serial offer.serial ≡ true
  pub dial : offer.serial ≡ serial_of (session_at number s.state.standing)
  pub name : offer.peer ≡ place s.server info.server_name
  pub after : after_completion number offer s.state
      ≡ after_info s.server s.state info (session_at number s.state.standing)

-- what a CONNECT offers: by a peer
pub record IsConnectOffer (s : Served) (connect : Connect) (offer : Offer) : Type 0 where
  pub peer : is_peer s.server offer.peer ≡ true
  pub same : offer ≡ connect_offer s.server connect

-- ---- what always holds

-- a dial has a serial, and none is above the last one
abbrev pub is_dial : ℕ → ℕ → Option ℕ → Bool
is_dial dials serial None = true
is_dial dials serial (Some q) = nat_le 1 serial && nat_le serial dials

-- what is kept was offered by another server of the cluster
abbrev pub is_of_a_peer : ServerIdentity → Option Offer → Bool
is_of_a_peer server None = true
is_of_a_peer server (Some offer) = is_peer server offer.peer

-- a session that stands, of so many numbers and dials
pub record IsSession (server : ServerIdentity) (numbers dials : ℕ) (session : Session) :
    Type 0 where
  pub first : 1 ≤ session.number
  pub last : session.number ≤ numbers
  pub dial : is_dial dials session.serial session.dialed ≡ true
  pub peer : is_of_a_peer server session.kept ≡ true

-- numbers and dials are counted within their limit; no more sessions stand than may, each once and
-- in order of its number
pub record AreSessions (server : ServerIdentity) (s : State) : Type 0 where
  pub numbers : s.numbers ≤ MAX_COUNTER
  pub dials : s.dials ≤ s.numbers
  pub few : length s.standing ≤ MAX_SESSIONS
  pub rising : AllPairs (λ a b. a.number < b.number) s.standing
  pub each : All (IsSession server s.numbers s.dials) s.standing
