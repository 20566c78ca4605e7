-- A step of the sessions: why an event is refused, the state after it, and the answer.
use Rattle.std.specs.Prelude.{◌≡◌, ℕ, ◌+◌, Bool, not, ◌&&◌, ◌||◌, nat_eq, nat_lt, nat_le, List, [], ◌∷◌, ◌++◌, length, filter, map, Option, Some, None, is_some, Result, if◌then◌else◌}
use Rattle.subj.specs.Answers.{IsDecided}
use Rattle.subj.specs.declared.limits.TheConstants.{MAX_COUNTER, MAX_SESSIONS}
use Rattle.subj.specs.Servers.{ServerIdentity, own_name, place, is_peer}
use Rattle.route_values.specs.Records.{Info, Connect}
use Rattle.route_session.specs.declared.faults.SessionFault.{SessionFault}
use Rattle.route_session.specs.declared.faults.SessionFault.TheVariants.{WrongName, OldIncarnation, Duplicate, UnknownSession, TooManySessions, Spent}
use Rattle.route_session.specs.Best.{Offer, is_better}
use Rattle.route_session.specs.State.{State, Session, session_at, is_of_peer, kept_for, number_kept, peer_of_session}
use Rattle.route_session.specs.Events.{Event, Dial, Accept, OnInfo, OnConnect, Cut, Answer, Dialed, Accepted, KeptAfterInfo, Kept, WasCut}

-- ---- why an event is refused, the first cause first (profile)

abbrev pub room_refusal : State → Option SessionFault
room_refusal s =
    if nat_le MAX_SESSIONS (length s.standing) then Some TooManySessions
    else (if nat_le MAX_COUNTER s.numbers then Some Spent else None)

abbrev pub dial_refusal : ServerIdentity → State → ℕ → Option SessionFault
dial_refusal server s q = if is_peer server q then room_refusal s else Some WrongName

-- the new one must be better than the kept one
abbrev pub loses_to : Offer → ℕ → Option Offer → Option SessionFault
loses_to new number None = None
loses_to new number (Some old) = if is_better new old then None else Some (Duplicate number)

abbrev pub duplicate_fault : Offer → Option Session → Option SessionFault
duplicate_fault new None = None
duplicate_fault new (Some old) = loses_to new old.number old.kept

-- what an INFO offers on a dialed session, and a CONNECT on an accepted one
abbrev pub info_offer : ServerIdentity → Session → Info → Offer
info_offer server session info = record {
  peer = place server info.server_name;
  inc = info.inc;
  dialer = server.me;
  serial = session.serial;
}

abbrev pub connect_offer : ServerIdentity → Connect → Offer
connect_offer server connect = record {
  peer = place server connect.server_name;
  inc = connect.inc;
  dialer = place server connect.server_name;
  serial = connect.serial;
}

abbrev pub info_fault : ServerIdentity → State → Session → Info → ℕ → Option ℕ → Option SessionFault
info_fault server s session info least None = Some UnknownSession
info_fault server s session info least (Some q) =
    if not (nat_eq (place server info.server_name) q && is_peer server q) then Some WrongName
    else (if nat_lt info.inc least then Some OldIncarnation
    else duplicate_fault (info_offer server session info) (kept_for q s.standing))

abbrev pub info_refusal : ServerIdentity → State → Option Session → Info → ℕ → Option SessionFault
info_refusal server s None info least = Some UnknownSession
info_refusal server s (Some session) info least =
    if is_some session.kept then Some UnknownSession
    else info_fault server s session info least session.dialed

abbrev pub connect_fault : ServerIdentity → State → Connect → ℕ → Option ℕ → Option SessionFault
connect_fault server s connect least (Some q) = Some UnknownSession
connect_fault server s connect least None =
    if not (nat_eq (place server connect.to) server.me
    && is_peer server (place server connect.server_name))
    then Some WrongName
    else (if nat_lt connect.inc least || not (nat_eq connect.to_inc server.inc)
    then Some OldIncarnation
    else duplicate_fault (connect_offer server connect)
    (kept_for (place server connect.server_name) s.standing))

abbrev pub connect_refusal : ServerIdentity → State → Option Session → Connect → ℕ
    → Option SessionFault
connect_refusal server s None connect least = Some UnknownSession
connect_refusal server s (Some session) connect least =
    if is_some session.kept then Some UnknownSession
    else connect_fault server s connect least session.dialed

abbrev pub cut_refusal : Option Session → Option SessionFault
cut_refusal None = Some UnknownSession
cut_refusal (Some session) = None

abbrev pub session_refusal : ServerIdentity → State → Event → Option SessionFault
session_refusal server s (Dial q) = dial_refusal server s q
session_refusal server s Accept = room_refusal s
session_refusal server s (OnInfo number info least) =
    info_refusal server s (session_at number s.standing) info least
session_refusal server s (OnConnect number connect least) =
    connect_refusal server s (session_at number s.standing) connect least
session_refusal server s (Cut number) = cut_refusal (session_at number s.standing)

-- ---- the state after an event that is not refused

abbrev pub after_dial : State → ℕ → State
after_dial s q = record {
  numbers = s.numbers + 1;
  dials = s.dials + 1;
  standing =
      s.standing
      ++ record { number = s.numbers + 1; dialed = Some q; serial = s.dials + 1; kept = None } ∷ [];
}

abbrev pub after_accept : State → State
after_accept s = record s {
  numbers = s.numbers + 1;
  standing =
      s.standing ++ record { number = s.numbers + 1; dialed = None; serial = 0; kept = None } ∷ [];
}

abbrev pub is_not_of_peer : ℕ → Session → Bool
is_not_of_peer q session = not (is_of_peer q session.kept)

-- without the kept session of a peer
abbrev pub without_peer : ℕ → State → State
without_peer q s = record s { standing = filter (is_not_of_peer q) s.standing }

abbrev pub kept_at : ℕ → Offer → Session → Session
kept_at number offer session =
    if nat_eq session.number number then record session { kept = Some offer } else session

-- the session is kept, in place of the one that was kept for its peer
abbrev pub after_completion : ℕ → Offer → State → State
after_completion number offer s = record s {
  standing = map (kept_at number offer) (without_peer offer.peer s).standing;
}

abbrev pub after_info : ServerIdentity → State → Info → Option Session → State
after_info server s info None = s
after_info server s info (Some session) =
    after_completion session.number (info_offer server session info) s

abbrev pub is_another : ℕ → Session → Bool
is_another number session = not (nat_eq session.number number)

abbrev pub after_cut : ℕ → State → State
after_cut number s = record s { standing = filter (is_another number) s.standing }

-- without the kept sessions of these peers
abbrev pub without_peers : List ℕ → State → State
without_peers [] s = s
without_peers (q ∷ qs) s = without_peers qs (without_peer q s)

abbrev pub session_after : ServerIdentity → State → Event → State
session_after server s (Dial q) = after_dial s q
session_after server s Accept = after_accept s
session_after server s (OnInfo number info least) =
    after_info server s info (session_at number s.standing)
session_after server s (OnConnect number connect least) =
    after_completion number (connect_offer server connect) s
session_after server s (Cut number) = after_cut number s

-- ---- what is answered

abbrev pub own_info : ServerIdentity → Info
own_info server = record { server_name = own_name server; inc = server.inc }

abbrev pub serial_of : Option Session → ℕ
serial_of None = 0
serial_of (Some session) = session.serial

-- the CONNECT that answers an INFO
abbrev pub own_connect : ServerIdentity → Info → ℕ → Connect
own_connect server info serial = record {
  server_name = own_name server;
  inc = server.inc;
  to = info.server_name;
  to_inc = info.inc;
  serial = serial;
}

abbrev pub session_answer : ServerIdentity → State → Event → Answer
session_answer server s (Dial q) = Dialed (s.numbers + 1)
session_answer server s Accept = Accepted (s.numbers + 1) (own_info server)
session_answer server s (OnInfo number info least) =
    KeptAfterInfo (number_kept (place server info.server_name) s.standing)
    (own_connect server info (serial_of (session_at number s.standing)))
session_answer server s (OnConnect number connect least) =
    Kept (number_kept (place server connect.server_name) s.standing)
session_answer server s (Cut number) = WasCut (peer_of_session number s.standing)

-- ---- a step: done as computed, or refused by the first cause, which changes nothing
abbrev pub SessionStep : ServerIdentity → State → Event → Result Answer SessionFault → State
    → Type 0
SessionStep server old event outcome new =
    IsDecided (session_refusal server old event)
    (λ answer. (answer ≡ session_answer server old event) × (new ≡ session_after server old event))
    (new ≡ old) outcome
