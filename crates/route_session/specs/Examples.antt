-- Closed examples: what sessions answer, by hand.
use Rattle.std.specs.Prelude.{◌≡◌, ℕ, codes, List, [], ◌∷◌, replicate, Some, None}
use Rattle.subj.specs.declared.limits.TheConstants.{MAX_COUNTER, MAX_SESSIONS}
use Rattle.subj.specs.Servers.{ServerIdentity}
use Rattle.route_values.specs.Records.{Info, Connect}
use Rattle.route_session.specs.declared.faults.SessionFault.{SessionFault}
use Rattle.route_session.specs.declared.faults.SessionFault.TheVariants.{WrongName, OldIncarnation, Duplicate, UnknownSession, TooManySessions, Spent}
use Rattle.route_session.specs.State.{State, no_sessions, number_kept}
use Rattle.route_session.specs.Events.{Event, Dial, Accept, OnInfo, OnConnect, Cut, Answer, Dialed, Accepted, KeptAfterInfo, Kept, WasCut}
use Rattle.route_session.specs.Steps.{session_refusal, session_after, session_answer}

-- ---- what an example says

-- the event is done with this answer
abbrev pub Gives : ServerIdentity → State → Event → Answer → Type 0
Gives server s event answer =
    (session_refusal server s event ≡ None) × (session_answer server s event ≡ answer)

abbrev pub Refuses : ServerIdentity → State → Event → SessionFault → Type 0
Refuses server s event why = session_refusal server s event ≡ Some why

-- after events that are done, from the start
abbrev pub after_all : ServerIdentity → State → List Event → State
after_all server s [] = s
after_all server s (event ∷ events) = after_all server (session_after server s event) events

abbrev pub after : ServerIdentity → List Event → State
after server events = after_all server no_sessions events

-- ---- two servers, both in their incarnation 5; n1 has the smaller place

abbrev pub names : List (List ℕ)
names = codes "n1" ∷ codes "n2" ∷ []

abbrev pub n1 : ServerIdentity
n1 = record { names = names; me = 0; inc = 5; shards = 1 }

abbrev pub n2 : ServerIdentity
n2 = record { names = names; me = 1; inc = 5; shards = 1 }

abbrev pub info : List ℕ → ℕ → Info
info name inc = record { server_name = name; inc = inc }

-- the CONNECT of n1 to n2, and that of n2 in this incarnation to n1
abbrev pub from_n1 : ℕ → Connect
from_n1 serial = record {
  server_name = codes "n1";
  inc = 5;
  to = codes "n2";
  to_inc = 5;
  serial = serial;
}

abbrev pub from_n2 : ℕ → ℕ → Connect
from_n2 inc serial = record {
  server_name = codes "n2";
  inc = inc;
  to = codes "n1";
  to_inc = 5;
  serial = serial;
}

-- ---- both dial at the same time: each dials its session 1 and accepts its session 2

abbrev pub n1_kept : State
n1_kept = after n1 (Dial 1 ∷ Accept ∷ OnInfo 1 (info (codes "n2") 5) 0 ∷ [])

abbrev pub n2_kept : State
n2_kept = after n2 (Dial 0 ∷ Accept ∷ OnInfo 1 (info (codes "n1") 5) 0 ∷ [])

-- n1 dials once more
abbrev pub n1_again : State
n1_again = session_after n1 n1_kept (Dial 1)

pub record DialsCross : Type 0 where
  pub dialed : Gives n1 no_sessions (Dial 1) (Dialed 1)
  pub accepted : Gives n1 (after n1 (Dial 1 ∷ [])) Accept (Accepted 2 (info (codes "n1") 5))
  pub n1_info : Gives n1 (after n1 (Dial 1 ∷ Accept ∷ [])) (OnInfo 1 (info (codes "n2") 5) 0)
      (KeptAfterInfo None (from_n1 1))
  pub n2_info : Gives n2 (after n2 (Dial 0 ∷ Accept ∷ [])) (OnInfo 1 (info (codes "n1") 5) 0)
      (KeptAfterInfo None (from_n2 5 1))
  -- n2 keeps the session that n1 dialed, and n1 its own
  pub n2_connect : Gives n2 n2_kept (OnConnect 2 (from_n1 1) 5) (Kept (Some 1))
  pub n1_connect : Refuses n1 n1_kept (OnConnect 2 (from_n2 5 1) 5) (Duplicate 1)
  pub n2_keeps :
      number_kept 0 (session_after n2 n2_kept (OnConnect 2 (from_n1 1) 5)).standing ≡ Some 2
  pub n1_keeps : number_kept 1 n1_kept.standing ≡ Some 1
  -- of two that n1 dialed the later one stays
  pub again : Gives n1 n1_kept (Dial 1) (Dialed 3)
  pub again_info :
      Gives n1 n1_again (OnInfo 3 (info (codes "n2") 5) 5) (KeptAfterInfo (Some 1) (from_n1 2))
  pub again_kept :
      number_kept 1 (session_after n1 n1_again (OnInfo 3 (info (codes "n2") 5) 5)).standing ≡ Some 3

-- ---- which one is the better, and that the worse one is refused and changes nothing

-- n2 keeps its session 2, which n1 dialed with serial 2, and has accepted a third
abbrev pub n2_third : State
n2_third = after n2 (Accept ∷ Accept ∷ OnConnect 2 (from_n1 2) 0 ∷ Accept ∷ [])

pub record KeepsTheBetter : Type 0 where
  -- an earlier dial, and the same one, don't take its place; a later one does
  pub earlier : Refuses n2 n2_third (OnConnect 3 (from_n1 1) 5) (Duplicate 2)
  pub same : Refuses n2 n2_third (OnConnect 3 (from_n1 2) 5) (Duplicate 2)
  pub later : Gives n2 n2_third (OnConnect 3 (from_n1 3) 5) (Kept (Some 2))
  -- a greater incarnation of the peer comes before all else
  pub greater : Gives n1 n1_kept (OnConnect 2 (from_n2 6 1) 5) (Kept (Some 1))
  -- the cut of the kept session cuts the peer; that of another one does not
  pub cut : Gives n2 n2_third (Cut 2) (WasCut (Some 0))
  pub other : Gives n2 n2_third (Cut 3) (WasCut None)
  pub other_kept : number_kept 0 (session_after n2 n2_third (Cut 3)).standing ≡ Some 2

-- ---- refusals, the first cause first

-- as many sessions stand as may, and no number is left
abbrev pub crowded : State
crowded = record {
  numbers = MAX_COUNTER;
  dials = 0;
  standing = replicate MAX_SESSIONS (record { number = 1; dialed = None; serial = 0; kept = None });
}

abbrev pub spent : State
spent = record no_sessions { numbers = MAX_COUNTER }

pub record RefusesInOrder : Type 0 where
  -- nobody dials itself, or a place of no server
  pub itself : Refuses n1 crowded (Dial 0) WrongName
  pub nobody : Refuses n1 no_sessions (Dial 2) WrongName
  pub no_room : Refuses n1 crowded (Dial 1) TooManySessions
  pub no_number : Refuses n1 spent (Dial 1) Spent
  -- a session that doesn't stand, one that was completed, and one of the other side
  pub gone : Refuses n1 n1_kept (OnInfo 3 (info (codes "n3") 5) 9) UnknownSession
  pub completed : Refuses n1 n1_kept (OnInfo 1 (info (codes "n2") 5) 5) UnknownSession
  pub wrong_side : Refuses n1 n1_kept (OnInfo 2 (info (codes "n2") 5) 5) UnknownSession
  pub ended : Refuses n1 (session_after n1 n1_kept (Cut 1)) (Cut 1) UnknownSession
  -- a wrong name is told before an old incarnation, and this before a duplicate
  pub wrong_name : Refuses n1 n1_again (OnInfo 3 (info (codes "n1") 4) 5) WrongName
  pub old : Refuses n1 n1_again (OnInfo 3 (info (codes "n2") 4) 5) OldIncarnation
  -- a CONNECT to another incarnation of this server
  pub old_own :
      Refuses n2 n2_third (OnConnect 3 (record (from_n1 1) { to_inc = 4 }) 5) OldIncarnation
  pub to_another : Refuses n2 n2_third
      (OnConnect 3 (record (from_n1 1) { to = codes "n1"; inc = 4 }) 5) WrongName
