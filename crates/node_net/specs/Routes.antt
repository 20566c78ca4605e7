-- Which calls a route makes of the hub, one hold of its lock after the other.
use Rattle.std.specs.Prelude.{◌≡◌, ◌⊎◌, ℕ, ◌≤◌, Bool, true, false, not, nat_eq, if◌then◌else◌, List, [], ◌∷◌, ◌++◌, length, Option, Some, None, Result, Ok, Err, option_to_list}
use Rattle.std.specs.Str.{bytes_eq}
use Rattle.std.specs.List.{position}
use Rattle.std.specs.Option.{option_zip}
use Rattle.subj.specs.Servers.{ServerIdentity}
use Rattle.subj.specs.declared.failures.Failure.{Failure}
use Rattle.subj.specs.declared.failures.Failure.TheVariants.{Refused, OutOfMemory}
use Rattle.subj.specs.declared.limits.TheConstants.{WINDOW}
use Rattle.hub_core.specs.declared.faults.HubFault.{HubFault}
use Rattle.hub_core.specs.declared.faults.HubFault.TheVariants.{Late, Busy}
use Rattle.route_session.specs.declared.faults.SessionFault.{SessionFault}
use Rattle.route_values.specs.Frames.{Frame}
use Rattle.route_values.specs.Records.{Info, Connect}
use Rattle.route_values.specs.declared.frames.RouteFrame.{RouteFrame}
use Rattle.route_values.specs.declared.frames.RouteFrame.TheVariants as route
use Rattle.server_calls.specs.Routed.{Routed, informed, connected, received, was_cut, took, RouteChain, WasRouted}
use Rattle.node_net.specs.Reading.{ReadsFrames}
use Rattle.node_net.specs.declared.route_link.RouteLink.{RouteLink}
use Rattle.node_net.specs.declared.route_link.Stage.{Stage}
use Rattle.node_net.specs.declared.route_link.Stage.TheVariants.{Dialed, Accepted, Kept}
use Rattle.node_net.specs.declared.route_link.Stepped.{Stepped}
use Rattle.node_net.specs.declared.route_link.Stepped.TheVariants as step
use Rattle.node_net.specs.declared.route_link.Told.{Told}
use Rattle.node_net.specs.declared.route_link.Told.TheVariants as told
use Rattle.node_net.specs.declared.runs.Ran.{Ran}
use Rattle.node_net.specs.declared.runs.Ran.TheVariants as ran

-- ---- whom a session is kept with

-- the place of the server of this name
abbrev pub place_of : ServerIdentity → List ℕ → Option ℕ
place_of life name = position (λ other. bytes_eq other name) life.names

-- The frame is of the server that the session is kept with.
abbrev pub IsOfPeer : ServerIdentity → Stage → Frame → Type 0
IsOfPeer life (Kept peer inc) frame = place_of life frame.from ≡ Some peer
IsOfPeer life (Dialed peer) frame = ⊥
IsOfPeer life (Accepted from proved) frame = ⊥

-- whether it is of the life of that server with which the session is kept
abbrev pub is_of_life : Stage → Frame → Bool
is_of_life (Kept peer inc) frame = nat_eq frame.inc inc
is_of_life (Dialed peer) frame = false
is_of_life (Accepted from proved) frame = false

-- the place of the server that was dialed
abbrev pub dialed_place : Stage → Option ℕ
dialed_place (Dialed peer) = Some peer
dialed_place (Accepted from proved) = None
dialed_place (Kept peer inc) = None

-- the place of the server that the session is kept with
abbrev pub kept_place : Stage → Option ℕ
kept_place (Kept peer inc) = Some peer
kept_place (Dialed peer) = None
kept_place (Accepted from proved) = None

-- whether the other end has proved that it is another server than the one at this place
abbrev pub has_proved_other : Stage → ℕ → Bool
has_proved_other (Accepted from (Some place)) peer = not (nat_eq place peer)
has_proved_other (Accepted from None) peer = false
has_proved_other (Dialed place) peer = false
has_proved_other (Kept place inc) peer = false

-- ---- frames that are handed to the hub

-- what became of a frame
abbrev pub Came : Type 0
Came = Result (Unit {0}) (Failure HubFault)

-- whether it is done with: it was taken, or had come before
abbrev pub is_done : Came → Bool
is_done (Ok done) = true
is_done (Err (Refused Late)) = true
is_done (Err fault) = false

-- How a run ends behind a frame that is of the life of its server with which the session is kept,
-- or not; None: it goes on. One of another life is the last of the route.
abbrev pub end_of_refusal : HubFault → Option Ran
end_of_refusal Late = None
end_of_refusal (Busy busy) = Some ran.Busy
end_of_refusal fault = Some ran.Refused

abbrev pub end_behind : Bool → Came → Option Ran
end_behind is_of_life (Ok done) = if is_of_life then None else Some ran.Refused
end_behind is_of_life (Err (Refused fault)) = end_of_refusal fault
end_behind is_of_life (Err OutOfMemory) = Some ran.Short

-- The frames that stand to be taken behind one that came to this: one that is not done with stands
-- first, to be handed over again.
abbrev pub standing_behind : Frame → Came → List RouteFrame → List RouteFrame
standing_behind frame came rest = if is_done came then rest else route.Numbered frame ∷ rest

-- These calls hand over the frames that stand to be taken: the first of them each time, which is of
-- the server that the session is kept with.
abbrev pub HandsOver : (Frame → Type 0) → List RouteFrame → List Routed → List RouteFrame → Type 0
HandsOver is_of_peer standing [] left = left ≡ standing
HandsOver is_of_peer standing (received frame came ∷ more) left =
    (rest : List RouteFrame)
    × (standing ≡ route.Numbered frame ∷ rest)
    × is_of_peer frame
    × HandsOver is_of_peer (standing_behind frame came rest) more left
HandsOver is_of_peer standing (informed session info came ∷ more) left = ⊥
HandsOver is_of_peer standing (connected session connect came ∷ more) left = ⊥
HandsOver is_of_peer standing (was_cut session ∷ more) left = ⊥
HandsOver is_of_peer standing (took peer count frames ∷ more) left = ⊥

-- behind each of these the run goes on
abbrev pub GoOn : Stage → List Routed → Type 0
GoOn stage [] = Unit {0}
GoOn stage (received frame came ∷ more) =
    (end_behind (is_of_life stage frame) came ≡ None) × GoOn stage more
GoOn stage (informed session info came ∷ more) = ⊥
GoOn stage (connected session connect came ∷ more) = ⊥
GoOn stage (was_cut session ∷ more) = ⊥
GoOn stage (took peer count frames ∷ more) = ⊥

-- the last of these ends the run so, and no other does
pub record Stops (stage : Stage) (end : Ran) (calls : List Routed) : Type 0 where
  pub front : List Routed
  pub frame : Frame
  pub came : Came
  pub are : calls ≡ front ++ received frame came ∷ []
  pub go_on : GoOn stage front
  pub last : end_behind (is_of_life stage frame) came ≡ Some end

-- ---- frames that are not

-- No numbered frame was read that stands to be taken.
abbrev pub HasNoNumbered : Option RouteFrame → Type 0
HasNoNumbered None = Unit {0}
HasNoNumbered (Some (route.Info info)) = Unit {0}
HasNoNumbered (Some (route.Connect connect)) = Unit {0}
HasNoNumbered (Some (route.Numbered frame)) = ⊥

-- A frame stands to be taken that is not of the server that the session is kept with.
abbrev pub HasOther : ServerIdentity → Stage → Option RouteFrame → Type 0
HasOther life stage None = ⊥
HasOther life stage (Some (route.Info info)) = ⊥
HasOther life stage (Some (route.Connect connect)) = ⊥
HasOther life stage (Some (route.Numbered frame)) = ¬ IsOfPeer life stage frame

-- How it ends that a frame is read: more bytes are needed, there is no memory, or what came is
-- refused.
abbrev pub EndsReading : Ran → Type 0
EndsReading ran.Waits = Unit {0}
EndsReading ran.Short = Unit {0}
EndsReading ran.Refused = Unit {0}
EndsReading ran.Goes = ⊥
EndsReading ran.Busy = ⊥
EndsReading ran.Shut = ⊥
EndsReading ran.Posed = ⊥

-- Nothing is handed over: none could be read, and it has come to that; or this stands to be taken.
abbrev pub EndsWithout : ServerIdentity → Stage → Option Ran → Ran → Option RouteFrame → Type 0
EndsWithout life stage looked end left =
    ((looked ≡ Some end) × EndsReading end × (left ≡ None))
    ⊎ ((looked ≡ None)
    × (((end ≡ ran.Goes) × HasNoNumbered left)
    ⊎ ((end ≡ ran.Refused) × HasOther life stage left)))

-- ---- what is read

-- Something more of what came is read, and nothing else changes.
abbrev pub ReadsOn : RouteLink → RouteLink → Type 0
ReadsOn old new =
    new ≡ record old {
      cutter = new.cutter;
      line = new.line;
      unjoined = new.unjoined;
      ahead = new.ahead;
    }

-- The same, and what stands to be taken is the same too.
abbrev pub ReadsBehind : RouteLink → RouteLink → Type 0
ReadsBehind old new =
    new ≡ record old { cutter = new.cutter; line = new.line; unjoined = new.unjoined }

-- Something more of what came is read: these frames, which come first in it. Where none could be
-- read, it comes to this.
pub record ReadsSo (end : Option Ran) (old new : RouteLink) (read : List RouteFrame) : Type 0 where
  pub on : ReadsOn old new
  pub reads : ReadsFrames end read old new

-- Where a frame stands to be taken; or none does, and it comes to this.
abbrev pub LooksSo : Option Ran → Option RouteFrame → Type 0
LooksSo None None = ⊥
LooksSo None (Some frame) = Unit {0}
LooksSo (Some end) None = EndsReading end
LooksSo (Some end) (Some frame) = ⊥

-- The next frame is read, unless one was that is not taken yet.
pub record Looks (old : RouteLink) (end : Option Ran) (new : RouteLink) : Type 0 where
  pub read : List RouteFrame
  pub on : ReadsSo end old new read
  pub ahead : option_to_list new.ahead ≡ option_to_list old.ahead ++ read
  pub ends : LooksSo end new.ahead

-- ---- a run

-- How a run ends with these calls, of at most so many, where this stands to be taken.
abbrev pub EndsSo : ServerIdentity → Stage → Option Ran → Ran → ℕ → List Routed
    → Option RouteFrame → Type 0
EndsSo life stage looked end most calls left =
    ((looked ≡ None) × Stops stage end calls)
    ⊎ (GoOn stage calls
    × (((looked ≡ None) × (end ≡ ran.Goes) × (length calls ≡ most))
    ⊎ EndsWithout life stage looked end left))

-- Just these calls were made of the hub: they hand over what stood to be taken, and behind it the
-- frames that were read meanwhile.
pub record HasReceived {H : Type 0} (made : H → Routed → H → Type 0) (life : ServerIdentity)
    (most : ℕ) (end : Ran) (old new : RouteLink) (before after : H) : Type 0 where
  pub read : List RouteFrame
  pub calls : List Routed
  pub looked : Option Ran
  pub on : ReadsSo looked old new read
  pub chain : RouteChain made before calls after
  pub hands : HandsOver (IsOfPeer life old.stage) (option_to_list old.ahead ++ read) calls
      (option_to_list new.ahead)
  pub few : length calls ≤ most
  pub ends : EndsSo life old.stage looked end most calls new.ahead

-- ---- a step of a run

-- The frame that stands to be taken, or is read now, is handed to the hub.
pub record HandsOne {H : Type 0} (made : H → Routed → H → Type 0) (life : ServerIdentity)
    (end : Option Ran) (old new : RouteLink) (before after : H) : Type 0 where
  pub read : List RouteFrame
  pub frame : Frame
  pub came : Came
  pub on : ReadsSo None old new read
  pub stands : option_to_list old.ahead ++ read ≡ route.Numbered frame ∷ []
  pub of_peer : IsOfPeer life old.stage frame
  pub call : made before (received frame came) after
  pub ends : end ≡ end_behind (is_of_life old.stage frame) came
  pub left : new.ahead ≡ (if is_done came then None else Some (route.Numbered frame))

-- Nothing is handed to it.
pub record HandsNone {H : Type 0} (life : ServerIdentity) (end : Option Ran) (old new : RouteLink)
    (before after : H) : Type 0 where
  pub read : List RouteFrame
  pub looked : Option Ran
  pub why : Ran
  pub on : ReadsSo looked old new read
  pub stands : option_to_list old.ahead ++ read ≡ option_to_list new.ahead
  pub same : after ≡ before
  pub ends : end ≡ Some why
  pub left : EndsWithout life old.stage looked why new.ahead

abbrev pub HandsNext : {H : Type 0} → (H → Routed → H → Type 0) → ServerIdentity → Option Ran
    → RouteLink → RouteLink → H → H → Type 0
HandsNext made life end old new before after =
    HandsOne made life end old new before after ⊎ HandsNone life end old new before after

-- A frame is handed to the hub where it is of the server that the session is kept with; whether it
-- is done with, and how the run ends.
abbrev pub Applies : {H : Type 0} → (H → Routed → H → Type 0) → ServerIdentity → Stage → Frame
    → Bool → Option Ran → H → H → Type 0
Applies made life stage frame done end before after =
    (IsOfPeer life stage frame
    × ((came : Came) × made before (received frame came) after × (done ≡ is_done came)
    × (end ≡ end_behind (is_of_life stage frame) came)))
    ⊎ ((¬ IsOfPeer life stage frame) × (done ≡ false) × (end ≡ Some ran.Refused) × (after ≡ before))

-- The same of whatever stands to be taken.
abbrev pub AppliesAhead : {H : Type 0} → (H → Routed → H → Type 0) → ServerIdentity → Stage
    → Option RouteFrame → Bool → Option Ran → H → H → Type 0
AppliesAhead made life stage (Some (route.Numbered frame)) done end before after =
    Applies made life stage frame done end before after
AppliesAhead made life stage (Some (route.Info info)) done end before after =
    (done ≡ false) × (end ≡ Some ran.Goes) × (after ≡ before)
AppliesAhead made life stage (Some (route.Connect connect)) done end before after =
    (done ≡ false) × (end ≡ Some ran.Goes) × (after ≡ before)
AppliesAhead made life stage None done end before after =
    (done ≡ false) × (end ≡ Some ran.Goes) × (after ≡ before)

-- ---- a hold

-- While the hub was held, which then hands its jobs to the shards.
pub record ReceivesAtHub {H : Type 0} (made : H → Routed → H → Type 0) (pushed : H → H → Type 0)
    (life : ServerIdentity) (end : Ran) (old new : RouteLink) : Type 0 where
  pub before : H
  pub mid : H
  pub after : H
  pub run : HasReceived made life WINDOW end old new before mid
  pub hands : pushed mid after

-- ---- who is at the other end

-- what a frame that stands to be taken tells of the other end
abbrev pub told_by : Option RouteFrame → Told
told_by (Some (route.Info info)) = told.Info info
told_by (Some (route.Connect connect)) = told.Connect connect
told_by (Some (route.Numbered frame)) = told.Nothing
told_by None = told.Nothing

-- how a run ends behind a refusal of the sessions, or want of memory
abbrev pub end_of : {F : Type 0} → Failure F → Ran
end_of (Refused fault) = ran.Refused
end_of OutOfMemory = ran.Short

-- The session is kept with the server at this place, in that life, and nothing stands to be taken.
pub record IsKept (peer inc : ℕ) (answer : Option Connect) (old : RouteLink) (stepped : Stepped)
    (new : RouteLink) : Type 0 where
  pub is : stepped ≡ step.Greeted (record { peer = peer; answer = answer })
  pub kept : new ≡ record old { stage = Kept peer inc; ahead = None }

-- It comes to this, and all stays as it was.
abbrev pub Stays : Ran → RouteLink → Stepped → RouteLink → Type 0
Stays end old (step.Ran run) new = (run.end ≡ end) × (new ≡ old)
Stays end old (step.Greeted greeted) new = ⊥

-- An INFO is handed to the session with the server that was dialed; where there is no such one, it
-- is refused.
abbrev pub InfoComesTo : ℕ → Info → Result Connect (Failure SessionFault) → RouteLink → Stepped
    → RouteLink → Type 0
InfoComesTo peer info (Ok answer) old stepped new =
    IsKept peer info.inc (Some answer) old stepped new
InfoComesTo peer info (Err fault) old stepped new = Stays (end_of fault) old stepped new

abbrev pub TakesInfo : {H : Type 0} → (H → Routed → H → Type 0) → Option (ℕ × ℕ) → Info → RouteLink
    → Stepped → RouteLink → Type 0
TakesInfo made None info old stepped new = Stays ran.Refused old stepped new
TakesInfo made (Some pair) info old stepped new =
    (came : Result Connect (Failure SessionFault))
    × WasRouted made (informed pair.1 info came)
    × InfoComesTo pair.0 info came old stepped new

-- A CONNECT of a server that is listed is handed to the session, unless the other end has proved
-- that it is another one.
abbrev pub ConnectComesTo : ℕ → Connect → Result (Unit {0}) (Failure SessionFault) → RouteLink
    → Stepped → RouteLink → Type 0
ConnectComesTo peer connect (Ok done) old stepped new = IsKept peer connect.inc None old stepped new
ConnectComesTo peer connect (Err fault) old stepped new = Stays (end_of fault) old stepped new

abbrev pub TakesConnectOf : {H : Type 0} → (H → Routed → H → Type 0) → Bool → ℕ → ℕ → Connect
    → RouteLink → Stepped → RouteLink → Type 0
TakesConnectOf made true peer session connect old stepped new = Stays ran.Posed old stepped new
TakesConnectOf made false peer session connect old stepped new =
    (came : Result (Unit {0}) (Failure SessionFault))
    × WasRouted made (connected session connect came)
    × ConnectComesTo peer connect came old stepped new

abbrev pub TakesConnect : {H : Type 0} → (H → Routed → H → Type 0) → Option (ℕ × ℕ) → Connect
    → RouteLink → Stepped → RouteLink → Type 0
TakesConnect made None connect old stepped new = Stays ran.Refused old stepped new
TakesConnect made (Some pair) connect old stepped new =
    TakesConnectOf made (has_proved_other old.stage pair.0) pair.0 pair.1 connect old stepped new

-- ---- a turn of a route

-- What becomes of the frame that stands to be taken.
abbrev pub Takes : {H : Type 0} → (H → Routed → H → Type 0) → (H → H → Type 0) → ServerIdentity
    → RouteFrame → RouteLink → Stepped → RouteLink → Type 0
Takes made pushed life (route.Info info) old stepped new =
    TakesInfo made (option_zip (dialed_place old.stage) old.session) info old stepped new
Takes made pushed life (route.Connect connect) old stepped new =
    TakesConnect made (option_zip (place_of life connect.server_name) old.session) connect old
    stepped new
Takes made pushed life (route.Numbered frame) old (step.Ran run) new =
    ReceivesAtHub made pushed life run.end old new
Takes made pushed life (route.Numbered frame) old (step.Greeted greeted) new = ⊥

-- Where one stands there, it is taken; else no call is made.
abbrev pub TakesAhead : {H : Type 0} → (H → Routed → H → Type 0) → (H → H → Type 0) → ServerIdentity
    → Option Ran → Option RouteFrame → RouteLink → Stepped → RouteLink → Type 0
TakesAhead made pushed life None (Some frame) old stepped new =
    Takes made pushed life frame old stepped new
TakesAhead made pushed life None None old stepped new = ⊥
TakesAhead made pushed life (Some end) ahead old stepped new = Stays end old stepped new

-- A frame is read, unless one was, and taken.
pub record Advances {H : Type 0} (made : H → Routed → H → Type 0) (pushed : H → H → Type 0)
    (life : ServerIdentity) (old : RouteLink) (stepped : Stepped) (new : RouteLink) : Type 0 where
  pub end : Option Ran
  pub mid : RouteLink
  pub looks : Looks old end mid
  pub takes : TakesAhead made pushed life end mid.ahead mid stepped new

-- ---- the end of a route

-- Its session is cut, where it has one.
abbrev pub CutsSession : {H : Type 0} → (H → Routed → H → Type 0) → Option ℕ → Type 0
CutsSession made (Some session) = WasRouted made (was_cut session)
CutsSession made None = Unit {0}
