-- What another server is told.
use Rattle.std.specs.Prelude.{◌≡◌, ◌⊎◌, ℕ, zero, suc, Bool, true, false, not, List, [], ◌∷◌, ◌++◌, Option, Some, None, MatchOption}
use Rattle.slab.specs.Slab.{Slab, get}
use Rattle.net_streams.specs.Writes.{Came}
use Rattle.route_values.specs.Frames.{Frame}
use Rattle.route_values.specs.declared.frames.RouteFrame.TheVariants.{Numbered}
use Rattle.route_frames.specs.Canonical.{frame_bytes}
use Rattle.server_calls.specs.Routed.{Routed, took, WasRouted}
use Rattle.node_net.specs.Keyed.{ChangesAt, Behind}
use Rattle.node_net.specs.Routes.{kept_place}
use Rattle.node_net.specs.Sending.{ending_of, Sends, SendsWhole, out_of_memory, IsNoted, IsGivenUpFor}
use Rattle.node_net.specs.declared.connection.Connection.{Connection}
use Rattle.node_net.specs.declared.connection.Ending.TheVariants.{Gone}
use Rattle.node_net.specs.declared.loops.Mail.{Mail}
use Rattle.node_net.specs.declared.connection.Link.{Link}
use Rattle.node_net.specs.declared.connection.Link.TheVariants as link

-- ---- the connection over which another server is reached

-- the place of the server at the other end, where it is a route whose session is kept with one
abbrev pub peer_of : Link → Option ℕ
peer_of (link.Client client) = None
peer_of (link.Route route) = kept_place route.stage

-- Over the connection the server at this place is reached: it is a route whose session is kept with
-- that server, its stream has not failed, and it is not given up.
abbrev pub Reaches : {S : Type 0} → ℕ → Connection S → Type 0
Reaches peer c = (peer_of c.link ≡ Some peer) × ¬ (ending_of c ≡ Gone)

-- So it is of the connection at this key, and there is one.
abbrev pub ReachesAt : {S : Type 0} → ℕ → ℕ → Slab (Connection S) → Type 0
ReachesAt peer key table = MatchOption (get table key) ⊥ (λ connection. Reaches peer connection)

-- ---- what is sent over it

-- the spelling of frames, one behind the other
abbrev pub spelling : List Frame → List ℕ
spelling [] = []
spelling (frame ∷ frames) = frame_bytes (Numbered frame) ++ spelling frames

-- Frames are sent to a connection as their spelling, behind what stood in the mail; or there was no
-- memory for that, and it is given up and is sent nothing more.
abbrev pub SendsFrames : {S : Type 0} → (S → Came → S → Type 0) → (S → Came → S → Type 0) → List ℕ
    → List Frame → Connection S → Connection S → Type 0
SendsFrames gave wrote before frames old new =
    Sends gave wrote old (before ++ spelling frames) new ⊎ (new ≡ out_of_memory old)

-- They are sent so to the connection at this key, and nothing to any other one. Where there is
-- nothing to be sent, nothing may change.
abbrev pub TellsFrames : {S : Type 0} → (S → Came → S → Type 0) → (S → Came → S → Type 0) → ℕ
    → List ℕ → List Frame → Slab (Connection S) → Slab (Connection S) → Type 0
TellsFrames gave wrote key before frames old new =
    ((before ++ spelling frames ≡ []) × (new ≡ old))
    ⊎ ChangesAt (Behind (SendsFrames gave wrote before frames) IsNoted) key old new

-- A session begins, or there is none: nothing is on its way, nothing is lost, nothing was cut.
pub record IsNewMail (is_open : Bool) (mail : Mail) : Type 0 where
  pub session : mail.is_open ≡ is_open
  pub bytes : mail.bytes.items ≡ []
  pub backlog : mail.backlog ≡ 0
  pub lost : mail.is_lost ≡ false
  pub cut : mail.is_cut ≡ false

-- Under one hold of the hub at most so many frames are taken that wait for the server at this
-- place, and stand, spelt, behind what stood in its mail. Where there was no memory for that, now
-- or before, the mail says so. What else it says stays.
pub record PostsSome {H : Type 0} (routed : H → Routed → H → Type 0) (peer count : ℕ)
    (old new : Mail) : Type 0 where
  pub frames : List Frame
  pub taken : WasRouted routed (took peer count frames)
  pub spelt :
      new.is_lost ≡ false → new.bytes.items ≡ old.bytes.items ++ spelling frames
  pub lost : old.is_lost ≡ true → new.is_lost ≡ true
  pub session : new.is_open ≡ old.is_open
  pub cut : new.is_cut ≡ old.is_cut
  pub backlog : new.backlog ≡ old.backlog

-- What stands in the mail is sent to the connection at this key, and nothing to any other one; or
-- some are lost, and the connection is given up and is sent nothing more. Where nothing stands
-- there, nothing may change.
abbrev pub SendsMail : {S : Type 0} → (S → Came → S → Type 0) → (S → Came → S → Type 0) → ℕ → Mail
    → Slab (Connection S) → Slab (Connection S) → Type 0
SendsMail gave wrote key mail old new =
    ((mail.is_lost ≡ false) × (mail.bytes.items ≡ []) × (new ≡ old))
    ⊎ ChangesAt (Behind (SendsWhole gave wrote mail.bytes.items (not mail.is_lost)) IsNoted) key old
    new

-- Under one hold of the hub at most so many frames are taken that wait for the server at this
-- place. Just these are sent to the connection at this key, behind what other loops have put into
-- the server's mail, where there are other loops.
pub record TellsSome {H S : Type 0} (routed : H → Routed → H → Type 0)
    (gave wrote : S → Came → S → Type 0) (is_alone : Bool) (peer count key : ℕ)
    (old new : Slab (Connection S)) : Type 0 where
  pub before : List ℕ
  pub frames : List Frame
  pub alone : is_alone ≡ true → before ≡ []
  pub taken : WasRouted routed (took peer count frames)
  pub told : TellsFrames gave wrote key before frames old new

-- That is done so many times in a row, each time while that server is reached over that connection.
abbrev pub TellsMany : {H S : Type 0} → (H → Routed → H → Type 0) → (S → Came → S → Type 0)
    → (S → Came → S → Type 0) → Bool → ℕ → ℕ → Slab (Connection S) → ℕ → Slab (Connection S)
    → Type 0
TellsMany routed gave wrote is_alone peer key old zero new = new ≡ old
TellsMany {H} {S} routed gave wrote is_alone peer key old (suc rounds) new =
    (mid : Slab (Connection S))
    × (count : ℕ)
    × TellsMany routed gave wrote is_alone peer key old rounds mid
    × ReachesAt peer key mid
    × TellsSome routed gave wrote is_alone peer count key mid new

-- That is done any number of times; and then the connection may be given up.
pub record TellsPeer {H S : Type 0} (routed : H → Routed → H → Type 0)
    (gave wrote : S → Came → S → Type 0) (is_alone : Bool) (peer key : ℕ)
    (old new : Slab (Connection S)) : Type 0 where
  pub rounds : ℕ
  pub mid : Slab (Connection S)
  pub many : TellsMany routed gave wrote is_alone peer key old rounds mid
  pub ends : (new ≡ mid) ⊎ ChangesAt IsGivenUpFor key mid new
