-- A frame of a peer, at the hub with its sessions.
use Rattle.std.proofs.Common.{◌≡◌, ℕ, true, false, true≢false, List, None, refl, sym, ap, ◌∙◌, subst}
use Rattle.subj.specs.Servers.{ServerIdentity, IsListed, place, is_peer}
use Rattle.route_values.specs.Frames.{Frame}
use Rattle.route_values.specs.declared.bodies.Body.{Body}
use Rattle.route_values.specs.declared.bodies.Body.TheVariants.{Plus, Minus, Snapshot, Msg}
use Rattle.hub_core.specs.State as hub
use Rattle.hub_core.specs.State.{peer_of, seen_of}
use Rattle.hub_core.specs.Hubs as hubs
use Rattle.hub_core.specs.Hubs.{Hub}
use Rattle.hub_core.specs.Events as of_hub
use Rattle.hub_core.specs.Steps.{received_answer}
use Rattle.hub_core.specs.Receiving.{has_message, receive_refusal}
use Rattle.hub_core.proofs.Steps.Receives.{from_peer}
use Rattle.route_session.specs.Calls as calls
use Rattle.node_parts.specs.Sides.{ByHub, side_after, session_after_frame}
use Rattle.node_parts.proofs.Sides.{side_of}

-- ---- what is answered

pub heard_answer : (h : hub.State) (frame : Frame) (b : Body)
    → has_message b ≡ false
    → of_hub.Heard frame.number ≡ received_answer h frame b
heard_answer h frame (Plus weighted) e = refl
heard_answer h frame (Minus key) e = refl
heard_answer h frame (Snapshot keys) e = refl
heard_answer h frame (Msg content queues) e = absurd (true≢false e)

-- ---- what is after it

pub received_side : (old new : Hub) (s t : calls.Served) (frame : Frame) (finished : List ℕ) (seen : ℕ)
    → s.server ≡ old.server
    → new ≡ hubs.after old (of_hub.Receive frame finished)
    → seen ≡ seen_of (peer_of old.server old.state frame.from)
    → t ≡ record { server = s.server; state = session_after_frame (place s.server frame.from) seen frame.inc s.state }
    → side_of new t ≡ side_after (side_of old s) (ByHub (of_hub.Receive frame finished))
received_side old new s t frame finished seen same is seen_is dropped =
    let state = ap (λ (x : calls.Served). x.state) dropped
    ∙ (λ k. session_after_frame (place (same k) frame.from) (seen_is k) frame.inc s.state) in
    λ k. record { server = (is k).server; hub = (is k).state; sessions = state k }

-- the frame is of a peer
pub of_a_peer : (server given : ServerIdentity) (h : hub.State) (finished : List ℕ) (frame : Frame)
    → IsListed server
    → given ≡ server
    → receive_refusal server h finished frame ≡ None
    → is_peer given (place given frame.from) ≡ true
of_a_peer server given h finished frame listed same free =
    subst (λ s. is_peer s (place s frame.from) ≡ true) (sym same) (from_peer server listed h finished frame free).is
