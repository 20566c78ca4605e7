-- A hub with its sessions that does again what stands on its tape.
use Rattle.std.proofs.Common.{◌≡◌, ℕ, zero, suc, ◌<◌, List, [], ◌∷◌, length, take, get_or, refl, sym, ap, ◌∙◌, arith}
use Rattle.route_values.specs.declared.bodies.Body.{Body}
use Rattle.route_values.specs.declared.bodies.Body.TheVariants.{Plus, Minus, Snapshot, Msg}
use Rattle.route_values.specs.Frames.{Frame}
use Rattle.hub_core.specs.Calls.{after_frames}
use Rattle.hub_core.specs.Events as of_hub
use Rattle.hub_core.specs.Publishing.{Publication, frames_of}
use Rattle.hub_core.specs.State as hub
use Rattle.hub_core.specs.Steps.{received_answer}
use Rattle.node_parts.specs.Sides.{HubWithSessions, ByHub, side_after}
use Rattle.thread_node.specs.declared.hub_entries.HubEntry.{HubEntry}
use Rattle.thread_report.specs.HubAnswers.{HubLists, DoesAgain, lists_of_hub, no_lists, state_after, state_behind}

-- a publication, whose frames are put
pub publishes_again : (old new : HubWithSessions) (p : Publication) (finished : List ℕ) (frames : List Frame)
    (lists : HubLists)
    → frames ≡ frames_of old.server old.hub p
    → new ≡ record old { hub = after_frames old.server old.hub frames }
    → lists ≡ no_lists
    → DoesAgain old (ByHub (of_hub.Publish p finished)) lists new
publishes_again old new p finished frames lists are after none = record {
  lists_are = none;
  after = after ∙ ap (λ fs. record old { hub = after_frames old.server old.hub fs }) are;
}

none_received : (h : hub.State) (frame : Frame) (body : Body)
    → lists_of_hub (received_answer h frame body) ≡ no_lists
none_received h frame (Plus weighted) = refl
none_received h frame (Minus key) = refl
none_received h frame (Snapshot keys) = refl
none_received h frame (Msg content queues) = refl

-- a frame of a peer
pub receives_again : (old new : HubWithSessions) (frame : Frame) (finished : List ℕ) (lists : HubLists)
    → new ≡ side_after old (ByHub (of_hub.Receive frame finished))
    → lists ≡ no_lists
    → DoesAgain old (ByHub (of_hub.Receive frame finished)) lists new
receives_again old new frame finished lists after none = record {
  lists_are = none ∙ sym (none_received old.hub frame frame.body);
  after = after;
}

-- one entry more
pub state_after_more : (i : ℕ) (s : HubWithSessions) (xs : List HubEntry) (d : HubEntry)
    → i < length xs
    → state_after s (take (suc i) xs) ≡ state_behind (state_after s (take i xs)) (get_or xs i d)
state_after_more i s [] d lt = absurd (omega arith)
state_after_more zero s (x ∷ xs) d lt = refl
state_after_more (suc i) s (x ∷ xs) d lt = state_after_more i (state_behind s x) xs d (omega arith)
