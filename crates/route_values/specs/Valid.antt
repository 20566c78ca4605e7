-- Frames that hold only what can be spelt, as the values of the types do.
use Rattle.std.specs.Prelude.{◌≡◌, ℕ, ◌≤◌, true, List, [], ◌∷◌, length, Option, Some, None}
use Rattle.subj.specs.declared.limits.TheConstants.{MAX_INCARNATION, MAX_PAYLOAD}
use Rattle.subj.specs.Messages.{Content, are_headers, body_of}
use Rattle.subj.specs.Names.{node_name_fault, subject_fault, queue_name_fault}
use Rattle.subj.specs.QueueNames.{are_queue_names}
use Rattle.route_values.specs.declared.bodies.Body.{Body}
use Rattle.route_values.specs.declared.bodies.Body.TheVariants.{Plus, Minus, Snapshot, Msg}
use Rattle.route_values.specs.declared.frames.RouteFrame.{RouteFrame}
use Rattle.route_values.specs.declared.frames.RouteFrame.TheVariants as route
use Rattle.route_values.specs.Records.{Info, Connect, is_serial}
use Rattle.route_values.specs.Frames.{Frame, is_number}
pub use Rattle.route_values.specs.ValidKeys.{IsKey, IsWeighted, AreSnapshotKeys}
unfoldable pub use Rattle.route_values.specs.ValidKeys.{IsQueue, AreWeighted}

abbrev pub AreNames : List (List ℕ) → Type 0
AreNames [] = Unit {0}
AreNames (name ∷ names) = (queue_name_fault name ≡ None) × AreNames names

abbrev pub IsReply : Option (List ℕ) → Type 0
IsReply None = Unit {0}
IsReply (Some reply) = subject_fault reply ≡ None

pub record IsMessage (message : Content) (queues : List (List ℕ)) : Type 0 where
  pub subject : subject_fault message.subject ≡ None
  pub reply : IsReply message.reply
  pub headers : are_headers message.headers ≡ true
  pub body : length (body_of message) ≤ MAX_PAYLOAD
  pub names : AreNames queues
  pub ordered : are_queue_names queues ≡ true

abbrev pub IsBody : Body → Type 0
IsBody (Plus weighted) = IsWeighted weighted
IsBody (Minus key) = IsKey key
IsBody (Snapshot keys) = AreSnapshotKeys keys
IsBody (Msg message queues) = IsMessage message queues

pub record IsIncarnation (inc : ℕ) : Type 0 where
  pub least : 1 ≤ inc
  pub most : inc ≤ MAX_INCARNATION

pub record IsFrame (frame : Frame) : Type 0 where
  pub from : node_name_fault frame.from ≡ None
  pub inc : IsIncarnation frame.inc
  pub to : node_name_fault frame.to ≡ None
  pub to_inc : IsIncarnation frame.to_inc
  pub number : is_number frame.number frame.body ≡ true
  pub body : IsBody frame.body

pub record IsInfo (info : Info) : Type 0 where
  pub server_name : node_name_fault info.server_name ≡ None
  pub inc : IsIncarnation info.inc

pub record IsConnect (connect : Connect) : Type 0 where
  pub server_name : node_name_fault connect.server_name ≡ None
  pub inc : IsIncarnation connect.inc
  pub to : node_name_fault connect.to ≡ None
  pub to_inc : IsIncarnation connect.to_inc
  pub serial : is_serial connect.serial ≡ true

abbrev pub IsRouteFrame : RouteFrame → Type 0
IsRouteFrame (route.Info info) = IsInfo info
IsRouteFrame (route.Connect connect) = IsConnect connect
IsRouteFrame (route.Numbered frame) = IsFrame frame

-- each holds only what can be spelt
abbrev pub AreRouteFrames : List RouteFrame → Type 0
AreRouteFrames [] = Unit {0}
AreRouteFrames (frame ∷ frames) = IsRouteFrame frame × AreRouteFrames frames
