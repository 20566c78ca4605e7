-- What is published, and what nodes send to each other ("Cluster Protocol"; the numbers and
-- incarnations in a frame: profile).
use Rattle.std.specs.Prelude.{ℕ, List, [], ◌∷◌, Option}
use Rattle.cluster_law.specs.Names.{Bytes, PubId}
use Rattle.cluster_law.specs.Interest.{Change, View}

-- All of a message that its receivers get. Who published it, and whether it is to come back to that
-- connection, only narrows who gets it, and is left out.
pub record Content : Type 0 where
  pub subject : Bytes
  pub reply : Option Bytes
  pub headers : Option Bytes
  pub payload : Bytes

-- A publish that a node accepted, with the step of that event.
pub record Publication : Type 0 where
  pub id : PubId
  pub content : Content
  pub step : ℕ

-- A routed message, for one incarnation of one node, with the queue names which that node is to
-- serve.
pub record Routed : Type 0 where
  pub id : PubId
  pub to : ℕ
  pub to_inc : ℕ
  pub content : Content
  pub names : List Bytes

-- News of interest: the change of that number, or all of it after the change of that number.
pub data Body : Type 0 where
  Changed : (change : Change) → Body
  Snapshot : (view : View) → Body

pub record News : Type 0 where
  pub origin : ℕ
  pub inc : ℕ
  pub to : ℕ
  pub to_inc : ℕ
  pub number : ℕ
  pub body : Body

-- A greeting stands for the INFO and CONNECT of a session: it tells the sender's incarnation.
pub data Frame : Type 0 where
  Message : (routed : Routed) → Frame
  Interest : (news : News) → Frame
  Greeting : (origin inc : ℕ) → Frame

-- The routed messages among the frames.
abbrev pub messages : List Frame → List Routed
messages [] = []
messages (Message m ∷ fs) = m ∷ messages fs
messages (Interest t ∷ fs) = messages fs
messages (Greeting origin inc ∷ fs) = messages fs
