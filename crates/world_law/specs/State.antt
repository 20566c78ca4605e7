-- A cluster as its callers see it: its servers, and the lists of what was done.
use Rattle.std.specs.Prelude.{ℕ, Bool, ◌&&◌, nat_eq, List, [], length, replicate, Option, None}
use Rattle.outbox.specs.declared.entries.Mode.{Mode}
use Rattle.subj.specs.declared.identities.PubId.{PubId}
use Rattle.subj.specs.declared.identities.SubId.{SubId}
use Rattle.subj.specs.declared.keys.Key.{Key}
use Rattle.subj.specs.Messages.{Content}
use Rattle.subj.specs.Servers.{ServerIdentity}
use Rattle.route_values.specs.declared.frames.RouteFrame.{RouteFrame}
use Rattle.node_law.specs.State.{Node}

-- what is fixed: the names of the servers, in the order in which all of them list them, and how
-- many shards each has
pub record Cluster : Type 0 where
  pub names : List (List ℕ)
  pub shards : ℕ

-- one life of the server at this place
abbrev pub server_at : Cluster → ℕ → ℕ → ServerIdentity
server_at c n inc = record { names = c.names; me = n; inc = inc; shards = c.shards }

-- ---- what was done, each with its step; steps are counted from 1

-- a publish that was accepted: what was said, by which connection, and whether that connection may
-- get it back
pub record Publication : Type 0 where
  pub step : ℕ
  pub id : PubId
  pub message : Content
  pub publisher : ℕ
  pub echo : Bool

-- a subscription in the whole cluster: the place of its server, the incarnation there, and its name
-- there
pub record LifeId : Type 0 where
  pub node : ℕ
  pub inc : ℕ
  pub sub : SubId

-- whether two names at one server are those of one subscription
abbrev pub is_sub : SubId → SubId → Bool
is_sub sub other = nat_eq sub.shard other.shard && nat_eq sub.serial other.serial

-- a subscription from its opening on (profile): its connection, key and sid, the step that opened
-- it, and the one that closed it, if any
pub record Life : Type 0 where
  pub id : LifeId
  pub conn : ℕ
  pub key : Key
  pub sid : List ℕ
  pub opened : ℕ
  pub closed : Option ℕ

-- a message that was put into the outbox of a connection, for this subscription; and whether the
-- connection took headers at that step
pub record Placement : Type 0 where
  pub step : ℕ
  pub life : LifeId
  pub conn : ℕ
  pub id : PubId
  pub mode : Mode
  pub bytes : List ℕ
  pub headers : Bool

-- ---- the cluster

-- a server that is up, in this incarnation
pub record Running : Type 0 where
  pub inc : ℕ
  pub node : Node

-- how many steps were made; each server that is up, by its place; which incarnations were started
-- where; what was done; and all frames that were ever put for a peer or given to a session, in
-- order
pub record World : Type 0 where
  pub step : ℕ
  pub nodes : List (Option Running)
  pub started : List (ℕ × ℕ)
  pub publications : List Publication
  pub lives : List Life
  pub placements : List Placement
  pub sent : List RouteFrame

-- no server is up, and nothing was done
abbrev pub new_world : Cluster → World
new_world c = record {
  step = 0;
  nodes = replicate (length c.names) None;
  started = [];
  publications = [];
  lives = [];
  placements = [];
  sent = [];
}
