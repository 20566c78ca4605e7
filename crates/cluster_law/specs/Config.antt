-- What is fixed over a run, and which rules are in force.
use Rattle.std.specs.Prelude.{ℕ, Bool, true}
use Rattle.cluster_law.specs.Names.{Bytes}
use Rattle.cluster_law.specs.Interest.{Change, View}

-- The limits, and what the machine does not look into: which pattern matches which subject
-- ("Subject-Based Messaging"), and how a change acts on a view. All laws hold for any of these.
pub record Config : Type 0 where
  pub nodes : ℕ
  -- of a node
  pub shards : ℕ
  -- turns that may be issued and not finished by every shard
  pub window : ℕ
  -- at most so many of one publication
  pub queue_names : ℕ
  -- pattern, then subject
  pub matches : Bytes → Bytes → Bool
  pub follow : Change → View → View

-- The rules that are shown to count: for each there is a run without it that breaks a law.
-- Elsewhere all are on.
pub record Rules : Type 0 where
  -- a frame is taken by the node that it names alone
  pub addressee : Bool
  -- and by the incarnation that it names alone
  pub incarnation : Bool
  -- a publication number must be above the mark
  pub mark : Bool
  -- no frame of an incarnation below the greatest seen of its origin is taken
  pub origin : Bool
  -- the queue names of a publication are split without overlap
  pub apart : Bool
  -- a publication has one frame for a peer at most
  pub one_frame : Bool
  -- no turn is issued while some shard is a whole window behind
  pub window : Bool
  -- a pair that was won is not won again
  pub unwon : Bool
  -- a claim is for a subscription that is open
  pub member : Bool
  -- a begin places for each plain subscription once at most
  pub once : Bool
  -- a start never takes an incarnation of an earlier start
  pub fresh : Bool
  -- only frames that were sent are handed over
  pub sent : Bool
  -- a change of interest must be the next
  pub next : Bool

abbrev pub every_rule : Rules
every_rule = record {
  addressee = true;
  incarnation = true;
  mark = true;
  origin = true;
  apart = true;
  one_frame = true;
  window = true;
  unwon = true;
  member = true;
  once = true;
  fresh = true;
  sent = true;
  next = true;
}
