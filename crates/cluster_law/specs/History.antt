-- What was done in the cluster (profile): lists that only grow. No rule reads them, but for the
-- starts and the frames sent.
use Rattle.std.specs.Prelude.{ℕ, List, [], ◌++◌, Option}
use Rattle.cluster_law.specs.Names.{Bytes, PubId, LifeId}
use Rattle.cluster_law.specs.Interest.{Noted}
use Rattle.cluster_law.specs.Messages.{Content, Publication, Frame}

-- What one incarnation of a node is to do for a publication: its turn, and the queue names to serve
-- there, by index.
pub record Job : Type 0 where
  pub node : ℕ
  pub inc : ℕ
  pub turn : ℕ
  pub id : PubId
  pub content : Content
  pub names : List Bytes

-- The life of one subscription: its connection, sid, pattern and queue name, and the step that
-- opened it.
pub record Life : Type 0 where
  pub id : LifeId
  pub connection : ℕ
  pub sid : Bytes
  pub pattern : Bytes
  pub queue : Option Bytes
  pub opened : ℕ

-- The step that closed a subscription.
pub record Closing : Type 0 where
  pub life : LifeId
  pub step : ℕ

-- A message that was put into the outbox of a subscription's connection. The mode is the queue name
-- that it was put for, or none for a plain subscription.
pub record Placement : Type 0 where
  pub id : PubId
  pub life : LifeId
  pub connection : ℕ
  pub sid : Bytes
  pub mode : Option Bytes
  pub content : Content
  pub step : ℕ

pub record History : Type 0 where
  -- node and incarnation of each start
  pub started : List (ℕ × ℕ)
  pub publications : List Publication
  -- all frames of all kinds that were ever put for a peer, or given to a session
  pub sent : List Frame
  pub changes : List Noted
  pub jobs : List Job
  pub lives : List Life
  pub closings : List Closing
  pub placements : List Placement

-- What one step adds.
pub record Output : Type 0 where
  pub publications : List Publication
  pub frames : List Frame
  pub changes : List Noted
  pub jobs : List Job
  pub lives : List Life
  pub closings : List Closing
  pub placements : List Placement

abbrev pub nothing : Output
nothing = record {
  publications = [];
  frames = [];
  changes = [];
  jobs = [];
  lives = [];
  closings = [];
  placements = [];
}

abbrev pub history_with : History → Output → History
history_with past out = record {
  started = past.started;
  publications = past.publications ++ out.publications;
  sent = past.sent ++ out.frames;
  changes = past.changes ++ out.changes;
  jobs = past.jobs ++ out.jobs;
  lives = past.lives ++ out.lives;
  closings = past.closings ++ out.closings;
  placements = past.placements ++ out.placements;
}
