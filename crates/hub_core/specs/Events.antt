-- What a hub is asked, and what it answers. Peers are named by their places.
use Rattle.std.specs.Prelude.{ℕ, List, [], ◌∷◌}
use Rattle.subj.specs.declared.jobs.Job.{Job}
use Rattle.interest.specs.declared.changes.Change.{Change}
use Rattle.subj.specs.declared.keys.Delta.{Delta}
use Rattle.route_values.specs.Frames.{Frame}
use Rattle.hub_core.specs.Publishing.{Publication}

-- what crosses a lock comes along: the last turns that the shards finished, that of shard 1 first,
-- or the deltas of the shard of this number
pub data Event : Type 0 where
  Publish : (publication : Publication) (finished : List ℕ) → Event
  Receive : (frame : Frame) (finished : List ℕ) → Event
  Collect : (shard : ℕ) (deltas : List Delta) → Event
  -- the server tells that it has no interest any more
  Drain : Event
  Up : (peer inc : ℕ) → Event
  Cut : (peer : ℕ) → Event
  TakeFrom : (peer count : ℕ) → Event

pub data Answer : Type 0 where
  -- the job, and the frames put
  Issued : (job : Job) (frames : List Frame) → Answer
  -- the job of a message
  Routed : (job : Job) → Answer
  -- the number of the last change of interest heard
  Heard : (mark : ℕ) → Answer
  -- the changes, the frames put, and the peers cut
  Collected : (changes : List Change) (frames : List Frame) (cut : List ℕ) → Answer
  -- the frames put, and the peers cut
  Drained : (frames : List Frame) (cut : List ℕ) → Answer
  -- the snapshot put
  IsUp : (snapshot : Frame) → Answer
  WasCut : Answer
  Taken : (frames : List Frame) → Answer

-- what was put into outboxes
abbrev pub frames_of_answer : Answer → List Frame
frames_of_answer (Issued job frames) = frames
frames_of_answer (Routed job) = []
frames_of_answer (Heard mark) = []
frames_of_answer (Collected changes frames cut) = frames
frames_of_answer (Drained frames cut) = frames
frames_of_answer (IsUp snapshot) = snapshot ∷ []
frames_of_answer WasCut = []
frames_of_answer (Taken frames) = []
