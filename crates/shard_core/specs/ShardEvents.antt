-- What a shard is asked, and what it answers.
use Rattle.std.specs.Prelude.{ℕ, Bool, List, Option}
use Rattle.client_frames.specs.declared.server_frames.ReplyFrame.{ReplyFrame}
use Rattle.client_frames.specs.declared.err_texts.ErrText.{ErrText}
use Rattle.subj.specs.declared.keys.Delta.{Delta}
use Rattle.outbox.specs.Views.{Written}
use Rattle.subj.specs.declared.identities.SubId.{SubId}
use Rattle.subj.specs.declared.jobs.Job.{Job}
use Rattle.subj.specs.declared.keys.Key.{Key}
use Rattle.shard_core.specs.declared.calls.Placed.{Placed}

pub data Event : Type 0 where
  Attach : Event
  Subscribe : (conn : ℕ) (key : Key) (sid : List ℕ) → Event
  -- at once, or once so many messages were delivered since the opening
  Unsubscribe : (conn : ℕ) (sid : List ℕ) (max : Option ℕ) → Event
  Reply : (conn : ℕ) (frame : ReplyFrame) → Event
  -- whether the connection takes headers from here on
  SetHeaders : (conn : ℕ) (on : Bool) → Event
  Shut : (conn : ℕ) (text : ErrText) → Event
  Detach : (conn : ℕ) → Event
  Take : (conn count : ℕ) → Event
  Begin : (job : Job) → Event
  -- with whether the race was won; it is not looked at where there is no candidate
  Claim : (index : ℕ) (won : Bool) → Event
  End : Event
  -- The job in hand is done without the rest of it. Where none is in hand, the job that waits is
  -- handed over and done unbegun: a shard does not hold its line.
  DropJob : (waiting : Option Job) → Event
  -- no subscription is taken any more
  Drain : Event
  -- the deltas are handed to the hub
  Collect : Event

-- the subscriptions that closed stand in order
pub data Answer : Type 0 where
  Attached : (conn : ℕ) → Answer
  Opened : (sub : SubId) → Answer
  AlreadyOpen : Answer
  Unsubscribed : (ended : List SubId) → Answer
  -- whether the connection was shut for want of room
  Replied : (shut : Bool) (ended : List SubId) → Answer
  HeadersSet : Answer
  WasShut : (ended : List SubId) → Answer
  Detached : (ended : List SubId) → Answer
  Taken : (entries : List Written) → Answer
  -- the entries placed and the connections shut, in order
  Began : (placed : List Placed) (closed : List ℕ) (ended : List SubId) → Answer
  Nobody : Answer
  Lost : Answer
  Won : (sub : SubId) (placed : Placed) (ended : List SubId) → Answer
  Finished : Answer
  -- the job that is done
  Dropped : (job : Option Job) → Answer
  Drains : Answer
  Collected : (deltas : List Delta) → Answer
