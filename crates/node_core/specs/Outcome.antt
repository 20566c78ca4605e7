-- What a step of a server comes to: its answer, what it puts into outboxes, and what closes.
use Rattle.std.specs.Prelude.{◌≡◌, ℕ, Bool, true, false, List, [], length, Option, Some, None, option_to_list}
use Rattle.subj.specs.Servers.{ServerIdentity}
use Rattle.subj.specs.declared.identities.SubId.{SubId}
use Rattle.route_values.specs.declared.frames.RouteFrame.{RouteFrame}
use Rattle.shard_core.specs.declared.calls.Begun.{Begun}
use Rattle.shard_core.specs.declared.calls.Placed.{Placed}
use Rattle.shard_core.specs.Puts.{put_by}
use Rattle.shard_core.specs.ShardSteps.{shard_answer, shut_by, ended_of}
use Rattle.node_parts.specs.declared.lines.Claimed.{Claimed}
use Rattle.node_parts.specs.declared.lines.Claimed.TheVariants as code
use Rattle.node_law.specs.Answers.{Answer, Nothing, Began, Won, Lost, Nobody, node_answer}
use Rattle.node_law.specs.AsLaw.{Part, part_of}
use Rattle.node_core.specs.declared.did.Did.{Did}
use Rattle.node_core.specs.declared.node.stepping.ReplyPuts.{ReplyPuts}
use Rattle.node_law.specs.Events.{NodeEvent}
use Rattle.node_core.specs.InCode.{answer_of}
use Rattle.node_core.specs.Served.{Served, DoesStep}
use Rattle.node_law.specs.State.{Node}
use Rattle.node_law.specs.Steps.{node_frames}

-- the entries put into outboxes of connections, messages and lines, in order
abbrev pub put_at : Option Part → List Placed
put_at None = []
put_at (Some part) = put_by part.line.shard part.event

-- the connections shut; one that is gone is not
abbrev pub shut_at : Option Part → List ℕ
shut_at None = []
shut_at (Some part) = shut_by part.line.shard part.event

-- the subscriptions closed, in order
abbrev pub ended_at : Option Part → List SubId
ended_at None = []
ended_at (Some part) = ended_of (shard_answer part.line.shard part.event)

pub record Outcome : Type 0 where
  pub answer : Answer
  pub entries : List Placed
  -- the frames put for peers, or given to a session, in order
  pub frames : List RouteFrame
  pub shut : List ℕ
  pub ended : List SubId

abbrev pub outcome_of : ServerIdentity → Node → NodeEvent → Bool → Outcome
outcome_of server a e won = record {
  answer = node_answer server a e won;
  entries = put_at (part_of server a e won);
  frames = node_frames server a e;
  shut = shut_at (part_of server a e won);
  ended = ended_at (part_of server a e won);
}

-- a step of this event, with all that it comes to
pub record Does (old : Served) (event : NodeEvent) (outcome : Outcome) (new : Served) : Type 0 where
  pub won : Bool
  pub step : DoesStep old event won new
  pub told : outcome ≡ outcome_of old.server old.node event won

-- what the code tells of it
abbrev pub did_of : Did → Outcome
did_of did = record {
  answer = answer_of did.answer;
  entries = did.entries.items;
  frames = did.frames.items;
  shut = did.shut.items;
  ended = did.ended.items;
}

-- ---- where nothing is put for a connection, and nothing closes

-- the answer, with these frames
abbrev pub with_frames : Answer → List RouteFrame → Outcome
with_frames answer frames =
    record { answer = answer; entries = []; frames = frames; shut = []; ended = [] }

-- ---- a begin

-- what it comes to
abbrev pub begin_outcome : Begun → Outcome
begin_outcome begun = record {
  answer = Began begun.given (length begun.closed.items);
  entries = begun.put.items;
  frames = [];
  shut = begun.closed.items;
  ended = begun.ended.items;
}

-- ---- a reply

-- what it comes to
abbrev pub reply_outcome : ReplyPuts → Bool → List SubId → Outcome
reply_outcome puts true ended = record {
  answer = Nothing;
  entries = puts.last.items;
  frames = [];
  shut = puts.shut.items;
  ended = ended;
}
reply_outcome puts false ended = record {
  answer = Nothing;
  entries = puts.answer.items;
  frames = [];
  shut = [];
  ended = ended;
}

-- ---- a claim

-- what a claim answers
abbrev pub told_of_claim : Claimed → Answer
told_of_claim code.Nobody = Nobody
told_of_claim code.Lost = Lost
told_of_claim (code.Won sub placed ended) = Won sub

-- copies of what was placed, and what closed
abbrev pub entries_told : Claimed → List Placed
entries_told code.Nobody = []
entries_told code.Lost = []
entries_told (code.Won sub placed ended) = option_to_list placed

abbrev pub ended_told : Claimed → List SubId
ended_told code.Nobody = []
ended_told code.Lost = []
ended_told (code.Won sub placed ended) = option_to_list ended

abbrev pub claim_outcome : Claimed → Outcome
claim_outcome claimed = record {
  answer = told_of_claim claimed;
  entries = entries_told claimed;
  frames = [];
  shut = [];
  ended = ended_told claimed;
}
