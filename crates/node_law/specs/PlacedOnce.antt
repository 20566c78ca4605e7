-- What a server places over a whole run for a queue name of a job, as one list.
use Rattle.std.specs.Prelude.{◌≡◌, ℕ, ◌≤◌, Bool, false, nat_eq, List, [], length, filter, slice_get, Option, Some, None, if◌then◌else◌}
use Rattle.std.specs.List.{flat_map, list_any}
use Rattle.list_laws.specs.Lists.{Each}
use Rattle.outbox.specs.declared.entries.Mode.{Mode}
use Rattle.outbox.specs.declared.entries.Mode.TheVariants.{Plain, Queue}
use Rattle.outbox.specs.declared.entries.Tag.{Tag}
use Rattle.outbox.specs.declared.entries.Tag.TheVariants as tag
use Rattle.subj.specs.QueueNames.{is_named}
use Rattle.subj.specs.Servers.{ServerIdentity, IsListed}
use Rattle.subj.specs.declared.jobs.Job.{Job}
use Rattle.shard_core.specs.declared.calls.Placed.{Placed}
use Rattle.shard_core.specs.AsLaw.{job_by}
use Rattle.shard_core.specs.Puts.{put_by}
use Rattle.node_law.specs.AsLaw.{Part, part_of}
use Rattle.node_law.specs.OneServer.{Claimed, claims_of, jobs_of, is_of_pair, is_tried, placed_with}
use Rattle.node_law.specs.Runs.{Done, Ran}
use Rattle.node_law.specs.State.{Node}

-- ---- by Claims

-- what a Claim of this turn and index of a queue name places, and any other Claim not
abbrev pub placed_of : ℕ → ℕ → Claimed → List Placed
placed_of turn index x =
    if is_of_pair turn index x then placed_with x.shard x.headers x.job x.candidate x.won else []

-- what the Claims of a run place for them, over all shards, the newest first
abbrev pub all_placed : ℕ → ℕ → List Done → List Placed
all_placed turn index h = flat_map (placed_of turn index) (claims_of h)

-- it is one message where any Claim had a candidate, and else none (NATS documentation, "Queue
-- Groups": one member is chosen)
abbrev pub PlacesOnce : Type 0
PlacesOnce =
    (server : ServerIdentity) (h : List Done) (a : Node)
    → IsListed server
    → Ran server h a
    → (turn index : ℕ)
    → length (all_placed turn index h)
    ≡ (if list_any (is_tried turn index) (claims_of h) then 1 else 0)

-- ---- by outboxes: whatever the event

-- the queue name of the group for whose member an entry was put
abbrev pub mode_name : Mode → Option (List ℕ)
mode_name Plain = None
mode_name (Queue name) = Some name

abbrev pub group_of : Tag → Option (List ℕ)
group_of tag.Reply = None
group_of (tag.Msg id sub mode) = mode_name mode

abbrev pub is_for : List ℕ → Placed → Bool
is_for name put = is_named name (group_of put.entry.tag)

abbrev pub is_of_turn : ℕ → Option Job → Bool
is_of_turn turn None = false
is_of_turn turn (Some job) = nat_eq job.turn turn

-- what an event of a shard puts into outboxes, for the queue name of the job of this turn
abbrev pub put_for : ℕ → List ℕ → Option Part → List Placed
put_for turn name None = []
put_for turn name (Some part) =
    if is_of_turn turn (job_by part.line.shard part.event)
    then filter (is_for name) (put_by part.line.shard part.event)
    else []

-- what the events of a run put so, over all shards, the newest first
abbrev pub entries_put : ServerIdentity → ℕ → List ℕ → List Done → List Placed
entries_put server turn name h =
    flat_map (λ (d : Done). put_for turn name (part_of server d.before d.event d.won)) h

-- the name stands at no other place among the queue names of the job
abbrev pub StandsAt : List ℕ → ℕ → Job → Type 0
StandsAt name index job = (other : ℕ) → slice_get job.queues other ≡ Some name → other ≡ index

-- At most one message for a queue name of a turn, where that stands at most once among the queue
-- names of its job.
abbrev pub PutsOnce : Type 0
PutsOnce =
    (server : ServerIdentity) (h : List Done) (a : Node)
    → IsListed server
    → Ran server h a
    → (turn index : ℕ) (name : List ℕ)
    → Each (λ job. job.turn ≡ turn → StandsAt name index job) (jobs_of server h)
    → length (entries_put server turn name h) ≤ 1
