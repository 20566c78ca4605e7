-- Why a server refuses what a shard is asked to do.
use Rattle.std.proofs.Common.{◌≡◌, ℕ, false, length, Option, Some, sym, ap}
use Rattle.std.specs.Prelude.{slice_get}
use Rattle.node_law.specs.Events.{Own, AtShard}
use Rattle.node_law.specs.declared.events.ShardWork.{ShardWork}
use Rattle.node_core.specs.Served.{Served, place_of_shard, refusal}
use Rattle.node_law.specs.State.{ShardWithJobs}
use Rattle.node_law.specs.Steps.{work_event, event_refusal, work_refusal}
use Rattle.node_core.proofs.Calls.Composed.{shard_found}

pub work_refused : (s : Served) (shard count place : ℕ) (o : Option ℕ) (line : ShardWithJobs) (work : ShardWork)
    → count ≡ length s.node.lines
    → o ≡ place_of_shard count shard
    → o ≡ Some place
    → slice_get s.node.lines place ≡ Some line
    → event_refusal line (work_event work false line) ≡ refusal s (Own (AtShard shard work))
work_refused s shard count place o line work is_count given some here =
    sym (ap (work_refusal work) (shard_found s.node shard count place o line is_count given some here).is)
