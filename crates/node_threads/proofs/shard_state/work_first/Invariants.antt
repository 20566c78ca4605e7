use Rattle.std.proofs.Common.{◌≡◌, ◌≤◌, ◌-◌, length}
use Rattle.node_threads.specs.Turns.{WorksFirst}
use Rattle.node_threads.proofs.shard_state.work_first.Given as goal

abbrev pub invariant-loop-done : goal.invariant-loop-done
invariant-loop-done g l = record {
  few : l.done ≤ length l.jobs;
  race : l.seat.race ≡ l.initial.seat.race;
  finished : l.seat.part.finished ≡ l.shard.state.finished;
  next : l.seat.part.next ≡ 0;
  works : WorksFirst l.jobs l.done l.initial.shard.state l.initial.seat.part l.shard.state l.seat.part;
}

abbrev pub decreases-loop-done : goal.decreases-loop-done
decreases-loop-done g l = length l.jobs - l.done
