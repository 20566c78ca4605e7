use Rattle.std.proofs.Common.{◌≡◌, ◌≤◌, length, drop, map}
use Rattle.std.specs.Prelude.{vec_len, vec_capacity}
use Rattle.node_core.specs.InCode.{event_of}
use Rattle.node_core.specs.OneRun.{outcome_told}
use Rattle.node_core.proofs.Outcomes.Running.{IsBegun}
use Rattle.node_core.proofs.node.Node.run.Given as goal

abbrev pub invariant-loop-event : goal.invariant-loop-event
invariant-loop-event g l = record {
  begun : IsBegun l.fn.self (map event_of l.events) (map outcome_told l.answers.items) l.self
      (map event_of (drop l.event-index l.events));
  count : vec_len l.answers ≡ l.event-index;
  room : length l.events ≤ vec_capacity l.answers;
}
