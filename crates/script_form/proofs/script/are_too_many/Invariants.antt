use Rattle.std.proofs.Common.{◌≡◌, ◌+◌, ◌≤◌, drop}
use Rattle.subj.specs.declared.limits.TheConstants.{SCRIPT_EVENTS}
use Rattle.script_form.specs.Form.{count_of}
use Rattle.script_form.proofs.script.are_too_many.Given as goal

-- those so far and those of the rest are all, and there are not too many so far
abbrev pub invariant-loop-step : goal.invariant-loop-step
invariant-loop-step l = record {
  whole : l.count + count_of (drop l.step-index l.steps) ≡ count_of l.steps;
  few : l.count ≤ SCRIPT_EVENTS;
}
