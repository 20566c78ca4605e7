use Rattle.std.proofs.Common.{◌≡◌, ◌+◌, ◌≤◌, drop}
use Rattle.subj.specs.declared.limits.TheConstants.{MAX_WEIGHT}
use Rattle.interest.specs.Tally.{number_behind}
use Rattle.interest.proofs.tally.number_behind.Given as goal

abbrev pub invariant-loop-delta : goal.invariant-loop-delta
invariant-loop-delta l = record {
  same : number_behind (drop l.delta-index l.deltas) l.key l.number ≡ number_behind l.deltas l.key l.fn.number;
  most : l.number ≤ MAX_WEIGHT + l.delta-index;
}
