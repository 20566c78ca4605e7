use Rattle.std.proofs.Common.{◌≡◌, length, take}
use Rattle.subj.specs.declared.limits.TheConstants.{MAX_SHARDS}
use Rattle.node_parts.proofs.jobs.finished_by.Given as goal

abbrev pub invariant-loop-place : goal.invariant-loop-place
invariant-loop-place g l = record {
  size : length l.finished ≡ MAX_SHARDS;
  told : take l.place l.finished ≡ take l.place (g.R.Race.contents l.race).finished;
}
