use Rattle.std.proofs.Common.{◌≡◌, [], take}
use Rattle.std.specs.Prelude.{filter}
use Rattle.outbox.specs.Kept.{is_whole}
use Rattle.outbox.proofs.kept_queue.any_whole.Given as goal

abbrev pub invariant-loop-place : goal.invariant-loop-place
invariant-loop-place l = filter is_whole (take l.place l.kept.items) ≡ []
