use Rattle.std.proofs.Common.{◌≡◌, ◌≤◌, take}
use Rattle.std.specs.List.{count_by}
use Rattle.subj.specs.QueueNames.{is_named}
use Rattle.hub_core.proofs.publishing.count_chosen.Given as goal

abbrev pub invariant-loop-place : goal.invariant-loop-place
invariant-loop-place l =
    (l.chosen ≡ count_by (is_named l.server_name) (take l.place l.servers)) × (l.chosen ≤ l.place)
