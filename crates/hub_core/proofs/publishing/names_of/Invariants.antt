use Rattle.std.proofs.Common.{◌≡◌, ◌++◌, drop}
use Rattle.hub_core.specs.Chosen.{chosen_for}
use Rattle.hub_core.proofs.publishing.names_of.Given as goal

abbrev pub invariant-loop-place : goal.invariant-loop-place
invariant-loop-place l =
    l.chosen.items ++ chosen_for l.server_name (drop l.place l.names) (drop l.place l.servers)
    ≡ chosen_for l.server_name l.names l.servers
