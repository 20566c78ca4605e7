use Rattle.std.proofs.Common.{◌≡◌, ◌++◌, drop}
use Rattle.hub_core.specs.Chosen.{chosen_for, sent_from}
use Rattle.hub_core.proofs.publishing.frames_for.Given as goal

abbrev pub invariant-loop-place : goal.invariant-loop-place
invariant-loop-place l =
    l.frames.items
    ++ sent_from l.out.server.now l.out.number l.out.message.now
    (λ server_name. chosen_for server_name l.out.names.now l.out.servers.now) l.place
    (drop l.place l.peers)
    ≡ sent_from l.out.server.now l.out.number l.out.message.now
    (λ server_name. chosen_for server_name l.out.names.now l.out.servers.now) 0 l.peers
