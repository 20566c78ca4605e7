use Rattle.std.proofs.Common.{subst}
use Rattle.node_threads.specs.AtHub.{AtHub}
use Rattle.server_calls.specs.Routed.{took, taken_of}
use Rattle.thread_node.specs.Held.{RoutedByHub}
use Rattle.thread_node.proofs.Working.{frames_so}
use Rattle.thread_node.proofs.serving.HeldHubHubCalls.take_frames.Goals as goal

pub returns : goal.returns
returns g c =
    subst
    (λ (old : AtHub). RoutedByHub g.N.NodeName.race.shards old
    (took c.args.peer c.args.count (taken_of (λ frames. frames.items) c.take_frames.result)) c.take_frames.new.self)
    c.deref_mut-hub.ensures.value
    (frames_so c.deref_mut-hub.result.now (λ frames. frames.items) c.args.peer c.args.count c.take_frames.result
    c.take_frames.new.self c.take_frames.ensures)
