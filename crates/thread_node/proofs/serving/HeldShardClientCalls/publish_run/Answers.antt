use Rattle.std.proofs.Common.{[], refl}
use Rattle.thread_node.proofs.serving.HeldShardClientCalls.publish_run.Goals as goal

pub returns : goal.returns
returns g c = record { publications = []; counted = refl; given = refl; chain = refl }
