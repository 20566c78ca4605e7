use Rattle.node_net.proofs.SendingLemmas.{kept_in_order, lost_at_the_end, nothing_behind_a_loss}
use Rattle.node_net.proofs.laws.sent_bytes_keep_their_order.Goals as goal

pub returns-clause-kept : goal.returns-clause-kept
returns-clause-kept g c = kept_in_order g.S.Stream.gave g.S.Stream.wrote

pub returns-clause-lost : goal.returns-clause-lost
returns-clause-lost g c = lost_at_the_end g.S.Stream.gave g.S.Stream.wrote

pub returns-clause-behind : goal.returns-clause-behind
returns-clause-behind g c = nothing_behind_a_loss g.S.Stream.gave g.S.Stream.wrote
