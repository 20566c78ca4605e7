use Rattle.net_streams.proofs.LifeLemmas.{keeps_order, ends_at_failure}
use Rattle.net_streams.proofs.laws.bytes_keep_their_order.Goals as goal

pub returns-clause-order : goal.returns-clause-order
returns-clause-order g c = keeps_order g.S.Stream.gave g.S.Stream.wrote

pub returns-clause-failed : goal.returns-clause-failed
returns-clause-failed g c = ends_at_failure g.S.Stream.gave g.S.Stream.wrote
