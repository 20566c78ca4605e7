use Rattle.std.proofs.Common.{subst}
use Rattle.node_net.specs.Keyed.{ChangesAt}
use Rattle.node_net.specs.Taking.{SendsPart}
use Rattle.node_net.proofs.TakingLemmas.{sends_last}
use Rattle.node_net.proofs.connections.Connections.write_parts.Goals as goal

pub returns-in-Some : goal.returns-in-Some
returns-in-Some g c =
    let put : ChangesAt (SendsPart g.S.Stream.gave g.S.Stream.wrote c.args.taken.now.lent.items) c.in-Some.key
    c.write_all.new.self.table c.write_part.new.self.table =
    subst
    (λ xs. ChangesAt (SendsPart g.S.Stream.gave g.S.Stream.wrote xs) c.in-Some.key c.write_all.new.self.table
    c.write_part.new.self.table)
    c.deref.ensures.value c.write_part.ensures in
    sends_last g.S.Stream.gave g.S.Stream.wrote c.args.self.now.table c.write_all.new.self.table
    c.write_part.new.self.table c.args.taken.now.parts c.args.taken.now.last c.in-Some.key c.args.taken.now.lent.items
    c.write_all.ensures c.in-Some.is put
